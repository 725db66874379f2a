-- THE OPENING FROM LOOSE SETTINGS: a version, settings and a train type that the caller puts together, whether or not an area holds them. All that
-- is said of that opening alone stands in this file and in proofs/Openings.antt: what it is answered as in plain facts, exactly (demand 1), and
-- what is shut out of it by name.
use Rattle.std.specs.Prelude.{ℕ, ◌≤◌, false, ◌↔◌, ◌≡◌}
use Rattle.leaf.specs.Answers.{Answer, given, refused, refused_at, is_given}
use Rattle.card.specs.declared.Card.{Card}
use Rattle.card.specs.Card.{base_kind}
use Rattle.card.specs.Plain.{Known, FirstOut, SettingsMet}
use Rattle.session.specs.declared.Session.{Session}
use Rattle.session.specs.Types.{type_speed}
use Rattle.session.specs.Session.{fresh_session, open_session}

-- ---- what it is answered as: document 01's "opening 5, 7" gives way to 02 g: "the opening now takes the version, and judges version and settings
-- as the writer does (2, then 5)": "2, 5, 7" (g4)

-- "train type not 1..8, or faster than vmax" is not so
pub record TypeMet (train vmax : ℕ) : Type 0 where
  pub low : 1 ≤ train
  pub high : train ≤ 8
  pub slow : type_speed train ≤ vmax

pub data OpenedAs (card : Card) (train : ℕ) : Answer Session → Type 0 where
  -- "Writer and opening: not 1..3 is 2." (g2)
  refused_2 : (Known card.version → ⊥) → OpenedAs card train (refused 2)
  -- "setting out of range, with place of the first"
  refused_5 : Known card.version → (at : ℕ) → FirstOut base_kind card.version card.settings at → OpenedAs card train (refused_at 5 at)
  refused_7 : Known card.version → SettingsMet card.version card.settings → (TypeMet train card.settings.vmax → ⊥)
      → OpenedAs card train (refused 7)
  opened : Known card.version → SettingsMet card.version card.settings → TypeMet train card.settings.vmax
      → OpenedAs card train (given (fresh_session card train))

-- ---- the statements

-- demand 1: the answer is as said, and nothing else is
abbrev pub OpensExactly : Type 0
OpensExactly = (card : Card) (train : ℕ) (a : Answer Session) → (open_session card train ≡ a) ↔ OpenedAs card train a

-- "refuses everything" is shut out
abbrev pub SomeOpening : Type 0
SomeOpening = ((card : Card) (train : ℕ) → is_given (open_session card train) ≡ false) → ⊥

-- "an invented place" is shut out: a place that is given is that of the first fault there is
abbrev pub NotInventedOpening : Type 0
NotInventedOpening = (card : Card) (train n at : ℕ) → open_session card train ≡ refused_at n at
    → (n ≡ 5) × FirstOut base_kind card.version card.settings at
