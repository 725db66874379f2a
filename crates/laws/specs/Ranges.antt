-- Document 01, "The sample": "Ages count samples from the sample that starts them (age 0) and stop at 30,000; distances stop at 60,000,000.
-- These, steps 0..8, mode, cause, code and settings in range, and a train type that 7 allows, are the session's ranges"; 02 b: "The session
-- gains a count."
-- Here in plain facts, and that a session is inside exactly when they hold.
use Rattle.std.specs.Prelude.{ℕ, ◌≤◌, ◌≡◌, true, ◌↔◌}
use Rattle.card.specs.declared.Card.{Card}
use Rattle.card.specs.Plain.{Known, SettingsMet}
use Rattle.session.specs.declared.Session.{Session}
use Rattle.session.specs.Types.{type_speed, type_allowed}
use Rattle.session.specs.Session.{card_inside, inside_of}
use Rattle.step_laws.specs.Ranges.{DeskIn}

-- 02 g: "8 judges settings beside it as the opening does" (g5): a version that is known, and the settings beside it by the card's plain facts
pub record CardIn (card : Card) : Type 0 where
  pub version : Known card.version
  pub settings : SettingsMet card.version card.settings

-- a session inside its ranges: version and settings judged as opening judges them; the desk by `≤` on each number
pub record Inside (s : Session) : Type 0 where
  pub card : CardIn s.card
  pub train_low : 1 ≤ s.train
  pub train_high : s.train ≤ 8
  pub type_speed_lem : type_speed s.train ≤ s.card.settings.vmax
  pub desk : DeskIn s.desk

pub record SessionRanges : Type 0 where
  pub card_inside_lem : (card : Card) → (card_inside card ≡ true) ↔ CardIn card
  -- "7 | train type not 1..8, or faster than vmax"
  pub type_allowed_lem : (train vmax : ℕ) → (type_allowed train vmax ≡ true) ↔ ((1 ≤ train) × ((train ≤ 8) × (type_speed train ≤ vmax)))
  -- the session: inside exactly when the facts hold
  pub inside_exactly : (s : Session) → (inside_of s ≡ true) ↔ Inside s
