-- The opening from loose settings is answered exactly as is said of it; and what is shut out of it.
use Prim.Native.Nat.{ℕ}
use mathlib.Core.Bool.{Bool, true, false, false≢true}
use mathlib.Core.Path.{◌≡◌, refl, sym, ◌∙◌}
use Rattle.leaf.specs.Choosing.{pick}
use Rattle.leaf.specs.Answers.{Answer, given, refused, refused_at, is_given}
use Rattle.card.specs.declared.Card.{Card}
use Rattle.card.specs.Card.{base_kind}
use Rattle.card.specs.Plain.{Known, FirstOut, SettingsMet}
use Rattle.session.specs.declared.Session.{Session}
use Rattle.session.specs.Types.{type_allowed}
use Rattle.session.specs.Session.{fresh_session, judge_card, opened_after, open_session}
use Rattle.laws.proofs.Ranges.{session_ranges}
use Rattle.demands.specs.Examples.{card_of_a}
use Rattle.demands.specs.Opening.{TypeMet, OpenedAs, OpensExactly, SomeOpening, NotInventedOpening}
use Rattle.demands.specs.Opening as paper
use Rattle.demands.proofs.Computes.{definitions}
use Rattle.demands.proofs.Answered.{exactly, JudgedAs, judged_is, judged_only}
use Rattle.demands.proofs.Answered as judged

-- ---- as said, exactly

module _ (card : Card) (train : ℕ) where
  abbrev vmax : ℕ
  vmax = card.settings.vmax

  type_only : type_allowed train vmax ≡ true → TypeMet train vmax
  type_only e = let t = (session_ranges.type_allowed_lem train vmax).0 e in record { low = t.0; high = t.1.0; slow = t.1.1 }

  type_when : TypeMet train vmax → type_allowed train vmax ≡ true
  type_when m = (session_ranges.type_allowed_lem train vmax).1 (m.low, (m.high, m.slow))

  opened_is : OpenedAs card train (open_session card train)
  unfolding open_session
  opened_is = from (judge_card card) (judged_is card)
    where
      typed : (t : Bool) → type_allowed train vmax ≡ t → Known card.version → SettingsMet card.version card.settings
          → OpenedAs card train (pick t (given (fresh_session card train)) (refused 7))
      typed true e k m = paper.OpenedAs.opened k m (type_only e)
      typed false e k m = paper.OpenedAs.refused_7 k m (λ t. false≢true (sym e ∙ type_when t))

      from : (a : Answer Unit) → JudgedAs card a → OpenedAs card train (opened_after a card train)
      from a (judged.JudgedAs.unknown u) = paper.OpenedAs.refused_2 u
      from a (judged.JudgedAs.out_of_range k at f) = paper.OpenedAs.refused_5 k at f
      from a (judged.JudgedAs.fine k m) = typed (type_allowed train vmax) refl k m

  passes : Known card.version → SettingsMet card.version card.settings → judge_card card ≡ given tt
  passes k m = judged_only card (given tt) (judged.JudgedAs.fine k m)

  opened_only : (a : Answer Session) → OpenedAs card train a → open_session card train ≡ a
  unfolding open_session
  opened_only a (paper.OpenedAs.refused_2 u) = rw (judged_only card (refused 2) (judged.JudgedAs.unknown u))
  opened_only a (paper.OpenedAs.refused_5 k at f) = rw (judged_only card (refused_at 5 at) (judged.JudgedAs.out_of_range k at f))
  opened_only a (paper.OpenedAs.refused_7 k m w) = rw (passes k m) (cases (type_allowed train vmax) refl)
    where
      cases : (t : Bool) → type_allowed train vmax ≡ t → pick t (given (fresh_session card train)) (refused 7) ≡ refused 7
      cases true e = absurd (w (type_only e))
      cases false e = refl
  opened_only a (paper.OpenedAs.opened k m t) = rw (passes k m, type_when t)

pub openings_exactly : OpensExactly
openings_exactly card train = exactly (OpenedAs card train) (opened_is card train) (opened_only card train)

-- ---- shut out

opens_a : is_given (open_session card_of_a 6) ≡ true
unfolding definitions
opens_a = refl

pub some_opening : SomeOpening
some_opening h = false≢true (sym (h card_of_a 6) ∙ opens_a)

opened_at : {card : Card} {train n at : ℕ} → OpenedAs card train (refused_at n at) → (n ≡ 5) × FirstOut base_kind card.version card.settings at
opened_at (paper.OpenedAs.refused_5 k at f) = (refl, f)

pub not_invented_opening : NotInventedOpening
not_invented_opening card train n at e = opened_at ((openings_exactly card train (refused_at n at)).0 e)
