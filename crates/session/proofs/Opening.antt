-- 02 g: opening "2, 5, 7" (g4): what opening gives, and exactly when.
use Prim.Native.Nat.{ℕ}
use mathlib.Core.Path.{◌≡◌, refl}
use mathlib.Core.Bool.{Bool, true, false, ◌&&◌}
use mathlib.Core.Logic.{◌⊎◌, inl, inr}
use native.Mathlib.Omega.{arith}
use lib.Dec.{eqb}
use Rattle.leaf.specs.Choosing.{pick}
use Rattle.leaf.specs.Answers.{Answer, given, refused, refused_at, is_given}
use Rattle.card.specs.declared.Card.{Card}
use Rattle.card.specs.declared.Settings.{Settings}
use Rattle.card.specs.Card.{known}
use Rattle.card.specs.Ranges.{fault_of, in_range, check_settings}
use Rattle.session.specs.declared.Session.{Session}
use Rattle.session.specs.Types.{type_allowed}
use Rattle.session.specs.Session.{fresh_session, judge_card, opened_after, open_session, card_inside}

-- 5 comes with its place
check_placed : (version : ℕ) (s : Settings) (n : ℕ) → check_settings version s ≡ refused n → ⊥
unfolding check_settings
check_placed version s n h = cases (eqb (fault_of version s) 0) h
  where
    cases : (t : Bool) → pick t in_range (refused_at 5 (fault_of version s)) ≡ refused n → ⊥
    cases true h = let z : ◌≡◌ {A = ℕ} 0 1 = cc in omega arith
    cases false h = let z : ◌≡◌ {A = ℕ} 0 1 = cc in omega arith

module _ (card : Card) where
  judged_by : (t : Bool) → known card.version ≡ t → judge_card card ≡ pick t (check_settings card.version card.settings) (refused 2)
  unfolding judge_card
  judged_by t e = rw e

  -- a card of a version that is known is judged by its settings, one of another is refused 2
  pub judged_known : known card.version ≡ true → judge_card card ≡ check_settings card.version card.settings
  judged_known e = judged_by true e

  pub judged_unknown : known card.version ≡ false → judge_card card ≡ refused 2
  judged_unknown e = judged_by false e

  -- a number alone is 2
  pub judged_number : (n : ℕ) → judge_card card ≡ refused n → (n ≡ 2) × (known card.version ≡ false)
  judged_number n h = cases (known card.version) refl
    where
      cases : (t : Bool) → known card.version ≡ t → (n ≡ 2) × (known card.version ≡ false)
      cases true e = absurd (check_placed card.version card.settings n (rw (← judged_known e) h))
      cases false e = let two = judged_unknown e in let same : n ≡ 2 = cc in (same, e)

  -- a number with a place is the settings' own
  pub judged_place : (n place : ℕ) → judge_card card ≡ refused_at n place
      → (known card.version ≡ true) × (check_settings card.version card.settings ≡ refused_at n place)
  judged_place n place h = cases (known card.version) refl
    where
      cases : (t : Bool) → known card.version ≡ t → (known card.version ≡ true) × (check_settings card.version card.settings ≡ refused_at n place)
      cases true e = (e, rw (← judged_known e) h)
      cases false e = let two = judged_unknown e in let z : ◌≡◌ {A = ℕ} 0 1 = cc in absurd (omega arith)

  -- none is given where version and settings pass
  pub judged_fine : judge_card card ≡ in_range → (known card.version ≡ true) × (check_settings card.version card.settings ≡ in_range)
  judged_fine h = cases (known card.version) refl
    where
      cases : (t : Bool) → known card.version ≡ t → (known card.version ≡ true) × (check_settings card.version card.settings ≡ in_range)
      cases true e = (e, rw (← judged_known e) h)
      cases false e = let two = judged_unknown e in let z : ◌≡◌ {A = ℕ} 0 1 = cc in absurd (omega arith)

module _ (card : Card) (train : ℕ) where
  -- a number alone is the judgement's, or 7: the card passes and the train type is not allowed
  pub opening_number : (n : ℕ) → open_session card train ≡ refused n
      → (judge_card card ≡ refused n) ⊎ ((n ≡ 7) × (judge_card card ≡ in_range) × (type_allowed train card.settings.vmax ≡ false))
  unfolding open_session
  opening_number n h = judged (judge_card card) refl h
    where
      Due : Type 0
      Due = (judge_card card ≡ refused n) ⊎ ((n ≡ 7) × (judge_card card ≡ in_range) × (type_allowed train card.settings.vmax ≡ false))

      typed : (t : Bool) → type_allowed train card.settings.vmax ≡ t → judge_card card ≡ in_range
          → pick t (given (fresh_session card train)) (refused 7) ≡ refused n → Due
      typed true e fine h = let z : ◌≡◌ {A = ℕ} 0 1 = cc in absurd (omega arith)
      typed false e fine h = let same : n ≡ 7 = cc in inr (same, fine, e)

      judged : (a : Answer Unit) → judge_card card ≡ a → opened_after a card train ≡ refused n → Due
      judged (given tt) e h = typed (type_allowed train card.settings.vmax) refl e h
      judged (refused m) e h = inl cc
      judged (refused_at m place) e h = let z : ◌≡◌ {A = ℕ} 0 1 = cc in absurd (omega arith)

  -- a number with a place is the judgement's own
  pub opening_place : (n place : ℕ) → open_session card train ≡ refused_at n place → judge_card card ≡ refused_at n place
  unfolding open_session
  opening_place n place h = judged (judge_card card) refl h
    where
      typed : (t : Bool) → pick t (given (fresh_session card train)) (refused 7) ≡ refused_at n place → ⊥
      typed true h = let z : ◌≡◌ {A = ℕ} 0 1 = cc in omega arith
      typed false h = let z : ◌≡◌ {A = ℕ} 0 1 = cc in omega arith

      judged : (a : Answer Unit) → judge_card card ≡ a → opened_after a card train ≡ refused_at n place → judge_card card ≡ refused_at n place
      judged (given u) e h = absurd (typed (type_allowed train card.settings.vmax) h)
      judged (refused m) e h = let z : ◌≡◌ {A = ℕ} 0 1 = cc in absurd (omega arith)
      judged (refused_at m p) e h = cc

  -- what is given is the fresh session
  pub opening_fresh : (s : Session) → open_session card train ≡ given s → s ≡ fresh_session card train
  unfolding open_session
  opening_fresh s h = judged (judge_card card) h
    where
      typed : (t : Bool) → pick t (given (fresh_session card train)) (refused 7) ≡ given s → s ≡ fresh_session card train
      typed true h = cc
      typed false h = cc

      judged : (a : Answer Unit) → opened_after a card train ≡ given s → s ≡ fresh_session card train
      judged (given u) h = typed (type_allowed train card.settings.vmax) h
      judged (refused m) h = cc
      judged (refused_at m p) h = cc

-- the judgement as a bool
pub judges_inside : (card : Card) → (known card.version && is_given (check_settings card.version card.settings)) ≡ card_inside card
unfolding card_inside judge_card
judges_inside card = cases (known card.version) (check_settings card.version card.settings)
  where
    cases : (t : Bool) (a : Answer Unit) → (t && is_given a) ≡ is_given (pick t a (refused 2))
    cases true a = refl
    cases false a = refl
