-- S is the least of the limits that stand.
use Prim.Native.Nat.{ℕ, ◌*◌, ◌≤◌}
use native.Mathlib.Omega.{arith}
use mathlib.Core.Path.{◌≡◌, refl, sym, ap, ◌∙◌}
use mathlib.Core.Bool.{true, false≢true}
use mathlib.Core.Logic.{◌⊎◌, inl, inr}
use mathlib.Core.List.{Memᴰ}
use Rattle.card.specs.declared.Settings.{Settings}
use Rattle.card.specs.declared.Card.{Card}
use Rattle.desk.specs.declared.state.Desk.{Desk}
use Rattle.step.specs.declared.speed.Standing.{Standing}
use Rattle.step.specs.declared.Input.{Input}
use Rattle.step.specs.Brake.{braked}
use Rattle.step.specs.Step.{judged_of, answer_of, step_of}
use Rattle.step.specs.declared.speed.Reason.TheVariants.{Vmax}
use Rattle.step.specs.Speed.{none, always_at, limits, least_of, supervised_of}
use Rattle.step.proofs.Least.{below, among}
use Rattle.step_laws.specs.Speed.{Stands, SpeedLaws}

module _ (s : Settings) (top : ℕ) where
  -- vmax stands, so that one stands
  one_stands : (d : Desk) → (least_of none (limits s top d)).stands ≡ true
  one_stands d =
      let first : Memᴰ (always_at Vmax (s.vmax * 100)) (limits s top d) = mathlib.Core.List.Memᴰ.head refl in
      (below (always_at Vmax (s.vmax * 100)) none first refl).0

  speed_below : (d : Desk) (n : ℕ) → Stands s top d n → supervised_of s top d ≤ n
  unfolding supervised_of
  speed_below d n l = let low = (below l.limit none l.listed l.stands).1 in let e = l.same in omega arith

  pub speed_among : (d : Desk) → Stands s top d (supervised_of s top d)
  unfolding supervised_of
  speed_among d = cases (among none (limits s top d))
    where
      cases : (least_of none (limits s top d) ≡ none) ⊎ Memᴰ (least_of none (limits s top d)) (limits s top d) → Stands s top d (least_of none (limits s top d)).speed
      cases (inl e) = absurd (false≢true (sym (ap (λ (l : Standing). l.stands) e) ∙ one_stands d))
      cases (inr m) = record { limit = least_of none (limits s top d); listed = m; stands = one_stands d; same = refl }

  speed_only : (d : Desk) (n : ℕ) → Stands s top d n → ((m : ℕ) → Stands s top d m → n ≤ m) → n ≡ supervised_of s top d
  speed_only d n one least = let a = speed_below d n one in let b = least (supervised_of s top d) (speed_among d) in omega arith

module _ (card : Card) (top : ℕ) where
  speed_answered : (x : Input) (d : Desk) → (step_of card top x d).answer.speed ≡ supervised_of card.settings top (step_of card top x d).desk
  unfolding step_of judged_of answer_of braked supervised_of
  speed_answered x d = refl

  pub speed_laws : SpeedLaws card top
  speed_laws =
      let s = card.settings in
      record { speed_below = speed_below s top; speed_among = speed_among s top; speed_only = speed_only s top; speed_answered = speed_answered }
