-- The lowest of the limits is the one that sets S.
use Prim.Native.Nat.{ℕ, ◌*◌}
use mathlib.Core.Path.{◌≡◌, refl, sym, ap, subst}
use mathlib.Core.Bool.{true}
use mathlib.Core.List.{List, ◌∷◌}
use Rattle.card.specs.declared.Settings.{Settings}
use Rattle.desk.specs.declared.state.Desk.{Desk}
use Rattle.step.specs.declared.speed.Standing.{Standing}
use Rattle.step.specs.declared.speed.Reason.TheVariants as reason
use Rattle.step.specs.Speed.{none, lower, always_at, bts_limit, main_limit, limits_beside, limits, least_of, supervised_of}
use Rattle.step.specs.Reason.{first_at, reason_of}
use Rattle.step.proofs.Least.{least_first}

-- a list whose first stands
first_sets : (a : Standing) (ls : List Standing) → lower none a ≡ a → a.stands ≡ true → least_of none (a ∷ ls) ≡ first_at (least_of none (a ∷ ls)).speed (a ∷ ls)
first_sets a ls same stands = subst (λ (b : Standing). least_of b ls ≡ first_at (least_of b ls).speed (a ∷ ls)) (sym same) (least_first a ls stands)

-- vmax comes first, and it stands
pub lowest_sets : (s : Settings) (top : ℕ) (d : Desk) → least_of none (limits s top d) ≡ reason_of s top d
unfolding reason_of supervised_of lower
lowest_sets s top d =
    first_sets (always_at reason.Vmax (s.vmax * 100)) (always_at reason.Train top ∷ bts_limit d.bts s.bts ∷ main_limit s top d.main ∷ limits_beside s top d.beside) refl refl

-- so its speed is S
pub reason_speed : (s : Settings) (top : ℕ) (d : Desk) → (reason_of s top d).speed ≡ supervised_of s top d
unfolding supervised_of
reason_speed s top d = ap (λ (l : Standing). l.speed) (sym (lowest_sets s top d))
