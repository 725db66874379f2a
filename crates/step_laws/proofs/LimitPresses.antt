-- Buttons 6 and 8 on the limits: what a press that no window takes takes off, and when increase steps.
use Prim.Native.Nat.{ℕ, ◌+◌, ◌*◌, ◌≤◌, ◌<◌, min}
use native.Mathlib.Omega.{arith}
use mathlib.Core.Path.{◌≡◌, refl}
use mathlib.Core.Bool.{Bool, true, false, ◌&&◌, ◌||◌, not}
use mathlib.Core.Logic.{◌⊎◌, inl, inr}
use lib.Dec.{eqb, ltb}
use borrow.Author.Tests.{eqb-true, lt-ltb, ltb-true, not-true}
use Rattle.leaf.specs.Choosing.{pick, and_split}
use Rattle.leaf.specs.Numbers.{below_of}
use Rattle.card.specs.declared.Row.{Row}
use Rattle.signals.specs.Windows.{answers_of}
use Rattle.sides.specs.declared.pairs.FourLimits.{FourLimits}
use Rattle.sides.specs.Limit.{stepped_final, stepped, removable}
use Rattle.sides.specs.Pairs.{no_paired, four_with, lowest_to_go}
use Rattle.desk.specs.declared.state.Desk.{Desk}
use Rattle.buttons.specs.Buttons.{main_answered, side_answered, pressed, free_for, limit_removed, paired_removed, single_first, lowest_removed, stop_increased, limit_stepped}
use Rattle.step.specs.Step.{has_pairs}
use Rattle.step_laws.specs.Pairs.{IsSpeed}
use Rattle.step_laws.proofs.Choosing.{not_so}
use Rattle.step_laws.proofs.Four.{not_zero, goes, Found, NoneGoes, found_goes}

-- ---- button 6

-- a press that no window takes changes no window
pub free_facts : (on : Bool) (weight : ℕ) (e : Desk) → free_for on weight e ≡ true → pressed on weight e ≡ e
unfolding free_for pressed side_answered main_answered
free_facts on weight e h =
    let t = and_split (on && not (answers_of e.window weight)) (not (answers_of e.side weight)) h in
    let u = and_split on (not (answers_of e.window weight)) t.0 in
    rw (u.0, not-true (answers_of e.window weight) u.1, not-true (answers_of e.side weight) t.1)

module _ (m : ℕ) (row : Row) (top : ℕ) (e : Desk) where
  abbrev p : FourLimits
  p = e.beside.paired.limits

  abbrev speed : ℕ
  speed = lowest_to_go m top p

  -- the single one may go
  abbrev Single : Type 0
  Single = (e.beside.limit.on ≡ true) × (9 * m < 25 * stepped_final row.last e.beside.limit.steps top)

  abbrev last : ℕ
  last = stepped_final row.last e.beside.limit.steps top

  pub single_as : Single → removable m row.last top e.beside.limit ≡ true
  unfolding removable
  single_as h = rw (h.0, lt-ltb (9 * m) (25 * last) h.1)

  pub single_is : removable m row.last top e.beside.limit ≡ true → Single
  unfolding removable
  single_is h = let t = and_split e.beside.limit.on (below_of m last) h in (t.0, ltb-true (9 * m) (25 * last) t.1)

  -- the single one does not go first where a paired one that goes is as low
  not_single : (v : ℕ) → eqb v 0 ≡ false → (Single → min top (v * 100) ≤ last) → single_first m row top v e ≡ false
  not_single v z low = not_so _ first
    where
      first : single_first m row top v e ≡ true → ⊥
      first h =
          let t = and_split (removable m row.last top e.beside.limit) (eqb v 0 || ltb last (min top (v * 100))) h in
          let l = low (single_is t.0) in
          let less = ltb-true last (min top (v * 100)) (rw z at t.1) in
          omega arith

  pub paired_goes_off : (v : ℕ) → speed ≡ v → eqb v 0 ≡ false → (Single → min top (v * 100) ≤ last)
      → (lowest_removed true m row top e).beside ≡ record { alongside = e.beside.alongside; crossing = e.beside.crossing; limit = e.beside.limit; paired = record { first = e.beside.paired.first; limits = four_with v no_paired p } }
  unfolding lowest_removed paired_removed
  paired_goes_off v s z low = rw (s, not_single v z low, z)

  pub single-goes_off : Single → ((v : ℕ) → IsSpeed v → goes m top p v ≡ true → last < min top (v * 100)) → lowest_removed true m row top e ≡ limit_removed true e
  unfolding lowest_removed
  single-goes_off h low = rw (single_as h) (cases (found_goes m top p))
    where
      cases : NoneGoes m top p speed ⊎ Found m top p speed → pick (eqb speed 0 || ltb last (min top (speed * 100))) (limit_removed true e) (paired_removed speed e) ≡ limit_removed true e
      cases (inl z) = rw z.no_speed
      cases (inr f) = rw (not_zero speed f.is_speed, lt-ltb last (min top (speed * 100)) (low speed f.is_speed f.may_go))

  pub none_goes_off : (Single → ⊥) → ((v : ℕ) → IsSpeed v → goes m top p v ≡ true → ⊥) → lowest_removed true m row top e ≡ e
  unfolding lowest_removed paired_removed
  none_goes_off n none = rw (not_so (removable m row.last top e.beside.limit) (λ h. n (single_is h))) (cases (found_goes m top p))
    where
      cases : NoneGoes m top p speed ⊎ Found m top p speed → paired_removed speed e ≡ e
      cases (inl z) = rw z.no_speed
      cases (inr f) = absurd (none speed f.is_speed f.may_go)

-- ---- increase

pub increase_single : (t b : Bool) (e : Desk) → (limit_stepped t (stop_increased b e)).beside.limit ≡ pick t (stepped e.beside.limit) e.beside.limit
unfolding limit_stepped stop_increased
increase_single true true e = refl
increase_single true false e = refl
increase_single false true e = refl
increase_single false false e = refl

-- below min(T, 160) there are fewer than 8 steps
pub one_more : (last steps top : ℕ) → stepped_final last steps top < min top 16000 → min (steps + 1) 8 ≡ steps + 1
unfolding stepped_final
one_more last steps top h = cases (eqb steps 0) refl h
  where
    cases : (t : Bool) → eqb steps 0 ≡ t → pick t (last * 100) (min (last * 100 + steps * 2000) (min top 16000)) < min top 16000 → min (steps + 1) 8 ≡ steps + 1
    cases true z below = let zero = eqb-true steps 0 z in omega arith
    cases false z below = omega arith

pub set_by : (version : ℕ) (answered : Bool) → (version ≡ 3 → answered ≡ true) → (not (has_pairs version) || answered) ≡ true
set_by version answered h = cases (eqb version 3) refl
  where
    cases : (t : Bool) → eqb version 3 ≡ t → (not t || answered) ≡ true
    cases true e = h (eqb-true version 3 e)
    cases false e = refl
