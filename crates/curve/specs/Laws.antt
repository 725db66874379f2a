-- What holds of every row's curve, whatever its numbers: once, over the row.
use Rattle.std.specs.Prelude.{ℕ, ◌*◌, ◌-◌, max, ◌≤◌, ◌≡◌, Bool}
use native.Mathlib.Omega.{arith}
use Rattle.std.proofs.Math.Nat.{mul-le-mul}
use Rattle.std.proofs.Common.{le_refl}
use Rattle.std.proofs.Math.Path.{refl}
use Rattle.std.proofs.Math.Bool.{true, false}
use Rattle.std.proofs.Math.Dec.{leb}
use borrow.Author.Tests.{leb-true, leb-false}
use Rattle.leaf.specs.Choosing.{pick}
use Rattle.curve.specs.Curve.{fallen_of, curve_of}

module _ (initial last delay drop : ℕ) (row : last ≤ initial) where
  -- a curve never leaves [final, initial]
  pub above_final : (age : ℕ) → last * 100 ≤ curve_of initial last delay drop age
  unfolding curve_of fallen_of
  above_final age = cases (leb age delay)
    where
      cases : (flat : Bool) → last * 100 ≤ pick flat (initial * 100) (max (last * 100) (initial * 100 - (age - delay) * drop))
      cases true = omega arith
      cases false = omega arith

  pub under_initial : (age : ℕ) → curve_of initial last delay drop age ≤ initial * 100
  unfolding curve_of fallen_of
  under_initial age = cases (leb age delay)
    where
      cases : (flat : Bool) → pick flat (initial * 100) (max (last * 100) (initial * 100 - (age - delay) * drop)) ≤ initial * 100
      cases true = omega arith
      cases false = omega arith

  -- a curve never rises
  pub never_rises : (age later : ℕ) → age ≤ later → curve_of initial last delay drop later ≤ curve_of initial last delay drop age
  unfolding curve_of fallen_of
  never_rises age later older = cases (leb age delay) refl (leb later delay) refl
    where
      cases :
          (a : Bool) → leb age delay ≡ a → (b : Bool) → leb later delay ≡ b
          → pick b (initial * 100) (max (last * 100) (initial * 100 - (later - delay) * drop))
          ≤ pick a (initial * 100) (max (last * 100) (initial * 100 - (age - delay) * drop))
      cases true p true q = omega arith
      cases true p false q = omega arith
      cases false p true q = let l = leb-false age delay p in let r = leb-true later delay q in omega arith
      cases false p false q =
          let h : (age - delay) * drop ≤ (later - delay) * drop = mul-le-mul (omega arith) (le_refl drop) in
          omega arith
