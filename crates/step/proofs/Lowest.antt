-- The lowest of a cause and none is the cause.
use Prim.Native.Nat.{ℕ}
use mathlib.Core.Path.{◌≡◌, refl, sym}
use mathlib.Core.Bool.{Bool, true, false}
use lib.Dec.{eqb}
use borrow.Author.Tests.{eqb-true}
use Rattle.leaf.specs.Choosing.{pick}
use Rattle.step.specs.Brake.{lowest}

pub lowest_alone : (cause : ℕ) → lowest cause 0 ≡ cause
unfolding lowest
lowest_alone cause = cases (eqb cause 0) refl
  where
    cases : (t : Bool) → eqb cause 0 ≡ t → pick t 0 cause ≡ cause
    cases true e = sym (eqb-true cause 0 e)
    cases false e = refl
