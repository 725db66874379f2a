-- Where no paired limit stands, the lowest limit is that of the others.
use Prim.Native.Nat.{ℕ}
use mathlib.Core.Path.{◌≡◌}
use mathlib.Core.Bool.{false}
use Rattle.sides.specs.declared.pairs.FourLimits.{FourLimits}
use Rattle.sides.specs.Pairs.{any_paired, pair_speeds}
use Rattle.sides.specs.Laws.{none_stands}
use Rattle.step.specs.declared.speed.Standing.{Standing}
use Rattle.step.specs.Speed.{lower, least_of, paired_limit, paired_limits}

pub none_lower : (top : ℕ) (p : FourLimits) (so_far : Standing) → any_paired p ≡ false → least_of so_far (paired_limits top p pair_speeds) ≡ so_far
unfolding lower paired_limit
none_lower top p so_far h =
    let n = none_stands p h in
    rw (n.thirty, n.forty, n.fifty, n.seventy)
