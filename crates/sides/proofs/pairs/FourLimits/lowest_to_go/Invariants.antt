use Rattle.std.proofs.Common.{◌≡◌, drop}
use Rattle.leaf.specs.Checks.{first_bad}
use Rattle.sides.specs.Pairs.{stays_checks, lowest_to_go}
use Rattle.sides.proofs.pairs.FourLimits.lowest_to_go.Given as goal

-- none of the speeds before this one may go
abbrev pub invariant-loop-speed : goal.invariant-loop-speed
invariant-loop-speed l = first_bad 0 (stays_checks l.m l.top l.self (drop l.speed-index l.speed-items)) ≡ lowest_to_go l.m l.top l.self
