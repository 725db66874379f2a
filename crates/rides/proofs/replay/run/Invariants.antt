use Rattle.rides.proofs.Replays.{At}
use Rattle.std.proofs.Common.{◌-◌, ◌≤◌}
use Rattle.rides.proofs.replay.run.Given as goal

abbrev pub invariant-loop-k : goal.invariant-loop-k
invariant-loop-k l = (l.k ≤ l.n) × (l.ran ≤ l.k) × At l.initial.going l.recording l.place l.k l.going l.last l.ran

abbrev pub decreases-loop-k : goal.decreases-loop-k
decreases-loop-k l = l.n - l.k
