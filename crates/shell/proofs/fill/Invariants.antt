-- No more is read than the buffer has room for.
use Rattle.std.proofs.Common.{length, ◌-◌, ◌≤◌}
use Rattle.shell.proofs.fill.Given as goal

abbrev pub invariant-loop-filled : goal.invariant-loop-filled
invariant-loop-filled g l = l.filled ≤ length l.buf

abbrev pub decreases-loop-filled : goal.decreases-loop-filled
decreases-loop-filled g l = length l.buf - l.filled
