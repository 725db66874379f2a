-- No more bytes of the line are kept than there is room for.
use Rattle.std.proofs.Common.{length, ◌≤◌}
use Rattle.shell.proofs.read_line.Given as goal

abbrev pub invariant-loop-byte : goal.invariant-loop-byte
invariant-loop-byte g l = l.n ≤ length l.buf
