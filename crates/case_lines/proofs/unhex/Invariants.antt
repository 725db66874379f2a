use Rattle.text.specs.Typing.{typed}
use Rattle.std.proofs.Common.{length, ◌-◌, ◌≡◌, ◌+◌, drop}
use Rattle.case_lines.specs.Lines.{digit_run, pairs_of}
use Rattle.case_lines.proofs.unhex.Given as goal

abbrev pub invariant-loop-i : goal.invariant-loop-i
invariant-loop-i l = (length l.bytes ≡ length l.initial.bytes)
    × (typed (pairs_of (digit_run (drop l.i l.line))) (l.bytes, l.n) ≡ typed (pairs_of (digit_run (drop l.from l.line))) (l.initial.bytes, 0))
    × (l.i + length (digit_run (drop l.i l.line)) ≡ l.from + length (digit_run (drop l.from l.line)))

abbrev pub decreases-loop-i : goal.decreases-loop-i
decreases-loop-i l = length l.line - l.i
