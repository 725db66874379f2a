use Rattle.std.proofs.Common.{length, ◌+◌, ◌≡◌, ◌≤◌}
use Rattle.case_lines.specs.Lines.{behind_mark, up_to}
use Rattle.case_lines.proofs.behind.Given as goal

abbrev pub invariant-loop-left : goal.invariant-loop-left
invariant-loop-left l =
    (length l.left ≤ length l.text) × (behind_mark l.text l.from l.mark + length l.left ≡ length l.text + up_to l.mark l.left)

abbrev pub decreases-loop-left : goal.decreases-loop-left
decreases-loop-left l = length l.left
