use Rattle.std.proofs.Common.{◌≡◌, ◌≤◌}
use Rattle.shown_tones.specs.Shown.{shared_by}
use Rattle.shown_tones.proofs.shared_by.Given as goal

abbrev pub invariant-loop-i : goal.invariant-loop-i
invariant-loop-i l = shared_by l.area l.k l.i ≡ 0
