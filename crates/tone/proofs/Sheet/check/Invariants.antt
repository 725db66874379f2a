use Rattle.std.proofs.Common.{◌≡◌}
use Rattle.tone.specs.Tones.{fault_of}
use Rattle.tone.proofs.Sheet.check.Given as goal

-- none is found in the rows that passed
abbrev pub invariant-loop-k : goal.invariant-loop-k
invariant-loop-k l = fault_of l.version l.row-items l.k ≡ 0
