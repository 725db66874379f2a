use lib.ListN.{take}
use Rattle.tone.specs.Tones.{rows_of}
use Rattle.std.proofs.Common.{◌≡◌, length}
use Rattle.tone.proofs.sheet_of.Given as goal

abbrev pub invariant-loop-k : goal.invariant-loop-k
invariant-loop-k l = (length l.row-items ≡ 12) × (take l.k l.row-items ≡ rows_of l.area l.k)
