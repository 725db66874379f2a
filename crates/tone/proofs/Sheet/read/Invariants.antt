use lib.ListN.{drop}
use Rattle.std.proofs.Common.{◌≡◌}
use Rattle.tone.specs.Tones.{read_from}
use Rattle.tone.proofs.Sheet.read.Given as goal

abbrev pub invariant-loop-k : goal.invariant-loop-k
invariant-loop-k l = read_from l.k (drop l.k l.row-items) l.tone ≡ read_from 0 l.row-items l.tone
