-- The digits that are left, behind the number that those before them say, say what the word says.
use lib.ListN.{drop}
use Rattle.receive.specs.Size.{size_behind}
use Rattle.std.proofs.Common.{◌≡◌, ◌≤◌}
use Rattle.receive.proofs.size_in.Given as goal

abbrev pub invariant-loop-digit : goal.invariant-loop-digit
invariant-loop-digit l = (size_behind l.n (drop l.digit-index l.word) ≡ size_behind 0 l.word) × (l.n ≤ 4096)
