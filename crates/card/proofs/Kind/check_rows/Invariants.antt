use lib.ListN.{drop}
use Rattle.std.proofs.Common.{◌≡◌, ◌+◌, ◌*◌}
use Rattle.card.specs.Ranges.{rows_checks, first_refused}
use Rattle.card.proofs.Kind.check_rows.Given as goal

-- the rows behind those that passed decide
abbrev pub invariant-loop-row : goal.invariant-loop-row
invariant-loop-row l =
    (first_refused (rows_checks l.self 4 l.rows) ≡ first_refused (rows_checks l.self l.offset (drop l.row-index l.rows)))
    × (l.offset ≡ 4 + 4 * l.row-index)
