-- Document 01, "Controls": what stands beside the main control: "the stop limit stays alongside", "Crossing", "Limit".
-- Document 02 g): the first of a pair of limit beacons, and the paired limits.
use Rattle.std.specs.Prelude.{ℕ}
use Rattle.signals.specs.declared.stop.Alongside.{Alongside}
use Rattle.signals.specs.Stop.{none_alongside, alongside_older}
use Rattle.sides.specs.declared.crossing.Crossing.{Crossing}
use Rattle.sides.specs.declared.limit.Limit.{Limit}
use Rattle.sides.specs.declared.pairs.Paired.{Paired}
use Rattle.sides.specs.Crossing.{no_crossing, crossing_older}
use Rattle.sides.specs.Limit.{no_limit, limit_older}
use Rattle.sides.specs.Pairs.{nothing_paired, all_older}
use Rattle.desk.specs.declared.beside.Beside.{Beside}

abbrev pub nothing_beside : Beside
nothing_beside = record { alongside = none_alongside; crossing = no_crossing; limit = no_limit; paired = nothing_paired }

-- ---- with one member changed

abbrev pub beside_with_alongside : Alongside → Beside → Beside
beside_with_alongside alongside b = record { alongside = alongside; crossing = b.crossing; limit = b.limit; paired = b.paired }

abbrev pub beside_with_crossing : Crossing → Beside → Beside
beside_with_crossing crossing b = record { alongside = b.alongside; crossing = crossing; limit = b.limit; paired = b.paired }

abbrev pub beside_with_limit : Limit → Beside → Beside
beside_with_limit limit b = record { alongside = b.alongside; crossing = b.crossing; limit = limit; paired = b.paired }

abbrev pub beside_with_paired : Paired → Beside → Beside
beside_with_paired paired b = record { alongside = b.alongside; crossing = b.crossing; limit = b.limit; paired = paired }

-- ---- "ages and distances advance, endings": each member ends by its own age or distance

unfoldable pub beside_older : ℕ → Beside → Beside
beside_older m b =
    record {
      alongside = alongside_older b.alongside;
      crossing = crossing_older m b.crossing;
      limit = limit_older b.limit;
      paired = all_older m b.paired;
    }
