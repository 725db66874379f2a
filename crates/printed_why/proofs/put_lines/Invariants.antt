use Rattle.rides.specs.Ride.{ride_after}
use Rattle.std.proofs.Common.{◌≡◌}
use Rattle.text.specs.Typing.{typed}
use Rattle.printed_why.specs.PrintedWhy.{why_lines_of}
use Rattle.printed_why.proofs.put_lines.Given as goal

abbrev pub invariant-loop-k : goal.invariant-loop-k
invariant-loop-k l =
    (l.going ≡ ride_after l.initial.going l.recording l.k)
    × ((l.out, l.place) ≡ typed (why_lines_of l.telling l.initial.going l.recording l.k) (l.initial.out, l.initial.place))
