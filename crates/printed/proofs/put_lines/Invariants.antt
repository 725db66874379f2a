use Rattle.rides.specs.Ride.{ride_after}
use Rattle.std.proofs.Common.{◌≡◌}
use Rattle.text.specs.Typing.{typed}
use Rattle.printed.specs.Printed.{lines_of}
use Rattle.printed.proofs.put_lines.Given as goal

abbrev pub invariant-loop-k : goal.invariant-loop-k
invariant-loop-k l =
    (l.going ≡ ride_after l.initial.going l.recording l.k)
    × ((l.out, l.place) ≡ typed (lines_of l.form l.initial.going l.recording l.k) (l.initial.out, l.initial.place))
