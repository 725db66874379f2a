use native.Mathlib.Numerals.{add-one}
use mathlib.Core.Path.{refl}
use Rattle.text.specs.Typing.{typed, then_typed}
use Rattle.printed.specs.Printed.{lines_of}
use Rattle.rides.specs.Ride.{ride_from, turn_at}
use Rattle.rides.proofs.Runs.{after_suc}
use Rattle.printed.proofs.put_lines.Goals as goal

pub loop-k-init : goal.loop-k-init
unfolding ride_from lines_of typed
loop-k-init c = (refl, refl)

pub loop-k-preserved : goal.loop-k-preserved
unfolding lines_of turn_at
loop-k-preserved c = let l = c.loop-k in
    let turned = c.turn_asking_at-explained.ensures in (
      rw (add-one, after_suc, turned, l.invariant.0),
      rw add-one (then_typed _ _ _ l.invariant.1 (rw (add-one, c.from-number.ensures, turned, l.invariant.0) at c.put_turned-place.ensures)),
    )
