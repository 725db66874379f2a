use native.Mathlib.Numerals.{add-one}
use mathlib.Core.Path.{refl}
use Rattle.text.specs.Typing.{typed, then_typed}
use Rattle.printed_why.specs.PrintedWhy.{why_lines_of}
use Rattle.rides.specs.Ride.{ride_from}
use Rattle.rides.proofs.Runs.{after_suc}
use Rattle.printed_why.proofs.put_lines.Goals as goal

pub loop-k-init : goal.loop-k-init
unfolding ride_from why_lines_of typed
loop-k-init c = (refl, refl)

pub loop-k-preserved : goal.loop-k-preserved
unfolding why_lines_of
loop-k-preserved c = let l = c.loop-k in
    let turned = c.turn_at-turned.ensures.value in (
      rw (add-one, after_suc, turned, l.invariant.0),
      rw add-one (then_typed _ _ _ l.invariant.1 (rw (add-one, c.from-number.ensures, turned, l.invariant.0) at c.put_reasoned-place.ensures)),
    )
