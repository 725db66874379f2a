use Rattle.std.proofs.Common.{arith}
use mathlib.Core.Path.{◌≡◌, ◌∙◌}
use Rattle.rides.proofs.Replays.{step_low, none-at, next_at, so_far_is, ended_all}
use Rattle.rides.proofs.replay.run.Goals as goal

pub loop-k-init : goal.loop-k-init
loop-k-init c = (omega arith, omega arith, none-at _ _ _)

pub returns-then-going-ne0 : goal.returns-then-going-ne0
returns-then-going-ne0 c = let l = c.loop-k in
    let at = rw c.fresh-going.ensures at l.invariant.2 in
    let over = rw at.ride at c.if-going-ne0.true in
    c.so_far.ensures ∙ so_far_is _ _ _ _ _ _ _ at ∙ ended_all _ _ _ _ _ l.invariant.0 over

pub returns : goal.returns
returns c = let l = c.loop-k in
    let at = rw c.fresh-going.ensures at l.invariant.2 in
    let all : l.k ≡ c.args.n = omega arith in
    c.so_far-2.ensures ∙ rw (← all) (so_far_is _ _ _ _ _ _ _ at)

pub loop-k-preserved : goal.loop-k-preserved
loop-k-preserved c = let l = c.loop-k in
    let low = step_low c.turn_at-shown.result.shown in
    let step = c.step_of-ran.ensures in
    (omega arith, omega arith, rw (c.later-last.ensures, step) (next_at _ _ _ _ _ _ _ l.invariant.2 _ c.turn_at-shown.ensures.value))
