-- What arises in a sample is one of the causes 1..6, or 0, none; before the pickup is looked at, one of 1..5.
use Prim.Native.Nat.{ℕ, ◌+◌, ◌≤◌, min}
use native.Mathlib.Omega.{arith}
use mathlib.Core.Bool.{Bool, ◌&&◌, not}
use lib.Dec.{eqb}
use Rattle.leaf.specs.Numbers.{cause_top, exceeds_of, quiet_code}
use Rattle.card.specs.declared.Card.{Card}
use Rattle.card.specs.declared.Pairs.{Pairs}
use Rattle.signals.specs.Windows.{missed_of}
use Rattle.signals.specs.Stop.{reminder_missed}
use Rattle.desk.specs.declared.state.Desk.{Desk}
use Rattle.desk.specs.declared.clock.Turn.{Turn}
use Rattle.desk.specs.State.{mode_changed}
use Rattle.desk.specs.Clock.{same_mode, desk_older, miss_cause, advanced, begun}
use Rattle.beacons.specs.Beacons.{reads_of, beacon_taken}
use Rattle.step.specs.declared.Input.{Input}
use Rattle.step.specs.Speed.{crossing_turned, supervised_of}
use Rattle.step.specs.Step.{moved_of, speed_cause, arose_of, judged_of, step_of}
use Rattle.step.specs.Brake.{lowest}
use Rattle.step_laws.proofs.Choosing.{pick_has, pick_low}

-- "cause 1 main, cause 2 side", 3 the reminder's miss, 4 the stop, 5 the speed: what arises is one of them, or 0, none

miss_cause_lem : (a b c : Bool) → miss_cause a b c ≤ 5
miss_cause_lem a b c =
    pick_low 5 a {x = 1} (omega arith) (pick_low 5 b {x = 2} (omega arith) (pick_low 5 c {x = 3} {y = 0} (omega arith) (omega arith)))

begun-cause : (bts : Bool) (m : ℕ) (f : Bool) (x y : ℕ) (d : Desk) → (begun bts m f x y d).cause ≤ 5
unfolding begun advanced
begun-cause bts m f x y d =
    let old = desk_older m d in
    pick_has (λ (t : Turn). t.cause ≤ 5) (same_mode d.bts bts) {x = advanced m f x y d} {y = record { desk = mode_changed bts d; cause = 0 }}
    (miss_cause_lem (missed_of old.window) (missed_of old.side) (reminder_missed old.reminder)) (omega arith)

beacon_cause : (code : ℕ) (f0 f1 f3 paired : Bool) (pairs : Pairs) (d : Desk) → (beacon_taken code f0 f1 f3 paired pairs d).cause ≤ 5
unfolding beacon_taken
beacon_cause code f0 f1 f3 paired pairs d =
    pick_low 5 (reads_of code f3 d.bts d.code && eqb code 8 && not d.armed.armed) {x = 4} {y = 0} (omega arith) (omega arith)

lowest_in : (top a b : ℕ) → a ≤ top → b ≤ top → lowest a b ≤ top
unfolding lowest
lowest_in top a b p q = pick_low top (eqb a 0) q (pick_low top (eqb b 0) {x = a} {y = min a b} p (omega arith))

moved_cause : (card : Card) (top : ℕ) (x : Input) (d : Desk) → (moved_of card top x d).cause ≤ 5
unfolding moved_of
moved_cause card top x d = lowest_in 5 _ _ (begun-cause x.bts x.m _ card.settings.x card.settings.y d) (beacon_cause x.beacon _ _ _ _ _ _)

-- what arises without the pickup is 0..5
pub to_speed : (card : Card) (top : ℕ) (x : Input) (d : Desk) (speed : ℕ) → lowest (moved_of card top x d).cause (speed_cause x.m speed) ≤ 5
to_speed card top x d speed =
    lowest_in 5 _ _ (moved_cause card top x d) (pick_low 5 (exceeds_of x.m (speed + 500)) {x = 5} {y = 0} (omega arith) (omega arith))

-- and what arises in a sample 0..6
pub arose_in : (card : Card) (top : ℕ) (x : Input) (d : Desk) → (step_of card top x d).arose ≤ cause_top
unfolding step_of judged_of arose_of
arose_in card top x d =
    let turned : Desk = crossing_turned x.m (moved_of card top x d).desk in
    let five = to_speed card top x d (supervised_of card.settings top turned) in
    lowest_in cause_top _ _ (omega arith)
    (pick_low cause_top (eqb x.beacon quiet_code && not x.bts) {x = 6} {y = 0} (omega arith) (omega arith))
