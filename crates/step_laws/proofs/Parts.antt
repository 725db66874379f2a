-- Document 01, "The sample": "Ages count samples from the sample that starts them (age 0) and stop at 30,000; distances stop at 60,000,000.": each
-- part of the desk stays inside its ranges, one sample on, set, pressed or turned.
use Prim.Native.Nat.{ℕ, ◌≤◌}
use native.Mathlib.Omega.{arith}
use mathlib.Core.Bool.{Bool, true, false, ◌&&◌, ◌||◌}
use lib.Dec.{leb, eqb}
use Rattle.leaf.specs.Choosing.{pick}
use Rattle.leaf.specs.Numbers.{age_top, distance_top, cause_top, aged_of, further_of, below_of}
use Rattle.signals.specs.declared.window.Waits.{Waits}
use Rattle.signals.specs.declared.window.Window.{Window}
use Rattle.signals.specs.declared.control.MainKind.{MainKind}
use Rattle.signals.specs.declared.control.Main.{Main}
use Rattle.signals.specs.declared.stop.Alongside.{Alongside}
use Rattle.signals.specs.declared.stop.Override.{Override}
use Rattle.signals.specs.declared.stop.Phase.{Phase}
use Rattle.signals.specs.declared.stop.Phase.TheVariants.{Off, Due, First, Pressed, Second}
use Rattle.signals.specs.declared.stop.Reminder.{Reminder}
use Rattle.signals.specs.Windows.{closed, opened, is_open, window_older, time_left}
use Rattle.signals.specs.MainControl.{main_of, main_older, is_stop, increased}
use Rattle.signals.specs.Stop.{none_alongside, alongside_older, alongside_after, disarmed, armed_now, override_older, fresh_as, reminder_older, reminder_missed, first_met, second_met, reminded_of, pressed_of}
use Rattle.sides.specs.declared.crossing.Crossing.{Crossing}
use Rattle.sides.specs.declared.crossing.CrossingOption.{CrossingOption}
use Rattle.sides.specs.declared.limit.Limit.{Limit}
use Rattle.sides.specs.declared.pairs.First.{First as FirstOne}
use Rattle.sides.specs.declared.pairs.PairedLimit.{PairedLimit}
use Rattle.sides.specs.declared.pairs.Paired.{Paired}
use Rattle.sides.specs.Crossing.{no_crossing, crossing_end, icon_distance, is_protected, is_unprotected, crossing_older, unprotected_set, protected_set, turns_at, turned_at, no_option, option_now, option_older}
use Rattle.sides.specs.Limit.{no_limit, limit_older, limit_set, stepped, hidden}
use Rattle.sides.specs.Pairs.{is_first, first_older, paired_older, four_with, four_older, nothing_paired, all_older}
use Rattle.desk.specs.declared.brake.Brake.{Brake}
use Rattle.desk.specs.declared.beside.Beside.{Beside}
use Rattle.desk.specs.Brake.{stood_after, brake_age, opening_brake, brake_after}
use Rattle.desk.specs.Beside.{nothing_beside, beside_with_alongside, beside_with_crossing, beside_with_limit, beside_with_paired, beside_older}
use Rattle.step_laws.specs.Ranges.{BrakeIn, MainIn, WindowIn, OverrideIn, ReminderIn, OptionIn, AlongsideIn, CrossingIn, LimitIn, PairedIn, BesideIn}
use Rattle.step_laws.proofs.Choosing.{pick_has, pick_low}

-- ---- main

pub main_of_lem : (kind : MainKind) (age distance : ℕ) → age ≤ age_top → distance ≤ distance_top → MainIn (main_of kind age distance)
main_of_lem kind age distance a b = record { age = a; distance = b }

pub main_fresh : (kind : MainKind) → MainIn (main_of kind 0 0)
main_fresh kind = record { age = omega arith; distance = omega arith }

pub main_older_lem : (m : ℕ) (c : Main) → MainIn (main_older m c)
unfolding main_older
main_older_lem m c = record { age = omega arith; distance = omega arith }

pub main-increased : (c : Main) → MainIn c → MainIn (increased c)
main-increased c h = record { age = h.age; distance = h.distance }

-- ---- windows

pub window_closed : WindowIn closed
window_closed = record { left = omega arith; age = omega arith; distance = omega arith }

pub window_opened : (waits : Waits) (left : ℕ) → left ≤ age_top → WindowIn (opened waits left)
window_opened waits left h = record { left = h; age = omega arith; distance = omega arith }

pub window_older_lem : (m : ℕ) (w : Window) → WindowIn w → WindowIn (window_older m w)
unfolding window_older
window_older_lem m w h = let l = h.left in record { left = omega arith; age = omega arith; distance = omega arith }

pub time_left_lem : (w : Window) (fresh : ℕ) → WindowIn w → fresh ≤ age_top → time_left w fresh ≤ age_top
unfolding time_left
time_left_lem w fresh h f = pick_low age_top (is_open w.waits) h.left f

-- ---- stop alongside, override

pub alongside_none : AlongsideIn none_alongside
alongside_none = record { age = omega arith }

pub alongside_older_lem : (a : Alongside) → AlongsideIn (alongside_older a)
unfolding alongside_older
alongside_older_lem a = record { age = omega arith }

pub alongside_after_lem : (main : Main) (a : Alongside) → AlongsideIn a → AlongsideIn (alongside_after main a)
unfolding alongside_after
alongside_after_lem main a h = pick_has AlongsideIn (is_stop main.kind) (record { age = omega arith }) h

pub override_off : OverrideIn disarmed
override_off = record { age = omega arith }

pub override_now : OverrideIn armed_now
override_now = record { age = omega arith }

pub override_older_lem : (o : Override) → OverrideIn (override_older o)
unfolding override_older
override_older_lem o = record { age = omega arith }

-- ---- reminder

pub reminder_fresh : (phase : Phase) → ReminderIn (fresh_as phase)
reminder_fresh phase = record { age = omega arith; fast = omega arith; distance = omega arith }

pub reminder_older_lem : (m : ℕ) (r : Reminder) → ReminderIn r → ReminderIn (reminder_older m r)
unfolding reminder_older
reminder_older_lem m r h =
    record {
      age = omega arith;
      fast = pick_low age_top (below_of m 500) {x = r.fast} {y = aged_of r.fast} h.fast (omega arith);
      distance = omega arith;
    }

pub reminder_reminded : (main : Main) (f : Bool) (x y : ℕ) (r : Reminder) → ReminderIn r → ReminderIn (reminded_of main f x y r)
unfolding reminded_of
reminder_reminded main f x y r h =
    pick_has ReminderIn (reminder_missed r) (reminder_fresh Off)
    (pick_has ReminderIn (first_met main r && f) (reminder_fresh First)
    (pick_has ReminderIn (second_met main.increased x y r) (reminder_fresh Second) h))

pub reminder_pressed : (p : Phase) → ReminderIn (pressed_of p)
reminder_pressed Off = reminder_fresh Off
reminder_pressed Due = reminder_fresh Due
reminder_pressed First = reminder_fresh Pressed
reminder_pressed Pressed = reminder_fresh Pressed
reminder_pressed Second = reminder_fresh Off

-- ---- crossing and its option

pub crossing_none : CrossingIn no_crossing
crossing_none = record { age = omega arith; distance = omega arith }

pub crossing_older_lem : (m : ℕ) (c : Crossing) → CrossingIn (crossing_older m c)
unfolding crossing_older
crossing_older_lem m c = ends (leb crossing_end (further_of c.distance m))
  where
    ends : (over : Bool) → CrossingIn (pick over no_crossing (record { kind = c.kind; age = aged_of c.age; distance = further_of c.distance m; shown = c.shown || leb icon_distance (further_of c.distance m) }))
    ends true = crossing_none
    ends false = record { age = omega arith; distance = omega arith }

pub crossing_unprotected : (age distance : ℕ) (c : Crossing) → age ≤ age_top → distance ≤ distance_top → CrossingIn c → CrossingIn (unprotected_set age distance c)
unfolding unprotected_set
crossing_unprotected age distance c a b h =
    record { age = pick_low age_top (is_unprotected c.kind) {x = c.age} {y = age} h.age a; distance = b }

pub crossing_protected : (age distance : ℕ) (shows : Bool) (c : Crossing) → age ≤ age_top → distance ≤ distance_top → CrossingIn c → CrossingIn (protected_set age distance shows c)
unfolding protected_set
crossing_protected age distance shows c a b h =
    pick_has CrossingIn (is_unprotected c.kind) h
    (record { age = pick_low age_top (is_protected c.kind) {x = c.age} {y = age} h.age a; distance = b })

pub crossing_turned_lem : (m : ℕ) (c : Crossing) → CrossingIn c → CrossingIn (turned_at m c)
unfolding turned_at
crossing_turned_lem m c h = pick_has CrossingIn (turns_at m c) (record { age = omega arith; distance = h.distance }) h

pub option_none : OptionIn no_option
option_none = record { age = omega arith; distance = omega arith }

pub option_now_lem : OptionIn option_now
option_now_lem = record { age = omega arith; distance = omega arith }

pub option_older_lem : (m : ℕ) (o : CrossingOption) → OptionIn (option_older m o)
unfolding option_older
option_older_lem m o = record { age = omega arith; distance = omega arith }

-- ---- limit

pub limit_none : LimitIn no_limit
limit_none = record { age = omega arith; steps = omega arith }

pub limit_older_lem : (l : Limit) → LimitIn l → LimitIn (limit_older l)
limit_older_lem l h = record { age = omega arith; steps = h.steps }

pub limit_set_lem : (answered : Bool) (age : ℕ) (l : Limit) → age ≤ age_top → LimitIn l → LimitIn (limit_set answered age l)
unfolding limit_set
limit_set_lem answered age l a h = record { age = pick_low age_top l.on {x = l.age} {y = age} h.age a; steps = omega arith }

pub limit_stepped_lem : (l : Limit) → LimitIn l → LimitIn (stepped l)
limit_stepped_lem l h = record { age = h.age; steps = omega arith }

pub limit-hidden : (l : Limit) → LimitIn l → LimitIn (hidden l)
limit-hidden l h = let s = h.steps in record { age = h.age; steps = omega arith }

-- ---- limit beacons in pairs

pub paired_nothing : PairedIn nothing_paired
paired_nothing = record { distance = omega arith; thirty = omega arith; forty = omega arith; fifty = omega arith; seventy = omega arith }

older_low : (l : PairedLimit) → l.age ≤ age_top → (paired_older l).age ≤ age_top
unfolding paired_older
older_low l h = pick_has (λ (k : PairedLimit). k.age ≤ age_top) l.on (omega arith) h

pub paired_older_lem : (m : ℕ) (p : Paired) → PairedIn p → PairedIn (all_older m p)
unfolding all_older first_older four_older
paired_older_lem m p h =
    record {
      distance = pick_has (λ (f : FirstOne). f.distance ≤ distance_top) (is_first p.first.kind) (omega arith) h.distance;
      thirty = older_low p.limits.thirty h.thirty;
      forty = older_low p.limits.forty h.forty;
      fifty = older_low p.limits.fifty h.fifty;
      seventy = older_low p.limits.seventy h.seventy;
    }

-- with another in the place of one
pub paired_first : (p : Paired) (first : FirstOne) → first.distance ≤ distance_top → PairedIn p → PairedIn (record { first = first; limits = p.limits })
paired_first p first d h = record { distance = d; thirty = h.thirty; forty = h.forty; fifty = h.fifty; seventy = h.seventy }

pub paired_with : (p : Paired) (first : FirstOne) (speed : ℕ) (l : PairedLimit) → first.distance ≤ distance_top → l.age ≤ age_top → PairedIn p
    → PairedIn (record { first = first; limits = four_with speed l p.limits })
unfolding four_with
paired_with p first speed l d a h =
    let low : (t : Bool) (k : PairedLimit) → k.age ≤ age_top → (pick t l k).age ≤ age_top = λ t k b. pick_has (λ (j : PairedLimit). j.age ≤ age_top) t a b in
    record {
      distance = d;
      thirty = low (eqb speed 30) p.limits.thirty h.thirty;
      forty = low (eqb speed 40) p.limits.forty h.forty;
      fifty = low (eqb speed 50) p.limits.fifty h.fifty;
      seventy = low (eqb speed 70) p.limits.seventy h.seventy;
    }

-- ---- the desk's parts: the brake, and what stands beside the main control

pub brake_opening : BrakeIn opening_brake
brake_opening = record { cause = omega arith; stood = omega arith; age = omega arith }

pub brake_after_lem : (cause : ℕ) (stays : Bool) (pulses : ℕ) (b : Brake) → cause ≤ cause_top → BrakeIn (brake_after cause stays pulses b)
unfolding stood_after brake_age
brake_after_lem cause stays pulses b p =
    record {
      cause = p;
      stood = pick_low age_top (eqb pulses 0) {x = aged_of b.stood} {y = 0} (omega arith) (omega arith);
      age = pick_low age_top stays {x = aged_of b.age} {y = 0} (omega arith) (omega arith);
    }

pub beside_nothing : BesideIn nothing_beside
beside_nothing = record { alongside = alongside_none; crossing = crossing_none; limit = limit_none; paired = paired_nothing }

pub beside_older_lem : (m : ℕ) (b : Beside) → BesideIn b → BesideIn (beside_older m b)
unfolding beside_older
beside_older_lem m b h =
    record { alongside = alongside_older_lem b.alongside; crossing = crossing_older_lem m b.crossing; limit = limit_older_lem b.limit h.limit; paired = paired_older_lem m b.paired h.paired }

pub beside-alongside : (x : Alongside) (b : Beside) → AlongsideIn x → BesideIn b → BesideIn (beside_with_alongside x b)
beside-alongside x b p h = record { alongside = p; crossing = h.crossing; limit = h.limit; paired = h.paired }

pub beside-crossing : (x : Crossing) (b : Beside) → CrossingIn x → BesideIn b → BesideIn (beside_with_crossing x b)
beside-crossing x b p h = record { alongside = h.alongside; crossing = p; limit = h.limit; paired = h.paired }

pub beside-limit : (x : Limit) (b : Beside) → LimitIn x → BesideIn b → BesideIn (beside_with_limit x b)
beside-limit x b p h = record { alongside = h.alongside; crossing = h.crossing; limit = p; paired = h.paired }

pub beside-paired : (x : Paired) (b : Beside) → PairedIn x → BesideIn b → BesideIn (beside_with_paired x b)
beside-paired x b p h = record { alongside = h.alongside; crossing = h.crossing; limit = h.limit; paired = p }
