-- Whatever happens to a desk inside its ranges leaves it inside them, by the walk through the steps of a sample.
use Prim.Native.Nat.{ℕ, ◌≤◌}
use native.Mathlib.Omega.{arith}
use mathlib.Core.Bool.{Bool, true, false}
use lib.Dec.{eqb}
use Rattle.leaf.specs.Numbers.{age_top, distance_top, code_top, cause_top}
use Rattle.card.specs.declared.Card.{Card}
use Rattle.signals.specs.declared.window.Waits.TheVariants as waits
use Rattle.signals.specs.declared.window.Window.{Window}
use Rattle.signals.specs.declared.control.MainKind.TheVariants as main
use Rattle.signals.specs.declared.control.Main.{Main}
use Rattle.signals.specs.declared.stop.Alongside.{Alongside}
use Rattle.signals.specs.declared.stop.Override.{Override}
use Rattle.signals.specs.declared.stop.Phase.TheVariants.{Off, Due}
use Rattle.signals.specs.declared.stop.Reminder.{Reminder}
use Rattle.signals.specs.Windows.{miss_time, zone_miss}
use Rattle.sides.specs.declared.crossing.Crossing.{Crossing}
use Rattle.sides.specs.declared.crossing.CrossingOption.{CrossingOption}
use Rattle.sides.specs.declared.limit.Limit.{Limit}
use Rattle.sides.specs.declared.pairs.Paired.{Paired}
use Rattle.sides.specs.Pairs.{no_first, first_read, no_paired, paired_now}
use Rattle.desk.specs.declared.brake.Brake.{Brake}
use Rattle.desk.specs.declared.beside.Beside.{Beside}
use Rattle.desk.specs.declared.state.Desk.{Desk}
use Rattle.desk.specs.Brake.{opening_brake}
use Rattle.desk.specs.State.{with_bts, with_code, with_brake, with_main, with_window, with_side, with_armed, with_reminder, with_option, with_beside, with_alongside, with_crossing, with_limit, with_paired, taken_over, crossing_set, limit_now, fresh_desk, resting_of, mode_changed}
use Rattle.desk.specs.Clock.{desk_older, reminded}
use Rattle.buttons.specs.Buttons.{option_used, limit_removed, paired_removed, reminder_answered, override_armed, stop_increased, limit_stepped, hide_pressed}
use Rattle.beacons.specs.Beacons.{main_opened, side_opened, option_offered, reading4, reminded_after, stopped, first_kept, drops_single, single_dropped, pair_set}
use Rattle.step.specs.declared.Input.{Input}
use Rattle.step.specs.Speed.{crossing_turned}
use Rattle.step.specs.Brake.{standing_cause, braked}
use Rattle.step.specs.Step.{moved_of, judged_of, step_of}
use Rattle.step_laws.specs.Ranges.{BrakeIn, MainIn, WindowIn, OverrideIn, ReminderIn, OptionIn, AlongsideIn, CrossingIn, LimitIn, PairedIn, BesideIn, DeskIn, RangeLaws}
use Rattle.step_laws.proofs.Parts.{paired_first, paired_with, beside-paired, brake_opening, brake_after_lem, main_of_lem, main_fresh, main_older_lem, main-increased, window_closed, window_opened, window_older_lem, time_left_lem, override_off, override_now, override_older_lem, reminder_fresh, reminder_older_lem, reminder_reminded, reminder_pressed, option_none, option_now_lem, option_older_lem, alongside_none, alongside_after_lem, crossing_unprotected, crossing_protected, crossing_turned_lem, limit_none, limit_set_lem, limit_stepped_lem, limit-hidden, beside_nothing, beside_older_lem, beside-alongside, beside-crossing, beside-limit}
use Rattle.step_laws.specs.Walk.{Sets, ToBeacon, OfBeacon}
use Rattle.step_laws.proofs.Choosing.{pick_has, pick_low}
use Rattle.step_laws.proofs.Walk.{at_beacon_lem, after_beacon}
use Rattle.step_laws.proofs.Causes.{arose_in}
use Rattle.step_laws.proofs.Facts.{desk_only, desk_when}

-- ---- one member changed

module _ {d : Desk} (h : DeskIn d) where
  set_code : (x : ℕ) → x ≤ code_top → DeskIn (with_code x d)
  set_code x p = record { code = p; brake = h.brake; main = h.main; window = h.window; side = h.side; armed = h.armed; reminder = h.reminder; option = h.option; beside = h.beside }

  set_brake : (x : Brake) → BrakeIn x → DeskIn (with_brake x d)
  set_brake x p = record { code = h.code; brake = p; main = h.main; window = h.window; side = h.side; armed = h.armed; reminder = h.reminder; option = h.option; beside = h.beside }

  set_main : (x : Main) → MainIn x → DeskIn (with_main x d)
  set_main x p = record { code = h.code; brake = h.brake; main = p; window = h.window; side = h.side; armed = h.armed; reminder = h.reminder; option = h.option; beside = h.beside }

  set_window : (x : Window) → WindowIn x → DeskIn (with_window x d)
  set_window x p = record { code = h.code; brake = h.brake; main = h.main; window = p; side = h.side; armed = h.armed; reminder = h.reminder; option = h.option; beside = h.beside }

  set_side : (x : Window) → WindowIn x → DeskIn (with_side x d)
  set_side x p = record { code = h.code; brake = h.brake; main = h.main; window = h.window; side = p; armed = h.armed; reminder = h.reminder; option = h.option; beside = h.beside }

  set_armed : (x : Override) → OverrideIn x → DeskIn (with_armed x d)
  set_armed x p = record { code = h.code; brake = h.brake; main = h.main; window = h.window; side = h.side; armed = p; reminder = h.reminder; option = h.option; beside = h.beside }

  set_reminder : (x : Reminder) → ReminderIn x → DeskIn (with_reminder x d)
  set_reminder x p = record { code = h.code; brake = h.brake; main = h.main; window = h.window; side = h.side; armed = h.armed; reminder = p; option = h.option; beside = h.beside }

  set_option : (x : CrossingOption) → OptionIn x → DeskIn (with_option x d)
  set_option x p = record { code = h.code; brake = h.brake; main = h.main; window = h.window; side = h.side; armed = h.armed; reminder = h.reminder; option = p; beside = h.beside }

  set_beside : (x : Beside) → BesideIn x → DeskIn (with_beside x d)
  set_beside x p = record { code = h.code; brake = h.brake; main = h.main; window = h.window; side = h.side; armed = h.armed; reminder = h.reminder; option = h.option; beside = p }

-- ---- one member of a part changed

module _ {d : Desk} (h : DeskIn d) where
  set_alongside : (x : Alongside) → AlongsideIn x → DeskIn (with_alongside x d)
  set_alongside x p = set_beside h _ (beside-alongside x d.beside p h.beside)

  set_crossing : (x : Crossing) → CrossingIn x → DeskIn (with_crossing x d)
  set_crossing x p = set_beside h _ (beside-crossing x d.beside p h.beside)

  set_limit : (x : Limit) → LimitIn x → DeskIn (with_limit x d)
  set_limit x p = set_beside h _ (beside-limit x d.beside p h.beside)

  set_paired : (x : Paired) → PairedIn x → DeskIn (with_paired x d)
  set_paired x p = set_beside h _ (beside-paired x d.beside p h.beside)

-- ---- whole desks

-- a desk on which nothing but one main control stands, as opening and a mode change leave it
bare_in : (bts : Bool) (code : ℕ) (b : Brake) (m : Main) → code ≤ code_top → BrakeIn b → MainIn m → DeskIn (with_main m (with_brake b (with_code code (with_bts bts fresh_desk))))
bare_in bts code b m p q r =
    record {
      code = p;
      brake = q;
      main = r;
      window = window_closed;
      side = window_closed;
      armed = override_off;
      reminder = reminder_fresh Off;
      option = option_none;
      beside = beside_nothing;
    }

fresh_in : DeskIn fresh_desk
fresh_in = bare_in false 0 opening_brake _ (omega arith) brake_opening (main_fresh main.Start)

resting_in : (bts : Bool) → MainIn (resting_of bts)
resting_in true = main_fresh main.Clear
resting_in false = main_fresh main.Start

older_in : (m : ℕ) (d : Desk) → DeskIn d → DeskIn (desk_older m d)
unfolding desk_older
older_in m d h =
    record {
      code = h.code;
      brake = h.brake;
      main = main_older_lem m d.main;
      window = window_older_lem m d.window h.window;
      side = window_older_lem m d.side h.side;
      armed = override_older_lem d.armed;
      reminder = reminder_older_lem m d.reminder h.reminder;
      option = option_older_lem m d.option;
      beside = beside_older_lem m d.beside h.beside;
    }

reminded_after_in : (b : Bool) → ReminderIn (reminded_after b)
reminded_after_in true = reminder_fresh Due
reminded_after_in false = reminder_fresh Off

-- ---- each thing that can happen

-- the age and distance of a reading
abbrev ReadingIn : ℕ → ℕ → Type 0
ReadingIn age distance = (age ≤ age_top) × (distance ≤ distance_top)

sets_in : Sets DeskIn ReadingIn
unfolding taken_over crossing_set limit_now
sets_in =
    record {
      now = (omega arith, omega arith);
      main_reading = λ e h. (h.window.age, h.window.distance);
      side_reading = λ e h. (h.side.age, h.side.distance);
      taken = λ kind age distance e r h.
          set_main (set_reminder (set_alongside h _ (alongside_after_lem e.main e.beside.alongside h.beside.alongside)) _ (reminder_fresh Off)) _ (main_of_lem kind age distance r.0 r.1);
      crossing = λ age distance e r h. set_crossing h _ (crossing_unprotected age distance e.beside.crossing r.0 r.1 h.beside.crossing);
      limit = λ age distance e r h. set_limit h _ (limit_set_lem true age e.beside.limit r.0 h.beside.limit);
    }

module _ (card : Card) (top : ℕ) (x : Input) (d : Desk) (b : x.beacon ≤ code_top) (i : DeskIn d) where
  to_beacon_in : ToBeacon card top x d DeskIn
  unfolding mode_changed reminded option_used limit_removed paired_removed reminder_answered override_armed stop_increased limit_stepped hide_pressed
  to_beacon_in =
      record {
        changed = λ e. bare_in x.bts d.code d.brake _ i.code i.brake (resting_in x.bts);
        advanced = λ e. let h = older_in x.m d i in set_reminder h _ (reminder_reminded _ _ card.settings.x card.settings.y _ h.reminder);
        main_closed = λ e h. set_window h _ window_closed;
        side_closed = λ e h. set_side h _ window_closed;
        option = λ e h.
            set_option (set_crossing h _ (crossing_protected _ _ true e.beside.crossing h.option.age h.option.distance h.beside.crossing)) _ option_none;
        removed = λ e h. set_limit h _ limit_none;
        paired_removed_lem = λ speed e h.
            pick_has DeskIn (eqb speed 0) h
            (set_paired h _ (paired_with e.beside.paired e.beside.paired.first speed no_paired h.beside.paired.distance (omega arith) h.beside.paired));
        answered = λ e h. set_reminder h _ (reminder_pressed e.reminder.phase);
        armed = λ e h. set_armed h _ override_now;
        increased = λ e h. set_main h _ (main-increased e.main h.main);
        stepped = λ e h. set_limit h _ (limit_stepped_lem e.beside.limit h.beside.limit);
        hidden = λ e h. set_limit h _ (limit-hidden e.beside.limit h.beside.limit);
      }

  of_beacon_in : OfBeacon card top x d DeskIn DeskIn
  unfolding stopped reading4 main_opened side_opened option_offered limit_now first_kept first_read pair_set single_dropped
  of_beacon_in =
      record {
        unread = λ e h. h;
        main_opened_lem = λ w e o h. set_window h _ (window_opened w _ (time_left_lem e.window miss_time h.window (omega arith)));
        side_opened_lem = λ w e o h. set_side h _ (window_opened w _ (time_left_lem e.side miss_time h.side (omega arith)));
        zone_opened = λ e r c z h. set_window h _ (window_opened waits.Zone zone_miss (omega arith));
        shut = λ e r c h. set_window h _ window_closed;
        stop = λ e r c h.
            set_window
            (set_armed (set_alongside (set_main (set_reminder h _ (reminded_after_in e.armed.armed)) _ (main_fresh main.Stop)) _ alongside_none) _ override_off)
            _ window_closed;
        protected = λ e h. set_crossing h _ (crossing_protected 0 0 false e.beside.crossing (omega arith) (omega arith) h.beside.crossing);
        single = λ e r h. set_limit h _ (limit_set_lem false 0 e.beside.limit (omega arith) h.beside.limit);
        first = λ code own e three r h. set_paired h _ (paired_first e.beside.paired (first_read code own) (omega arith) h.beside.paired);
        pair = λ speed e three r h.
            set_paired (pick_has DeskIn (drops_single e.beside.paired.first e.beside.limit) (set_limit h _ limit_none) h) _
            (paired_with e.beside.paired no_first speed paired_now (omega arith) (omega arith) h.beside.paired);
        offered = λ e h. set_option h _ option_now_lem;
      }

  moved_in : DeskIn (moved_of card top x d).desk
  moved_in = after_beacon sets_in of_beacon_in (set_code (at_beacon_lem sets_in to_beacon_in) x.beacon b)

-- ---- speed and brake

turned_in : (m : ℕ) (d : Desk) → DeskIn d → DeskIn (crossing_turned m d)
unfolding crossing_turned
turned_in m d h = set_crossing h _ (crossing_turned_lem m d.beside.crossing h.beside.crossing)

pub standing_in : (top before arose : ℕ) (rearm : Bool) → before ≤ top → arose ≤ top → standing_cause before arose rearm ≤ top
unfolding standing_cause
standing_in top before arose rearm p q =
    pick_low top (eqb arose 0) (pick_low top rearm {x = 0} {y = before} (omega arith) p) (pick_low top (eqb before 0) {x = arose} {y = before} q p)

braked_in : (arose : ℕ) (rearm : Bool) (pulses : ℕ) (d : Desk) → arose ≤ cause_top → DeskIn d → DeskIn (braked arose rearm pulses d)
unfolding braked
braked_in arose rearm pulses d a h = set_brake h _ (brake_after_lem _ _ pulses d.brake (standing_in cause_top d.brake.cause arose rearm h.brake.cause a))

step_in : (card : Card) (top : ℕ) (x : Input) (d : Desk) → x.beacon ≤ code_top → DeskIn d → DeskIn (step_of card top x d).desk
unfolding step_of judged_of
step_in card top x d b h = braked_in _ _ _ _ (arose_in card top x d) (turned_in x.m _ (moved_in card top x d b h))

pub range_laws : RangeLaws
range_laws = record { desk_inside_lem = λ d. (desk_only d, desk_when d); fresh_in = fresh_in; step_in = step_in }
