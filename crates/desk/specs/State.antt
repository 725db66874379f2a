-- Document 01, "The sample" and "Controls": the desk's members together. What lives and dies together is a part: `Brake`, `Beside`.
use Rattle.std.specs.Prelude.{ℕ, Bool, true, false}
use Rattle.signals.specs.declared.window.Window.{Window}
use Rattle.signals.specs.declared.control.MainKind.{MainKind}
use Rattle.signals.specs.declared.control.MainKind.TheVariants.{Clear, Start}
use Rattle.signals.specs.declared.control.Main.{Main}
use Rattle.signals.specs.declared.stop.Alongside.{Alongside}
use Rattle.signals.specs.declared.stop.Override.{Override}
use Rattle.signals.specs.declared.stop.Phase.TheVariants.{Off}
use Rattle.signals.specs.declared.stop.Reminder.{Reminder}
use Rattle.signals.specs.Windows.{closed}
use Rattle.signals.specs.MainControl.{main_of}
use Rattle.signals.specs.Stop.{alongside_after, disarmed, fresh_as}
use Rattle.sides.specs.declared.crossing.Crossing.{Crossing}
use Rattle.sides.specs.declared.crossing.CrossingOption.{CrossingOption}
use Rattle.sides.specs.declared.limit.Limit.{Limit}
use Rattle.sides.specs.declared.pairs.Paired.{Paired}
use Rattle.sides.specs.Crossing.{no_option, unprotected_set}
use Rattle.sides.specs.Limit.{limit_set}
use Rattle.desk.specs.declared.brake.Brake.{Brake}
use Rattle.desk.specs.declared.beside.Beside.{Beside}
use Rattle.desk.specs.declared.state.Desk.{Desk}
use Rattle.desk.specs.Brake.{opening_brake}
use Rattle.desk.specs.Beside.{nothing_beside, beside_with_alongside, beside_with_crossing, beside_with_limit, beside_with_paired}

-- ---- a desk with one member changed

abbrev pub with_bts : Bool → Desk → Desk
with_bts bts d = record { bts = bts; code = d.code; brake = d.brake; main = d.main; window = d.window; side = d.side; armed = d.armed; reminder = d.reminder; option = d.option; beside = d.beside }

abbrev pub with_code : ℕ → Desk → Desk
with_code code d = record { bts = d.bts; code = code; brake = d.brake; main = d.main; window = d.window; side = d.side; armed = d.armed; reminder = d.reminder; option = d.option; beside = d.beside }

abbrev pub with_brake : Brake → Desk → Desk
with_brake brake d = record { bts = d.bts; code = d.code; brake = brake; main = d.main; window = d.window; side = d.side; armed = d.armed; reminder = d.reminder; option = d.option; beside = d.beside }

abbrev pub with_main : Main → Desk → Desk
with_main main d = record { bts = d.bts; code = d.code; brake = d.brake; main = main; window = d.window; side = d.side; armed = d.armed; reminder = d.reminder; option = d.option; beside = d.beside }

abbrev pub with_window : Window → Desk → Desk
with_window window d = record { bts = d.bts; code = d.code; brake = d.brake; main = d.main; window = window; side = d.side; armed = d.armed; reminder = d.reminder; option = d.option; beside = d.beside }

abbrev pub with_side : Window → Desk → Desk
with_side side d = record { bts = d.bts; code = d.code; brake = d.brake; main = d.main; window = d.window; side = side; armed = d.armed; reminder = d.reminder; option = d.option; beside = d.beside }

abbrev pub with_armed : Override → Desk → Desk
with_armed armed d = record { bts = d.bts; code = d.code; brake = d.brake; main = d.main; window = d.window; side = d.side; armed = armed; reminder = d.reminder; option = d.option; beside = d.beside }

abbrev pub with_reminder : Reminder → Desk → Desk
with_reminder reminder d = record { bts = d.bts; code = d.code; brake = d.brake; main = d.main; window = d.window; side = d.side; armed = d.armed; reminder = reminder; option = d.option; beside = d.beside }

abbrev pub with_option : CrossingOption → Desk → Desk
with_option option d = record { bts = d.bts; code = d.code; brake = d.brake; main = d.main; window = d.window; side = d.side; armed = d.armed; reminder = d.reminder; option = option; beside = d.beside }

abbrev pub with_beside : Beside → Desk → Desk
with_beside beside d = record { bts = d.bts; code = d.code; brake = d.brake; main = d.main; window = d.window; side = d.side; armed = d.armed; reminder = d.reminder; option = d.option; beside = beside }

-- ---- a desk with one member of a part changed

abbrev pub with_alongside : Alongside → Desk → Desk
with_alongside alongside d = with_beside (beside_with_alongside alongside d.beside) d

abbrev pub with_crossing : Crossing → Desk → Desk
with_crossing crossing d = with_beside (beside_with_crossing crossing d.beside) d

abbrev pub with_limit : Limit → Desk → Desk
with_limit limit d = with_beside (beside_with_limit limit d.beside) d

abbrev pub with_paired : Paired → Desk → Desk
with_paired paired d = with_beside (beside_with_paired paired d.beside) d

-- ---- main controls

-- "Each new main control replaces the old and starts afresh." "When another main control except stop takes over, the stop limit stays
-- alongside"; "A new main control cancels it", the reminder.
unfoldable pub taken_over : MainKind → ℕ → ℕ → Desk → Desk
taken_over kind age distance d =
    with_main (main_of kind age distance)
    (with_reminder (fresh_as Off) (with_alongside (alongside_after d.main d.beside.alongside) d))

-- an unprotected crossing, with the age and distance of the reading that sets it
unfoldable pub crossing_set : ℕ → ℕ → Desk → Desk
crossing_set age distance d = with_crossing (unprotected_set age distance d.beside.crossing) d

-- the limit, set by a reading of this age, as it is read or by its answer
unfoldable pub limit_now : Bool → ℕ → Desk → Desk
limit_now answered age d = with_limit (limit_set answered age d.beside.limit) d

-- ---- opening, and the mode

-- "It opens in CONV with the start row as main (age 1 in the first sample), last code 0."; 02 b: "a newly opened session counts as standing"
abbrev pub fresh_desk : Desk
fresh_desk =
    record {
      bts = false;
      code = 0;
      brake = opening_brake;
      main = main_of Start 0 0;
      window = closed;
      side = closed;
      armed = disarmed;
      reminder = fresh_as Off;
      option = no_option;
      beside = nothing_beside;
    }

-- the main control that a mode change leaves: none on entering BTS, start on leaving it
abbrev pub resting_of : Bool → Main
resting_of true = main_of Clear 0 0
resting_of false = main_of Start 0 0

-- "BTS: entering drops all controls, windows and armed override; leaving drops them and sets start." The last code and the brake stay;
-- 02: "a mode change leaves the count alone" (b4), and "a mode change parts them", the two of a pair; it "drops paired limits too" (g28).
unfoldable pub mode_changed : Bool → Desk → Desk
mode_changed bts d = with_main (resting_of bts) (with_brake d.brake (with_code d.code (with_bts bts fresh_desk)))
