-- Document 01, "The sample": "Order in a sample: mode; ages and distances advance, endings, reminders and missed windows; ..": the first
-- two steps. Controls and windows that a sample starts have age 0 in it, so in a sample that changes the mode, where all is dropped
-- and at most start begins, nothing advances and nothing is missed.
use Rattle.std.specs.Prelude.{ℕ, Bool, true, false, ◌&&◌, ◌||◌, not}
use Rattle.leaf.specs.Choosing.{pick}
use Rattle.signals.specs.declared.control.MainKind.TheVariants.{Announcement}
use Rattle.signals.specs.Windows.{closed, window_older, missed_of, asks_of}
use Rattle.signals.specs.MainControl.{main_older}
use Rattle.signals.specs.Stop.{override_older, reminder_older, reminded_of, reminder_missed}
use Rattle.sides.specs.Crossing.{option_older}
use Rattle.desk.specs.declared.state.Desk.{Desk}
use Rattle.desk.specs.declared.clock.Turn.{Turn}
use Rattle.desk.specs.Beside.{beside_older}
use Rattle.desk.specs.State.{with_window, with_side, with_reminder, taken_over, crossing_set, mode_changed}

-- the sample's mode is the desk's
abbrev pub same_mode : Bool → Bool → Bool
same_mode a b = a && b || not a && not b

-- "ages and distances advance, endings": each member ends by its own age or distance
unfoldable pub desk_older : ℕ → Desk → Desk
desk_older m d =
    record {
      bts = d.bts;
      code = d.code;
      brake = d.brake;
      main = main_older m d.main;
      window = window_older m d.window;
      side = window_older m d.side;
      armed = override_older d.armed;
      reminder = reminder_older m d.reminder;
      option = option_older m d.option;
      beside = beside_older m d.beside;
    }

-- "reminders"
unfoldable pub reminded : Bool → ℕ → ℕ → Desk → Desk
reminded reminds x y d = with_reminder (reminded_of d.main reminds x y d.reminder) d

-- ".. and 1 counts as announcement, 9 as unprotected crossing." "Controls set by an answer, miss or displacement keep the reading's age
-- and distance."
unfoldable pub main_counts : Desk → Desk
main_counts d = pick (asks_of d.window.waits) (taken_over Announcement d.window.age d.window.distance d) d

unfoldable pub side_counts : Desk → Desk
side_counts d = pick (asks_of d.side.waits) (crossing_set d.side.age d.side.distance d) d

-- "missed windows": the main one, then the side one; a miss closes its window
unfoldable pub main_missed : Bool → Desk → Desk
main_missed true d = with_window closed (main_counts d)
main_missed false d = d

unfoldable pub side_missed : Bool → Desk → Desk
side_missed true d = with_side closed (side_counts d)
side_missed false d = d

-- "cause 1 main, cause 2 side"; a reminder's miss is cause 3; "lowest number within a sample"
abbrev pub miss_cause : Bool → Bool → Bool → ℕ
miss_cause main side reminder = pick main 1 (pick side 2 (pick reminder 3 0))

unfoldable pub advanced : ℕ → Bool → ℕ → ℕ → Desk → Turn
advanced m reminds x y d =
    let old : Desk = desk_older m d in
    record {
      desk = side_missed (missed_of old.side) (main_missed (missed_of old.window) (reminded reminds x y old));
      cause = miss_cause (missed_of old.window) (missed_of old.side) (reminder_missed old.reminder);
    }

unfoldable pub begun : Bool → ℕ → Bool → ℕ → ℕ → Desk → Turn
begun bts m reminds x y d =
    pick (same_mode d.bts bts) (advanced m reminds x y d) (record { desk = mode_changed bts d; cause = 0 })
