-- Document 01, "Controls": stop, its increase, the stop alongside, the armed override, the reminder.
use Rattle.std.specs.Prelude.{ℕ, ◌*◌, ◌/◌, min, Bool, true, false, ◌&&◌, ◌||◌, leb, ltb}
use Rattle.leaf.specs.Choosing.{pick}
use Rattle.leaf.specs.Numbers.{aged_of, further_of, below_of}
use Rattle.signals.specs.declared.control.Main.{Main}
use Rattle.signals.specs.declared.stop.Alongside.{Alongside}
use Rattle.signals.specs.declared.stop.Override.{Override}
use Rattle.signals.specs.declared.stop.Phase.{Phase}
use Rattle.signals.specs.declared.stop.Phase.TheVariants.{Off, Due, First, Pressed, Second}
use Rattle.signals.specs.declared.stop.Reminder.{Reminder}
use Rattle.signals.specs.MainControl.{is_stop}

-- "8 sets stop: 40 km/h"; "Increase .. makes it min(T, 100)"
abbrev pub stop_speed : Bool → ℕ → ℕ
stop_speed increased top = pick increased (min top 10000) 4000

-- ---- "When another main control except stop takes over, the stop limit stays alongside for ages 0..199; a beacon 8 ends it at once."

abbrev pub none_alongside : Alongside
none_alongside = record { on = false; age = 0; increased = false }

abbrev pub starts_alongside : Bool → Alongside
starts_alongside increased = record { on = true; age = 0; increased = increased }

-- one sample on, and over at age 200
unfoldable pub alongside_older : Alongside → Alongside
alongside_older a = record { on = a.on && ltb (aged_of a.age) 200; age = aged_of a.age; increased = a.increased }

-- another main control than stop takes over from main: a stop stays with the value it had, and what stayed already goes on
unfoldable pub alongside_after : Main → Alongside → Alongside
alongside_after main a = pick (is_stop main.kind) (starts_alongside main.increased) a

-- ---- "Override arms for ages 0..99, each press anew, and is used up by beacon 8."

abbrev pub disarmed : Override
disarmed = record { armed = false; age = 0 }

abbrev pub armed_now : Override
armed_now = record { armed = true; age = 0 }

unfoldable pub override_older : Override → Override
override_older o = record { armed = o.armed && ltb (aged_of o.age) 100; age = aged_of o.age }

-- ---- "Reminder (function 2): the stop of a beacon 8 passed under override, still main after 200 m, lights override;"

-- a reminder that comes to this phase in this sample: its counts start afresh
abbrev pub fresh_as : Phase → Reminder
fresh_as phase = record { phase = phase; age = 0; fast = 0; distance = 0 }

-- one sample on: a sample "at 5 km/h or more" is one that is not below 500 hundredths of km/h
unfoldable pub reminder_older : ℕ → Reminder → Reminder
reminder_older m r =
    record {
      phase = r.phase;
      age = aged_of r.age;
      fast = pick (below_of m 500) r.fast (aged_of r.fast);
      distance = further_of r.distance m;
    }

abbrev pub is_off : Phase → Bool
is_off Off = true
is_off Due = false
is_off First = false
is_off Pressed = false
is_off Second = false

abbrev pub is_lit : Phase → Bool
is_lit Off = false
is_lit Due = false
is_lit First = true
is_lit Pressed = false
is_lit Second = true

abbrev pub is_due : Phase → Bool
is_due Off = false
is_due Due = true
is_due First = false
is_due Pressed = false
is_due Second = false

abbrev pub is_pressed : Phase → Bool
is_pressed Off = false
is_pressed Due = false
is_pressed First = false
is_pressed Pressed = true
is_pressed Second = false

-- a stop's first reminder, whatever function 2 says: passed under override, still main after 200 m
unfoldable pub first_met : Main → Reminder → Bool
first_met main r = is_due r.phase && is_stop main.kind && leb 2000000 main.distance

-- "press at ages 1..49, miss at 50 is cause 3 and ends it."
unfoldable pub reminder_missed : Reminder → Bool
reminder_missed r = is_lit r.phase && leb 50 r.age

unfoldable pub takes_press : Reminder → Bool
takes_press r = is_lit r.phase && leb 1 r.age

-- "Once more after X samples past the press at 5 km/h or more (X/2 rounded down if by then increased) or Y metres."
unfoldable pub second_met : Bool → ℕ → ℕ → Reminder → Bool
second_met increased x y r = is_pressed r.phase && (leb (pick increased (x / 2) x) r.fast || leb (y * 10000) r.distance)

-- the reminders' step of a sample
unfoldable pub reminded_of : Main → Bool → ℕ → ℕ → Reminder → Reminder
reminded_of main reminds x y r =
    pick (reminder_missed r) (fresh_as Off)
    (pick (first_met main r && reminds) (fresh_as First)
    (pick (second_met main.increased x y r) (fresh_as Second) r))

-- a press answers: after the first comes the wait for the second, after the second nothing
abbrev pub pressed_of : Phase → Reminder
pressed_of Off = fresh_as Off
pressed_of Due = fresh_as Due
pressed_of First = fresh_as Pressed
pressed_of Pressed = fresh_as Pressed
pressed_of Second = fresh_as Off
