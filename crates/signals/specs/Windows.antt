-- Document 01, "Controls": the windows, main (1, 2, 5, 6, 7) and side (9, 10, 11).
-- The buttons that a window waits for are a mask, the sum of their weights.
use Rattle.std.specs.Prelude.{ℕ, ◌+◌, ◌-◌, Bool, true, false, ◌&&◌, leb, eqb}
use Rattle.leaf.specs.Choosing.{pick}
use Rattle.leaf.specs.Numbers.{aged_of, further_of, bit_of}
use Rattle.leaf.specs.Buttons.{announcement_button, preannouncement_button, caution_button, conditional_clear_button, before_stop_button, crossing_button, limit_button}
use Rattle.signals.specs.declared.window.Waits.{Waits}
use Rattle.signals.specs.declared.window.Waits.TheVariants.{Nothing, One, Two, Five, Six, Seven, Zone, Nine, Limit}
use Rattle.signals.specs.declared.window.Window.{Window}

-- "A right press at ages 1..29 answers; age 30 is a miss": the time to the miss of a fresh window
abbrev pub miss_time : ℕ
miss_time = 30

-- the stop zone: "lamp and press from age 10, miss at 40"
abbrev pub zone_press : ℕ
zone_press = 10

abbrev pub zone_miss : ℕ
zone_miss = 40

-- no window
abbrev pub closed : Window
closed = record { waits = Nothing; left = 0; age = 0; distance = 0 }

-- "Ages count samples from the sample that starts them (age 0)": the window of a reading in this sample, with its time to the miss
abbrev pub opened : Waits → ℕ → Window
opened waits left = record { waits = waits; left = left; age = 0; distance = 0 }

abbrev pub is_open : Waits → Bool
is_open Nothing = false
is_open One = true
is_open Two = true
is_open Five = true
is_open Six = true
is_open Seven = true
is_open Zone = true
is_open Nine = true
is_open Limit = true

-- "Beacon 1 waits for button 0, 1, 2 (rows 1, 2, 3), 5 (unprotected crossing) or 6 (limit). Beacon 9 waits for 5 or 6; 10 and 11
-- .. wait for 6. 2, 5, 6, 7 wait for 3, 1, 2, 4." The stop zone waits for 4 "from age 10".
abbrev pub waits_for : Waits → ℕ → ℕ
waits_for Nothing age = 0
waits_for One age = announcement_button + preannouncement_button + caution_button + crossing_button + limit_button
waits_for Two age = conditional_clear_button
waits_for Five age = preannouncement_button
waits_for Six age = caution_button
waits_for Seven age = before_stop_button
waits_for Zone age = pick (leb zone_press age) before_stop_button 0
waits_for Nine age = crossing_button + limit_button
waits_for Limit age = limit_button

-- a right press: the window waits for that button now
unfoldable pub answers_of : Window → ℕ → Bool
answers_of w weight = bit_of (waits_for w.waits w.age) weight

-- beacons 1 and 9 leave it to the answer which control is set
abbrev pub asks_of : Waits → Bool
asks_of Nothing = false
asks_of One = true
asks_of Two = false
asks_of Five = false
asks_of Six = false
asks_of Seven = false
asks_of Zone = false
asks_of Nine = true
asks_of Limit = false

-- one sample on: the reading's age and distance, and the time to the miss
unfoldable pub window_older : ℕ → Window → Window
window_older m w = record { waits = w.waits; left = w.left - 1; age = aged_of w.age; distance = further_of w.distance m }

-- "age 30 is a miss, even with a press": the window is open and its time is over
unfoldable pub missed_of : Window → Bool
missed_of w = is_open w.waits && eqb w.left 0

-- "A reading on an open window takes its place, pressed from the next sample to the older one's miss": it inherits the time to the miss
unfoldable pub time_left : Window → ℕ → ℕ
time_left w fresh = pick (is_open w.waits) w.left fresh
