-- Document 01, "Controls": the main control. Distances are tenths of a millimetre, 10,000 to the metre.
use Rattle.std.specs.Prelude.{ℕ, Bool, true, false, ◌&&◌, not, leb, ltb}
use Rattle.leaf.specs.Numbers.{aged_of, further_of}
use Rattle.signals.specs.declared.control.MainKind.{MainKind}
use Rattle.signals.specs.declared.control.MainKind.TheVariants.{Clear, Start, ConditionalClear, Announcement, Preannouncement, Caution, BeforeStop, Stop, Zone}
use Rattle.signals.specs.declared.control.Main.{Main}

-- "Each new main control replaces the old and starts afresh": with the age and distance that its setting gives it, and not increased
abbrev pub main_of : MainKind → ℕ → ℕ → Main
main_of kind age distance = record { kind = kind; age = age; distance = distance; increased = false }

-- one sample on
unfoldable pub main_older : ℕ → Main → Main
main_older m c = record { kind = c.kind; age = aged_of c.age; distance = further_of c.distance m; increased = c.increased }

abbrev pub is_stop : MainKind → Bool
is_stop Clear = false
is_stop Start = false
is_stop ConditionalClear = false
is_stop Announcement = false
is_stop Preannouncement = false
is_stop Caution = false
is_stop BeforeStop = false
is_stop Stop = true
is_stop Zone = false

abbrev pub is_before_stop : MainKind → Bool
is_before_stop Clear = false
is_before_stop Start = false
is_before_stop ConditionalClear = false
is_before_stop Announcement = false
is_before_stop Preannouncement = false
is_before_stop Caution = false
is_before_stop BeforeStop = true
is_before_stop Stop = false
is_before_stop Zone = false

-- "3 sets clear (no main limit)": every other main control limits
abbrev pub limits_of : MainKind → Bool
limits_of Clear = false
limits_of Start = true
limits_of ConditionalClear = true
limits_of Announcement = true
limits_of Preannouncement = true
limits_of Caution = true
limits_of BeforeStop = true
limits_of Stop = true
limits_of Zone = true

-- the stop-zone rule: "row 4 is main and under 80 m from its reading"
abbrev pub zone_distance : ℕ
zone_distance = 800000

unfoldable pub near_of : Main → Bool
near_of c = is_before_stop c.kind && ltb c.distance zone_distance

-- "Increase, once, at ages 1..99 of the control (house), while main, makes it min(T, 100)": stop has use for it
unfoldable pub may_increase : Main → Bool
may_increase c = is_stop c.kind && not c.increased && leb 1 c.age && leb c.age 99

abbrev pub increased : Main → Main
increased c = record { kind = c.kind; age = c.age; distance = c.distance; increased = true }

-- Lamps: "increase for stop (ages 0..99, till used)"
unfoldable pub increase_lit : Main → Bool
increase_lit c = is_stop c.kind && not c.increased && leb c.age 99
