-- Document 01, "Controls": the crossing. Distances are tenths of a millimetre, 10,000 to the metre.
use Rattle.std.specs.Prelude.{ℕ, min, Bool, true, false, ◌&&◌, ◌||◌, leb, ltb}
use Rattle.leaf.specs.Choosing.{pick}
use Rattle.leaf.specs.Numbers.{aged_of, further_of, below_of}
use Rattle.sides.specs.declared.crossing.CrossingKind.{CrossingKind}
use Rattle.sides.specs.declared.crossing.CrossingKind.TheVariants.{Absent, Protected, Unprotected}
use Rattle.sides.specs.declared.crossing.Crossing.{Crossing}
use Rattle.sides.specs.declared.crossing.CrossingOption.{CrossingOption}

abbrev pub no_crossing : Crossing
no_crossing = record { kind = Absent; age = 0; distance = 0; shown = false }

abbrev pub stands : CrossingKind → Bool
stands Absent = false
stands Protected = true
stands Unprotected = true

abbrev pub is_protected : CrossingKind → Bool
is_protected Absent = false
is_protected Protected = true
is_protected Unprotected = false

abbrev pub is_unprotected : CrossingKind → Bool
is_unprotected Absent = false
is_unprotected Protected = false
is_unprotected Unprotected = true

-- "Distances (80 m aside) count as reached at that distance or more."
-- "Crossing: ends at 1,800 m."
abbrev pub crossing_end : ℕ
crossing_end = 18000000

-- "Its icon shows 35 m after beacon 4, at once after 3."
abbrev pub icon_distance : ℕ
icon_distance = 350000

-- one sample on
unfoldable pub crossing_older : ℕ → Crossing → Crossing
crossing_older m c =
    pick (leb crossing_end (further_of c.distance m)) no_crossing
    (record {
      kind = c.kind;
      age = aged_of c.age;
      distance = further_of c.distance m;
      shown = c.shown || leb icon_distance (further_of c.distance m);
    })

-- "Unprotected is row 5, its icon at once." "Unprotected takes over protected"; "a repeat of the same restarts only the distance".
-- The age and distance are those of the reading that sets it.
unfoldable pub unprotected_set : ℕ → ℕ → Crossing → Crossing
unprotected_set age distance c =
    record { kind = Unprotected; age = pick (is_unprotected c.kind) c.age age; distance = distance; shown = true }

-- ".. sets protected: min(T, 155)"; "protected never takes over unprotected; a repeat of the same restarts only the distance (a shown
-- icon stays; a repeat by 3 shows it)."
unfoldable pub protected_set : ℕ → ℕ → Bool → Crossing → Crossing
protected_set age distance shows c =
    pick (is_unprotected c.kind) c
    (record {
      kind = Protected;
      age = pick (is_protected c.kind) c.age age;
      distance = distance;
      shown = shows || is_protected c.kind && c.shown;
    })

-- "turning unprotected at age 0 in the speed step when 9m < 100,000, distance kept": 40 km/h is 4,000 hundredths, 25 times that 100,000
unfoldable pub turns_at : ℕ → Crossing → Bool
turns_at m c = is_protected c.kind && below_of m 4000

unfoldable pub turned_at : ℕ → Crossing → Crossing
turned_at m c = pick (turns_at m c) (record { kind = Unprotected; age = 0; distance = c.distance; shown = true }) c

-- what a standing crossing allows: unprotected is row 5, protected min(T, 155)
abbrev pub crossing_speed : CrossingKind → ℕ → ℕ → ℕ
crossing_speed kind row top = pick (is_protected kind) (min top 15500) row

-- "crossing icon (0, 1 protected, 2 unprotected)"
unfoldable pub icon_of : Crossing → ℕ
icon_of c = pick (is_unprotected c.kind) 2 (pick (is_protected c.kind && c.shown) 1 0)

-- ---- "or beacon 3 answered by 5 at ages 1..29 (no miss; only a newer 3 or BTS ends it sooner)"

abbrev pub no_option : CrossingOption
no_option = record { on = false; age = 0; distance = 0 }

abbrev pub option_now : CrossingOption
option_now = record { on = true; age = 0; distance = 0 }

-- one sample on, and over at age 30
unfoldable pub option_older : ℕ → CrossingOption → CrossingOption
option_older m o = record { on = o.on && ltb (aged_of o.age) 30; age = aged_of o.age; distance = further_of o.distance m }
