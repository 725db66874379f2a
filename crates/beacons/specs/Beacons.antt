-- Document 01, "Controls", and document 02 g), "Limit beacons in pairs": the beacons. "Each new main control replaces the old and starts afresh": age 0 and distance 0 in the sample of
-- the reading.
use Rattle.std.specs.Prelude.{ℕ, Bool, true, false, ◌&&◌, ◌||◌, not, eqb}
use Rattle.leaf.specs.Choosing.{pick}
use Rattle.leaf.specs.Numbers.{within}
use Rattle.card.specs.declared.Pairs.{Pairs}
use Rattle.signals.specs.declared.window.Waits.{Waits}
use Rattle.signals.specs.declared.window.Waits.TheVariants as waits
use Rattle.signals.specs.declared.control.MainKind.{MainKind}
use Rattle.signals.specs.declared.control.MainKind.TheVariants as main
use Rattle.signals.specs.declared.stop.Phase.TheVariants.{Off, Due}
use Rattle.signals.specs.declared.stop.Reminder.{Reminder}
use Rattle.signals.specs.Windows.{miss_time, zone_miss, closed, opened, time_left}
use Rattle.signals.specs.MainControl.{main_of, near_of}
use Rattle.signals.specs.Stop.{none_alongside, disarmed, fresh_as}
use Rattle.sides.specs.declared.limit.Limit.{Limit}
use Rattle.sides.specs.declared.pairs.First.{First}
use Rattle.sides.specs.Crossing.{option_now, protected_set}
use Rattle.sides.specs.Limit.{no_limit}
use Rattle.sides.specs.Pairs.{no_first, is_eleven, first_read, is_second, paired_now, four_with}
use Rattle.desk.specs.declared.state.Desk.{Desk}
use Rattle.desk.specs.declared.clock.Turn.{Turn}
use Rattle.desk.specs.State.{with_code, with_main, with_window, with_side, with_alongside, with_armed, with_reminder, with_crossing, with_option, with_limit, with_paired, taken_over, limit_now}
use Rattle.desk.specs.Clock.{main_counts, side_counts}

-- "beacon 0..11": every code but 0 is that of a beacon; 02 c: "Code 12 is no beacon"
abbrev pub beacon_top : ℕ
beacon_top = 11

abbrev pub is_beacon : ℕ → Bool
is_beacon code = within 1 beacon_top code

-- "Beacons are not read save function 3's": "BTS reads beacons 4, 9, 10, 11"
abbrev pub is_side : ℕ → Bool
is_side code = eqb code 4 || eqb code 9 || eqb code 10 || eqb code 11

-- "A beacon is read when its code differs from that of the accepted sample before, of either mode, read or not."; 02 c: the code after 12
-- "counts as changed"
unfoldable pub reads_of : ℕ → Bool → Bool → ℕ → Bool
reads_of code reads_in_bts_bit bts last = is_beacon code && not (eqb code last) && (not bts || is_side code && reads_in_bts_bit)

-- ---- windows: "A reading on an open window takes its place, pressed from the next sample to the older one's miss"

unfoldable pub main_opened : Waits → Desk → Desk
main_opened w d = with_window (opened w (time_left d.window miss_time)) d

unfoldable pub side_opened : Waits → Desk → Desk
side_opened w d = with_side (opened w (time_left d.side miss_time)) d

-- ---- the readings; "a displaced 1 or 9 counts likewise, without cause, before the new reading acts."

-- beacon 1 sets nothing when it is read
unfoldable pub reading1 : Desk → Desk
reading1 d = main_opened waits.One (main_counts d)

-- "Main beacons 2, 5, 6, 7 set rows 0, 2, 3, 4 at once"
unfoldable pub reading_row : MainKind → Waits → Desk → Desk
reading_row kind w d = main_opened w (taken_over kind 0 0 (main_counts d))

-- "With function 0, .. beacon 3 answered by 5 at ages 1..29": the option starts, anew if there was one
unfoldable pub option_offered : Bool → Desk → Desk
option_offered true d = with_option option_now d
option_offered false d = d

-- "3 sets clear (no main limit)"; "Beacons 3 and 8 displace the main window and open none (house)."
unfoldable pub reading3 : Bool → Desk → Desk
reading3 protects d = option_offered protects (with_window closed (taken_over main.Clear 0 0 (main_counts d)))

-- "With function 0, beacon 4, .., sets protected"; its icon is not shown at once
unfoldable pub reading4 : Bool → Desk → Desk
reading4 true d = with_crossing (protected_set 0 0 false d.beside.crossing) d
reading4 false d = d

-- "Stop zone (function 1): beacon 7 read while row 4 is main and under 80 m from its reading sets 10 km/h; its window alone starts afresh
-- even over an open one, lamp and press from age 10, miss at 40. A beacon 7 read in the zone sets row 4 anew."
abbrev pub zone_or : Bool → Desk → Desk
zone_or true d = with_window (opened waits.Zone zone_miss) (taken_over main.Zone 0 0 d)
zone_or false d = main_opened waits.Seven (taken_over main.BeforeStop 0 0 d)

-- the stop-zone rule, whatever the function says
unfoldable pub zone_met : Desk → Bool
zone_met d = near_of (main_counts d).main

unfoldable pub reading7 : Bool → Desk → Desk
reading7 zones d = zone_or (zone_met d && zones) (main_counts d)

-- the stop's reminder: due for "the stop of a beacon 8 passed under override"
abbrev pub reminded_after : Bool → Reminder
reminded_after true = fresh_as Due
reminded_after false = fresh_as Off

-- "8 sets stop"; override "is used up by beacon 8"; the stop limit alongside: "a beacon 8 ends it at once"
unfoldable pub stopped : Desk → Desk
stopped d =
    with_window closed
    (with_armed disarmed
    (with_alongside none_alongside (with_main (main_of main.Stop 0 0) (with_reminder (reminded_after d.armed.armed) d))))

unfoldable pub reading8 : Desk → Desk
reading8 d = stopped (main_counts d)

-- "Beacon 9 waits for 5 or 6"
unfoldable pub reading9 : Desk → Desk
reading9 d = side_opened waits.Nine (side_counts d)

-- "10 and 11 set limit at once and wait for 6."
unfoldable pub reading_single : Desk → Desk
reading_single d = side_opened waits.Limit (limit_now false 0 (side_counts d))

-- ---- 02 g: "Document 001 pairs limit beacons, giving 30, 40, 50 or 70 km/h; document 01 knows single ones, which is wrong."

-- "the speeds for pairs 10-10, 10-11, 11-10, 11-11"
unfoldable pub speed_of_pair : Pairs → First → ℕ → ℕ
speed_of_pair pairs first code =
    pick (is_eleven first.kind)
    (pick (eqb code 11) pairs.eleven_eleven pairs.eleven_ten)
    (pick (eqb code 11) pairs.ten_eleven pairs.ten_ten)

-- "The first is the last 10 or 11 read that is in no pair." (g8); its limit is its own where no single limit stood as it was read
unfoldable pub first_kept : ℕ → Bool → Desk → Desk
first_kept code own d = with_paired (record { first = first_read code own; limits = d.beside.paired.limits }) d

-- "A first acts as 01's 10 or 11: single limit at once (a repeat: steps 0, age kept), window for 6." (g12)
unfoldable pub reading_first : ℕ → Desk → Desk
reading_first code d = side_opened waits.Limit (first_kept code (not d.beside.limit.on) (limit_now false 0 (side_counts d)))

-- ".. and the first's is dropped, unless one stood before it": "The first's limit is dropped when no single limit stood as the first was read
-- and nothing else has set it since." (g15): since the first was read, an answer alone can have set it
abbrev pub drops_single : First → Limit → Bool
drops_single first limit = first.own && not limit.answered

unfoldable pub single_dropped : Desk → Desk
single_dropped d = pick (drops_single d.beside.paired.first d.beside.limit) (with_limit no_limit d) d

-- "the second sets no single limit"; it sets its speed's paired limit, "in S in that very sample" (g13). "a beacon belongs to one pair only": no
-- first is left
unfoldable pub pair_set : ℕ → Desk → Desk
pair_set speed d = with_paired (record { first = no_first; limits = four_with speed paired_now d.beside.paired.limits }) (single_dropped d)

-- "The second waits for 6 too: in an open side window's place, to that one's miss (a displaced 9 counts), else in a fresh window" (g14)
unfoldable pub reading_second : ℕ → Desk → Desk
reading_second speed d = side_opened waits.Limit (pair_set speed (side_counts d))

-- on a card with pairs: "A second 10 or 11 read at no more than that distance from the first makes a pair"; "one further off is itself the
-- first" (g8)
unfoldable pub reading_paired : ℕ → Pairs → Desk → Desk
reading_paired code pairs d =
    pick (is_second pairs.distance d.beside.paired.first)
    (reading_second (speed_of_pair pairs d.beside.paired.first code) d)
    (reading_first code d)

-- "On version 1 and 2 cards all stays"
unfoldable pub reading_limit : ℕ → Bool → Pairs → Desk → Desk
reading_limit code paired pairs d = pick paired (reading_paired code pairs d) (reading_single d)

-- a beacon of this code, 1..11, acts
unfoldable pub reading_of : ℕ → Bool → Bool → Bool → Pairs → Desk → Desk
reading_of code protects zones paired pairs d =
    pick (eqb code 1) (reading1 d)
    (pick (eqb code 2) (reading_row main.ConditionalClear waits.Two d)
    (pick (eqb code 3) (reading3 protects d)
    (pick (eqb code 4) (reading4 protects d)
    (pick (eqb code 5) (reading_row main.Preannouncement waits.Five d)
    (pick (eqb code 6) (reading_row main.Caution waits.Six d)
    (pick (eqb code 7) (reading7 zones d)
    (pick (eqb code 8) (reading8 d) (pick (eqb code 9) (reading9 d) (reading_limit code paired pairs d)))))))))

unfoldable pub read_if : Bool → ℕ → Bool → Bool → Bool → Pairs → Desk → Desk
read_if true code protects zones paired pairs d = reading_of code protects zones paired pairs d
read_if false code protects zones paired pairs d = d

-- the beacon's step: its code is remembered, read or not, "12 becomes the last code in either mode" (c5); "beacon 8 without armed override is
-- cause 4"
unfoldable pub beacon_taken : ℕ → Bool → Bool → Bool → Bool → Pairs → Desk → Turn
beacon_taken code protects zones reads_in_bts_bit paired pairs d =
    let reads : Bool = reads_of code reads_in_bts_bit d.bts d.code in
    record {
      desk = read_if reads code protects zones paired pairs (with_code code d);
      cause = pick (reads && eqb code 8 && not d.armed.armed) 4 0;
    }
