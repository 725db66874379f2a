-- Document 01, "The card", and 02 g: the range of each setting, with the place that refusal 5 gives where it is not met. Each is so many bytes
-- behind the first setting of the card's kind, and the range of vmax is the kind's.
use Rattle.std.specs.Prelude.{ℕ, ◌+◌, ◌%◌, List, [], ◌∷◌, ◌++◌, Bool, true, ◌&&◌, ◌||◌, leb, eqb, get_or, Result, Ok, Err}
use Rattle.std.specs.List.{list_all}
use Rattle.leaf.specs.Choosing.{pick}
use Rattle.leaf.specs.Numbers.{within}
use Rattle.leaf.specs.Checks.{Check, first_bad, all_hold}
use Rattle.leaf.specs.Answers.{Answer, given, refused_at, on_paper, ensured}
use Rattle.leaf.specs.declared.refusal.Refusal.{Refusal}
use Rattle.leaf.specs.declared.refusal.Refusal.TheVariants.{OutOfRange}
use Rattle.card.specs.Card.{base_kind, speeds_of, reminds}
use Rattle.card.specs.declared.Kind.{Kind}
use Rattle.card.specs.declared.Row.{Row}
use Rattle.card.specs.declared.Pairs.{Pairs}
use Rattle.card.specs.declared.Settings.{Settings}

-- ---- each setting's place and range

-- "Places are (first) byte positions, lowest first": so many bytes behind the first setting, and a byte itself
abbrev pub place_of : Kind → ℕ → ℕ
place_of kind offset = (kind.first + offset) % 256

-- "3 vmax 80..200 km/h, 4–5 tick length 10..1000 tenths of a millimetre, 6 BTS speed 1..200"
abbrev pub head_checks : Kind → Settings → List Check
head_checks kind s =
    (place_of kind 0, within kind.vmax_lowest kind.vmax_highest s.vmax)
    ∷ (place_of kind 1, within 10 1000 s.tick)
    ∷ (place_of kind 3, within 1 200 s.bts)
    ∷ []

-- ---- the rows: "one rule stands once and is applied to eight rows" (02 e)

-- "Rows 0..7: conditional clear, stop announcement, preannouncement, caution, before-stop, unprotected crossing, limit, start."
abbrev pub rows_of : Settings → List Row
rows_of s =
    s.conditional_clear
    ∷ s.announcement
    ∷ s.preannouncement
    ∷ s.caution
    ∷ s.before_stop
    ∷ s.crossing
    ∷ s.limit
    ∷ s.start
    ∷ []

-- a row by its number, 0 to 7
abbrev pub row_of : Settings → ℕ → Row
row_of s row = get_or (rows_of s) row s.start

-- "In a row initial 1..200, final 1..initial, delay any, drop ≥ 1."; "final above initial is the final's fault". They are looked at in
-- this order (e1)
abbrev pub row_checks : Kind → ℕ → Row → List Check
row_checks kind offset row =
    (place_of kind offset, within 1 200 row.initial)
    ∷ (place_of kind (offset + 1), within 1 row.initial row.last)
    ∷ (place_of kind (offset + 3), leb 1 row.drop)
    ∷ []

-- "7–38 eight rows of four": the rule of each row in turn, the first of them so many bytes behind the first setting and the next 4
-- bytes further, so that they begin at 7, 11, 15 and so on
abbrev pub rows_checks : Kind → ℕ → List Row → List Check
rows_checks kind offset [] = []
rows_checks kind offset (row ∷ rest) = row_checks kind offset row ++ rows_checks kind (offset + 4) rest

-- the same rule without the places: those that it is given here are the first row's, and change nothing
abbrev pub row_met : Row → Bool
row_met row = all_hold true (row_checks base_kind 4 row)

-- ---- what stands behind the rows

-- "functions (0..15)"; "A version 1 card has functions 0 (writer: else 5 at 39)."
abbrev pub functions_top : ℕ → ℕ
functions_top version = pick (eqb version 1) 0 15

-- a number with a range where it is on; "settings handed in must then have X and Y 0 (else 5 at 40, 42)"
abbrev pub ranged_if : Bool → ℕ → ℕ → ℕ → Bool
ranged_if on lo hi x = pick on (within lo hi x) (eqb x 0)

-- "Version 2 adds 39 functions (0..15), 40–41 reminder X 2..6000 samples, 42–43 reminder Y 1..5000 m."
abbrev pub tail_checks : Kind → ℕ → Settings → List Check
tail_checks kind version s =
    (place_of kind 36, leb s.functions (functions_top version))
    ∷ (place_of kind 37, ranged_if (reminds s.functions) 2 6000 s.x)
    ∷ (place_of kind 39, ranged_if (reminds s.functions) 1 5000 s.y)
    ∷ []

-- ---- the pairs (02 g): one rule of a speed, applied to four

-- "giving 30, 40, 50 or 70 km/h"
abbrev pub is_pair_speed : ℕ → Bool
is_pair_speed speed = eqb speed 30 || eqb speed 40 || eqb speed 50 || eqb speed 70

-- "the speeds for pairs .., each one of those four"; "settings handed in beside version 1 or 2 must have them 0"
abbrev pub pair_speed_met : ℕ → ℕ → Bool
pair_speed_met version speed = pick (eqb version 3) (is_pair_speed speed) (eqb speed 0)

-- the rule of each speed in turn, each one byte further than the one before it; "Bytes 44..47 may be equal" (g1)
abbrev pub speeds_checks : Kind → ℕ → ℕ → List ℕ → List Check
speeds_checks kind version offset [] = []
speeds_checks kind version offset (speed ∷ rest) = (place_of kind offset, pair_speed_met version speed) ∷ speeds_checks kind version (offset + 1) rest

-- "byte 48, the pair distance 1..50 m"; "5 at 44 to 48": "Places 44, 45, 46, 47, 48 follow 42" (g1)
abbrev pub pairs_checks : Kind → ℕ → Pairs → List Check
pairs_checks kind version pairs =
    speeds_checks kind version 41 (speeds_of pairs)
    ++ (place_of kind 45, ranged_if (eqb version 3) 1 50 pairs.distance)
    ∷ []

-- ---- all of them, on a card of a kind

abbrev pub settings_checks : Kind → ℕ → Settings → List Check
settings_checks kind version s =
    head_checks kind s ++ rows_checks kind 4 (rows_of s) ++ tail_checks kind version s ++ pairs_checks kind version s.pairs

-- the place of the first setting out of range, 0 where there is none
unfoldable pub settings_fault : Kind → ℕ → Settings → ℕ
settings_fault kind version s = first_bad 0 (settings_checks kind version s)

-- every setting in range, whatever its place
unfoldable pub settings_inside : Kind → ℕ → Settings → Bool
settings_inside kind version s = all_hold true (settings_checks kind version s)

abbrev pub in_range : Answer Unit
in_range = given tt

-- "5 | setting out of range, with place of the first"
abbrev pub found_at : ℕ → Answer Unit
found_at place = pick (eqb place 0) in_range (refused_at 5 place)

abbrev pub check_of : Kind → ℕ → Settings → Answer Unit
check_of kind version s = found_at (settings_fault kind version s)

-- what the check's answer is on paper
abbrev pub checked_of : Result Unit Refusal → Answer Unit
checked_of result = on_paper result

-- ---- the same, refusal by refusal, as a function answers it

-- the refusal of a check that fails; a place 0 is none, as it is to `first_bad`
abbrev pub refused_by : Check → Result Unit Refusal
refused_by check = ensured (check.1 || eqb check.0 0) (OutOfRange check.0)

-- what was refused, or what is answered behind it
abbrev pub or_else : Result Unit Refusal → Result Unit Refusal → Result Unit Refusal
or_else (Ok _) behind = behind
or_else (Err why) behind = Err why

-- the refusal of the first of the checks that fails
abbrev pub first_refused : List Check → Result Unit Refusal
first_refused [] = Ok tt
first_refused (c ∷ rest) = or_else (refused_by c) (first_refused rest)

-- that of the rows
unfoldable pub rows_refused : Kind → List Row → Result Unit Refusal
rows_refused kind rows = first_refused (rows_checks kind 4 rows)

-- that of the settings: before the rows, in them, behind them, in the pairs
unfoldable pub settings_refused : Kind → ℕ → Settings → Result Unit Refusal
settings_refused kind version s =
    or_else (first_refused (head_checks kind s))
    (or_else (rows_refused kind (rows_of s))
    (or_else (first_refused (tail_checks kind version s)) (first_refused (pairs_checks kind version s.pairs))))

-- whether each row meets the rule
unfoldable pub rows_met : List Row → Bool
rows_met rows = list_all row_met rows

-- whether all settings are in range, with one test of a row
unfoldable pub settings_met : Kind → ℕ → Settings → Bool
settings_met kind version s =
    all_hold true (head_checks kind s) && rows_met (rows_of s) && all_hold true (tail_checks kind version s)
    && all_hold true (pairs_checks kind version s.pairs)

-- ---- on this card

abbrev pub checks_of : ℕ → Settings → List Check
checks_of version s = settings_checks base_kind version s

unfoldable pub fault_of : ℕ → Settings → ℕ
fault_of version s = settings_fault base_kind version s

-- 02 g: "the opening now takes the version, and judges version and settings as the writer does (2, then 5)"
unfoldable pub check_settings : ℕ → Settings → Answer Unit
check_settings version s = found_at (fault_of version s)
