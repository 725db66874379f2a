-- Document 01, "Tones", sentence by sentence. A float is `lib.Ieee`'s: `nan`, `inf s`, or `fin s m e`, which is ±m * 2 ^ e, each
-- written in one way only, so that `≡` is equality bit for bit. `le x y` is false where either is not a number. Definitions only.
use Rattle.std.specs.Prelude.{Bool, false, not, ◌&&◌, ◌||◌, List, [], ◌∷◌, ◌++◌, ℕ, zero, suc, ◌+◌, ◌*◌, length, get_or, replicate, pos, leb, eqb, Float, Result, Ok, Err}
use Rattle.std.specs.List.{list_any}
use Rattle.std.specs.Float.{nan, binary32}
use Rattle.std.specs.Float.Ieee.{of_bits, of_int, le, mul, sub}
use Rattle.std.specs.Float.Ieee.Scale.{finite}
use Rattle.leaf.specs.Choosing.{pick}
use Rattle.leaf.specs.Bytes.{byte, word, long}
use Rattle.leaf.specs.Numbers.{quiet_code}
use Rattle.leaf.specs.Checks.{Check, first_bad}
use Rattle.leaf.specs.Answers.{Answer, given, refused, refused_at, on_paper, ensured, numbered_refusal}
use Rattle.leaf.specs.declared.refusal.Refusal.{Refusal}
use Rattle.leaf.specs.declared.refusal.Refusal.TheVariants.{OutOfRange, BadSheet}
use Rattle.tone.specs.declared.ToneRow.{ToneRow}
use Rattle.tone.specs.declared.Sheet.{Sheet}
use Rattle.tone.specs.declared.Reading.{Reading}
use Rattle.tone.specs.declared.Reading.TheVariants.{Beacon, Permanent, Nothing}

-- ---- "Sheet, 147 bytes: length, version 1, then twelve rows of three f32 bit patterns, permanent tone first, then beacons 1..11."

abbrev pub SHEET_LENGTH : ℕ
SHEET_LENGTH = 147

abbrev pub VERSION : ℕ
VERSION = 1

abbrev pub ROWS : ℕ
ROWS = 12

-- the first byte of row k: the permanent tone's is row 0, beacon k's is row k
abbrev pub place_of : ℕ → ℕ
place_of k = 3 + 12 * k

-- "A tone sheet row holds its low, centre and high kHz.": the row whose first byte is at a place
abbrev pub row_at : List ℕ → ℕ → ToneRow
row_at area at = record { low = of_bits binary32 (long area at); centre = of_bits binary32 (long area (at + 4)); high = of_bits binary32 (long area (at + 8)) }

-- the first n rows of an area
unfoldable pub rows_of : List ℕ → ℕ → List ToneRow
rows_of area zero = []
rows_of area (suc n) = rows_of area n ++ (row_at area (place_of n) ∷ [])

unfoldable pub sheet_of : List ℕ → Sheet
sheet_of area = record { rows = rows_of area ROWS }

-- ---- "A row needs finite numbers, 32 ≤ low ≤ centre ≤ high ≤ 128, high ≤ 2 × low, and no tone shared with an earlier row (ends included)."

-- a whole number of kHz
abbrev pub khz : ℕ → Float
khz n = of_int binary32 (pos n)

abbrev pub all_finite : ToneRow → Bool
all_finite r = finite r.low && finite r.centre && finite r.high

abbrev pub in_order : ToneRow → Bool
in_order r = le (khz 32) r.low && le r.low r.centre && le r.centre r.high && le r.high (khz 128) && le r.high (mul binary32 (khz 2) r.low)

-- what a row needs by itself
unfoldable pub row_ok : ToneRow → Bool
row_ok r = all_finite r && in_order r

-- two rows share a tone: neither lies wholly above the other
abbrev pub share : ToneRow → ToneRow → Bool
share a b = le a.low b.high && le b.low a.high

-- what stands for a row past a list's end: no tone lies in it
abbrev pub no_row : ToneRow
no_row = record { low = nan; centre = nan; high = nan }

abbrev pub row_of : List ToneRow → ℕ → ToneRow
row_of rows k = get_or rows k no_row

-- r shares a tone with one of the first n rows
unfoldable pub shares_earlier : List ToneRow → ℕ → ToneRow → Bool
shares_earlier rows zero r = false
shares_earlier rows (suc n) r = shares_earlier rows n r || share (row_of rows n) r

-- row k is good: by itself, and beside the earlier ones
unfoldable pub good_at : List ToneRow → ℕ → Bool
good_at rows k = row_ok (row_of rows k) && not (shares_earlier rows k (row_of rows k))

-- ---- "Place 0 for length or an area under 147, 2 for version, else the first bad row's first byte; in that order"

-- the checks of the version and of the first n rows, each with its place
abbrev pub checks_of : ℕ → List ToneRow → ℕ → List Check
checks_of version rows zero = (2, eqb version VERSION) ∷ []
checks_of version rows (suc n) = checks_of version rows n ++ ((place_of n, good_at rows n) ∷ [])

-- the place of the first fault behind the length, or 0 if there is none
unfoldable pub fault_of : ℕ → List ToneRow → ℕ → ℕ
fault_of version rows n = first_bad 0 (checks_of version rows n)

-- the length field is right and the area has as many bytes
abbrev pub whole_sheet : List ℕ → Bool
whole_sheet area = leb SHEET_LENGTH (length area) && eqb (word area 0) SHEET_LENGTH

-- "12 | tone sheet bad, with place"
abbrev pub BAD_SHEET : ℕ
BAD_SHEET = 12

-- the sheet, or refusal 12 with the place of its first fault
unfoldable pub read_sheet : List ℕ → Answer Sheet
read_sheet area =
    let place = fault_of (byte area 2) (rows_of area ROWS) ROWS in
    pick (whole_sheet area) (pick (eqb place 0) (given (sheet_of area)) (refused_at BAD_SHEET place)) (refused_at BAD_SHEET 0)

-- the reader's answer on paper
abbrev pub paper_of_sheet : Result Sheet Refusal → Answer Sheet
paper_of_sheet r = on_paper r

-- a sheet before it is read: twelve rows of zeros
abbrev pub blank_row : ToneRow
blank_row = record { low = khz 0; centre = khz 0; high = khz 0 }

abbrev pub blank_sheet : Sheet
blank_sheet = record { rows = replicate ROWS blank_row }

-- the whole of the reader's answer: the sheet, or the refusal with its place
abbrev pub beside_of : Answer Sheet → Result Sheet Refusal
beside_of (given sheet) = Ok sheet
beside_of (refused n) = Err (numbered_refusal n)
beside_of (refused_at n place) = Err (pick (eqb n BAD_SHEET) (BadSheet place) (OutOfRange place))

-- ---- the same, refusal by refusal, as a function answers it

-- a row beside the earlier ones: good by itself, and no tone shared with one of them
unfoldable pub good_beside : List ToneRow → ToneRow → Bool
good_beside earlier r = row_ok r && not (list_any (λ row. share row r) earlier)

-- the answer by the place of the first fault, 0 being none
unfoldable pub bad_at : ℕ → Result Unit Refusal
bad_at place = pick (eqb place 0) (Ok tt) (Err (BadSheet place))

-- what is answered behind a check that passed
abbrev pub behind : Result Unit Refusal → Result Sheet Refusal → Result Sheet Refusal
behind (Ok _) answer = answer
behind (Err why) answer = Err why

-- the length, then the version and the rows, then the sheet
unfoldable pub sheet_read : List ℕ → Result Sheet Refusal
sheet_read area =
    behind (ensured (whole_sheet area) (BadSheet 0)) (behind (bad_at (fault_of (byte area 2) (sheet_of area).rows ROWS)) (Ok (sheet_of area)))

-- ---- "A tone reads as a beacon with its offset, the permanent tone with its offset, or nothing."

-- "Ends belong to the row; not-a-number is nothing."
abbrev pub in_row : ToneRow → Float → Bool
in_row r tone = le r.low tone && le tone r.high

-- "permanent tone first, then beacons 1..11": what row k reads as
abbrev pub reading_of : ℕ → Float → Reading
reading_of zero offset = Permanent offset
reading_of (suc k) offset = Beacon (suc k) offset

-- "The offset is the tone minus the centre, rounded once."
abbrev pub offset_from : ToneRow → Float → Float
offset_from r tone = sub binary32 tone r.centre

-- the first of the rows, numbered from k, that the tone lies in
unfoldable pub read_from : ℕ → List ToneRow → Float → Reading
read_from k [] tone = Nothing
read_from k (r ∷ rest) tone = pick (in_row r tone) (reading_of k (offset_from r tone)) (read_from (suc k) rest tone)

-- "from the classifier too": a bad sheet's refusal comes before anything about the tone
abbrev pub read_under : Answer Sheet → Float → Answer Reading
read_under (given sheet) tone = given (read_from 0 sheet.rows tone)
read_under (refused n) tone = refused n
read_under (refused_at n place) tone = refused_at n place

unfoldable pub classify_of : List ℕ → Float → Answer Reading
classify_of area tone = read_under (read_sheet area) tone

-- the classifier's answer on paper
abbrev pub paper_of : Result Reading Refusal → Answer Reading
paper_of r = on_paper r

-- ---- "The ride's beacon code is 0 for permanent or nothing.", where nothing's gives way to 02 c: "The classifier's answer "nothing" becomes code
-- 12 and no longer code 0"
abbrev pub code_of : Reading → ℕ
code_of (Beacon k offset) = k
code_of (Permanent offset) = 0
code_of Nothing = quiet_code
