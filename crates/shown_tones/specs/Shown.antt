-- What `show_tones` prints: of a sheet why it is refused, and of a line of input what its tone reads as under the sheet.
use Rattle.std.specs.Prelude.{ℕ, zero, suc, ◌+◌, ◌-◌, ◌*◌, ◌/◌, ◌%◌, Bool, true, not, ◌&&◌, ◌||◌, List, [], ◌∷◌, ◌++◌, ltb, eqb}
use Rattle.std.specs.Float.{binary32}
use Rattle.std.specs.Float.Ieee.{of_bits, to_bits, le, mul}
use Rattle.leaf.specs.Choosing.{pick}
use Rattle.leaf.specs.Bytes.{byte, word}
use Rattle.leaf.specs.Checks.{first_bad, or_fault}
use Rattle.leaf.specs.Answers.{Answer, given, refused, refused_at}
use Rattle.text.specs.Decimal.{counted}
use Rattle.text.specs.Hex.{pattern_of, hex_value}
use Rattle.text.specs.Words.{ascii, word_of, labelled, refused_by, refused_at_place}
use Rattle.tone.specs.Tones.{VERSION, khz, all_finite, share, read_sheet, classify_of, code_of}
use Rattle.tone.specs.Facts.{row_in}
use Rattle.tone.specs.declared.ToneRow.{ToneRow}
use Rattle.tone.specs.declared.Sheet.{Sheet}
use Rattle.tone.specs.declared.Reading.{Reading}
use Rattle.tone.specs.declared.Reading.TheVariants.{Beacon, Permanent, Nothing}

-- ---- a sheet's refusal

-- "permanent tone first, then beacons 1..11"
unfoldable pub row_kind : ℕ → List ℕ
row_kind k = pick (eqb k 0) (ascii " (permanent tone)") (labelled (ascii " (beacon ") k ++ ascii ")")

unfoldable pub row_name : ℕ → List ℕ
row_name k = labelled (ascii "row ") k ++ row_kind k

-- "A row needs finite numbers, 32 ≤ low ≤ centre ≤ high ≤ 128, high ≤ 2 × low, and no tone shared with an earlier row": what it needs by
-- itself, behind finite numbers
abbrev pub is_ordered : ToneRow → Bool
is_ordered r = le (khz 32) r.low && le r.low r.centre && le r.centre r.high

abbrev pub ends_by128 : ToneRow → Bool
ends_by128 r = le r.high (khz 128)

abbrev pub ends_by_twice_low : ToneRow → Bool
ends_by_twice_low r = le r.high (mul binary32 (khz 2) r.low)

-- the first of all that it lacks, 0 where it lacks none
unfoldable pub reason_of : ToneRow → ℕ
reason_of r = first_bad 0 ((1, all_finite r) ∷ (2, is_ordered r) ∷ (3, ends_by128 r) ∷ (4, ends_by_twice_low r) ∷ [])

-- one more than the number of the first of n rows that shares a tone with row k, 0 where none does
unfoldable pub shared_by : List ℕ → ℕ → ℕ → ℕ
shared_by area k zero = 0
shared_by area k (suc n) = or_fault (shared_by area k n) (suc n) (not (share (row_in area n) (row_in area k)))

unfoldable pub reason_text : List ℕ → ℕ → List ℕ
reason_text area k =
    word_of (ascii ": shares a tone with |: a number is not finite|: not 32 <= low <= centre <= high|: high is above 128|: high is above twice low")
    (reason_of (row_in area k))
    ++ pick (eqb (reason_of (row_in area k)) 0) (row_name (shared_by area k k - 1)) []

unfoldable pub row_text : List ℕ → ℕ → List ℕ
row_text area k = row_name k ++ reason_text area k

-- the length field, and how many bytes there are
unfoldable pub length_text : List ℕ → List ℕ
length_text area =
    labelled (ascii "length, or fewer than 147 bytes: the field is ") (word area 0) ++ labelled (ascii ", there are ") (counted area) ++ ascii " bytes"

unfoldable pub version_text : List ℕ → List ℕ
version_text area = labelled (ascii "version: is ") (byte area 2) ++ labelled (ascii ", must be ") VERSION

-- "Place 0 for length or an area under 147, 2 for version, else the first bad row's first byte"
unfoldable pub place_text : List ℕ → ℕ → List ℕ
place_text area place = pick (ltb place 2) (length_text area) (pick (ltb place 3) (version_text area) (row_text area ((place - 3) / 12)))

unfoldable pub fault_text : List ℕ → ℕ → ℕ → List ℕ
fault_text area number place = refused_at_place number place ++ ascii ": " ++ place_text area place ++ ascii "\n"

-- "12 | tone sheet bad, with place": it always comes with one
unfoldable pub bad_text : ℕ → List ℕ
bad_text number = refused_by number ++ ascii ": tone sheet bad\n"

-- nothing where it is accepted
unfoldable pub sheet_text : List ℕ → Answer Sheet → List ℕ
sheet_text area (given sheet) = []
sheet_text area (refused number) = bad_text number
sheet_text area (refused_at number place) = fault_text area number place

unfoldable pub shown_sheet : List ℕ → List ℕ
shown_sheet area = sheet_text area (read_sheet area)

-- ---- a line

-- blanks and tabs count for nothing
abbrev pub is_blank : ℕ → Bool
is_blank b = eqb b 0x20 || eqb b 0x09

-- how many bytes are no blanks
unfoldable pub bytes_in : List ℕ → ℕ
bytes_in [] = 0
bytes_in (b ∷ rest) = pick (is_blank b) 0 1 + bytes_in rest

-- a tone is eight hexadecimal digits, the bit pattern of its f32 in kHz
unfoldable pub only_digits : List ℕ → Bool
only_digits [] = true
only_digits (b ∷ rest) = (is_blank b || ltb (hex_value b) 16) && only_digits rest

unfoldable pub is_tone : List ℕ → Bool
is_tone line = eqb (bytes_in line) 8 && only_digits line

-- the number that digits write behind those of `bits`: the last eight of all
unfoldable pub bits_from : ℕ → List ℕ → ℕ
bits_from bits [] = bits
bits_from bits (b ∷ rest) = bits_from (pick (is_blank b) bits (bits % 0x1000_0000 * 16 + hex_value b % 16)) rest

abbrev pub bits_of : List ℕ → ℕ
bits_of line = bits_from 0 line

-- "A tone reads as a beacon with its offset, the permanent tone with its offset, or nothing."; 02 c: "The classifier's answer "nothing" becomes
-- code 12", which stands beside it
unfoldable pub reading_text : Reading → List ℕ
reading_text (Beacon k offset) = labelled (ascii " beacon ") k ++ ascii " offset " ++ pattern_of (to_bits binary32 offset)
reading_text (Permanent offset) = ascii " permanent offset " ++ pattern_of (to_bits binary32 offset)
reading_text Nothing = labelled (ascii " nothing code ") (code_of Nothing)

-- a tone's bit pattern and what it reads as
unfoldable pub given_text : ℕ → Reading → List ℕ
given_text bits reading = pattern_of bits ++ reading_text reading ++ ascii "\n"

-- or the sheet's refusal
unfoldable pub answer_text : List ℕ → ℕ → Answer Reading → List ℕ
answer_text area bits (given reading) = given_text bits reading
answer_text area bits (refused number) = bad_text number
answer_text area bits (refused_at number place) = fault_text area number place

unfoldable pub tone_text : List ℕ → ℕ → List ℕ
tone_text area bits = answer_text area bits (classify_of area (of_bits binary32 bits))

-- what is no tone is said back, with the form of one
unfoldable pub other_text : List ℕ → List ℕ
other_text line =
    ascii "not a tone: " ++ line ++ ascii "; a tone is the eight hexadecimal digits of its f32 in kHz, as 42730a3d\n"

-- nothing for a line of blanks
unfoldable pub shown_tone : List ℕ → List ℕ → List ℕ
shown_tone area line =
    pick (eqb (bytes_in line) 0) [] (pick (is_tone line) (tone_text area (bits_of line)) (other_text line))
