-- How long the texts can be: a buffer of 4,096 bytes holds each whole, where the line has no more than 80 bytes.
use Prim.Native.Nat.{ℕ, ◌-◌, ◌/◌, ◌≤◌}
use native.Mathlib.Omega.{arith}
use mathlib.Core.List.{List, [], ◌++◌}
use lib.Dec.{ltb, eqb}
use lib.Ieee.{binary32, of_bits, to_bits}
use lib.ListN.{length, length-append}
use Rattle.leaf.specs.Bytes.{byte, word}
use Rattle.leaf.specs.Answers.{Answer, given, refused, refused_at}
use Rattle.tone.specs.Tones.{VERSION, read_sheet, classify_of, code_of}
use Rattle.tone.specs.Facts.{row_in}
use Rattle.tone.specs.declared.Sheet.{Sheet}
use Rattle.tone.specs.declared.Reading.{Reading}
use Rattle.tone.specs.declared.Reading.TheVariants.{Beacon, Permanent, Nothing}
use Rattle.text.specs.Decimal.{counted}
use Rattle.text.specs.Words.{ascii, labelled}
use Rattle.text.proofs.Lengths.{decimal-length, pattern_length, word_length, pick-length}
use Rattle.shown_tones.specs.Shown.{row_kind, row_name, reason_of, shared_by, reason_text, row_text, length_text, version_text, place_text, fault_text, bad_text, sheet_text, shown_sheet}
use Rattle.shown_tones.specs.Shown.{bytes_in, is_tone, bits_of, reading_text, given_text, answer_text, tone_text, other_text, shown_tone}

row_kind-length : (k : ℕ) → length (row_kind k) ≤ 20
unfolding row_kind
row_kind-length k =
    pick-length (eqb k 0) (ascii " (permanent tone)") (labelled (ascii " (beacon ") k ++ ascii ")") 20 (omega arith)
    (simp length-append (omega (arith, decimal-length k)))

row_name-length : (k : ℕ) → length (row_name k) ≤ 40
unfolding row_name
row_name-length k = simp length-append (omega (arith, decimal-length k, row_kind-length k))

reason_length : (area : List ℕ) (k : ℕ) → length (reason_text area k) ≤ 180
unfolding reason_text
reason_length area k =
    let named = pick-length (eqb (reason_of (row_in area k)) 0) (row_name (shared_by area k k - 1)) [] 40 (row_name-length (shared_by area k k - 1)) (omega arith) in
    simp length-append
    (omega (arith, word_length (ascii ": shares a tone with |: a number is not finite|: not 32 <= low <= centre <= high|: high is above 128|: high is above twice low") (reason_of (row_in area k))))

row_length : (area : List ℕ) (k : ℕ) → length (row_text area k) ≤ 220
unfolding row_text
row_length area k = simp length-append (omega (arith, row_name-length k, reason_length area k))

length-length : (area : List ℕ) → length (length_text area) ≤ 220
unfolding length_text
length-length area = simp length-append (omega (arith, decimal-length (word area 0), decimal-length (counted area)))

version_length : (area : List ℕ) → length (version_text area) ≤ 220
unfolding version_text
version_length area = simp length-append (omega (arith, decimal-length (byte area 2), decimal-length VERSION))

place_length : (area : List ℕ) (place : ℕ) → length (place_text area place) ≤ 220
unfolding place_text
place_length area place =
    pick-length (ltb place 2) _ _ 220 (length-length area)
    (pick-length (ltb place 3) _ _ 220 (version_length area) (row_length area ((place - 3) / 12)))

fault_length : (area : List ℕ) (number place : ℕ) → length (fault_text area number place) ≤ 280
unfolding fault_text
fault_length area number place = simp length-append (omega (arith, decimal-length number, decimal-length place, place_length area place))

bad_length : (number : ℕ) → length (bad_text number) ≤ 100
unfolding bad_text
bad_length number = simp length-append (omega (arith, decimal-length number))

sheet-length : (area : List ℕ) (answer : Answer Sheet) → length (sheet_text area answer) ≤ 4096
unfolding sheet_text
sheet-length area (given sheet) = omega arith
sheet-length area (refused number) = omega (arith, bad_length number)
sheet-length area (refused_at number place) = omega (arith, fault_length area number place)

pub shown_sheet-length : (area : List ℕ) → length (shown_sheet area) ≤ 4096
unfolding shown_sheet
shown_sheet-length area = sheet-length area (read_sheet area)

reading-length : (reading : Reading) → length (reading_text reading) ≤ 40
unfolding reading_text
reading-length (Beacon k offset) = simp length-append (omega (arith, decimal-length k, pattern_length (to_bits binary32 offset)))
reading-length (Permanent offset) = simp length-append (omega (arith, pattern_length (to_bits binary32 offset)))
reading-length Nothing = simp length-append (omega (arith, decimal-length (code_of Nothing)))

answer_length : (area : List ℕ) (bits : ℕ) (answer : Answer Reading) → length (answer_text area bits answer) ≤ 4096
unfolding answer_text given_text
answer_length area bits (given reading) = simp length-append (omega (arith, pattern_length bits, reading-length reading))
answer_length area bits (refused number) = omega (arith, bad_length number)
answer_length area bits (refused_at number place) = omega (arith, fault_length area number place)

tone_length : (area : List ℕ) (bits : ℕ) → length (tone_text area bits) ≤ 4096
unfolding tone_text
tone_length area bits = answer_length area bits (classify_of area (of_bits binary32 bits))

other_length : (line : List ℕ) → length line ≤ 80 → length (other_text line) ≤ 4096
unfolding other_text
other_length line few = simp length-append (omega arith)

pub shown_tone-length : (area line : List ℕ) → length line ≤ 80 → length (shown_tone area line) ≤ 4096
unfolding shown_tone
shown_tone-length area line few =
    pick-length (eqb (bytes_in line) 0) [] _ 4096 (omega arith)
    (pick-length (is_tone line) _ _ 4096 (tone_length area (bits_of line)) (other_length line few))
