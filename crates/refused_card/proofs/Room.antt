-- How long the text of a refusal can be: 400 bytes hold every one whole.
use Prim.Native.Nat.{ℕ, ◌-◌, ◌/◌, ◌%◌, ◌≤◌}
use native.Mathlib.Omega.{arith}
use mathlib.Core.Bool.{not, ◌&&◌}
use mathlib.Core.List.{List, []}
use lib.Dec.{ltb, eqb}
use lib.ListN.{length, length-append}
use Rattle.leaf.specs.Bytes.{byte, word}
use Rattle.std.specs.Prelude.{Option, Some, None}
use Rattle.leaf.specs.Answers.{number_of, place_of}
use Rattle.leaf.specs.declared.refusal.Refusal.{Refusal}
use Rattle.card.specs.Card.{length_of}
use Rattle.text.specs.Decimal.{counted}
use Rattle.text.specs.Words.{ascii}
use Rattle.text.proofs.Lengths.{decimal-length, word_length, pick-length}
use Rattle.refused_card.specs.Names.{row_name, row_setting, behind_rows, setting_name}
use Rattle.refused_card.specs.Refused.{reason_text, bytes_due, bytes_found, version_found, length_found, found_text, is_text, hint_text, refused_text, low_end, high_end, value_at, is_above, is_below, missed_text, is_speed, due_text, range_text, fault_text, numbered_text, why_text}

pub row_name-length : (k : ℕ) → length (row_name k) ≤ 104
row_name-length k = word_length (ascii "conditional clear|stop announcement|preannouncement|caution|before-stop|unprotected crossing|limit|start") k

row_setting-length : (offset : ℕ) → length (row_setting offset) ≤ 140
unfolding row_setting
row_setting-length offset =
    simp length-append
    (omega (arith, row_name-length (offset / 4), word_length (ascii ", initial|, final|, delay|, drop") (offset % 4)))

setting_name-length : (place : ℕ) → length (setting_name place) ≤ 140
unfolding setting_name
setting_name-length place =
    pick-length (ltb place 7) _ _ 140 (omega (arith, word_length (ascii "length||version|vmax|tick length, in tenths of a millimetre||BTS speed") place))
    (pick-length (ltb place 39) _ _ 140 (row_setting-length (place - 7))
    (omega (arith, word_length behind_rows (place - 39))))

reason_length : (number : ℕ) → length (reason_text number) ≤ 220
reason_length number =
    let h = word_length (ascii "|card area under 3 bytes, or shorter than its record|card version 0|card version above the reader's highest|length field is not its version's length|setting out of range|reader's highest version not 1, 2 or 3") number in
    omega arith

found_length : (area : List ℕ) (highest number : ℕ) → length (found_text area highest number) ≤ 50
unfolding found_text bytes_found version_found length_found
found_length area highest number =
    pick-length (eqb number 1) _ _ 50 (simp length-append (omega (arith, decimal-length (counted area), decimal-length (bytes_due area))))
    (pick-length (eqb number 3) _ _ 50 (simp length-append (omega (arith, decimal-length (byte area 2), decimal-length highest)))
    (pick-length (eqb number 4) _ _ 50 (simp length-append (omega (arith, decimal-length (word area 0), decimal-length (length_of (byte area 2)))))
    (omega arith)))

hint_length : (area : List ℕ) → length (hint_text area) ≤ 80
unfolding hint_text
hint_length area = pick-length (is_text area && not (eqb (length area) 0)) _ [] 80 (omega arith) (omega arith)

refused_length : (area : List ℕ) (highest number : ℕ) → length (refused_text area highest number) ≤ 400
unfolding refused_text
refused_length area highest number =
    simp length-append (omega (arith, decimal-length number, reason_length number, found_length area highest number, hint_length area))

missed_length : (area : List ℕ) (place : ℕ) → length (missed_text area place) ≤ 20
unfolding missed_text
missed_length area place =
    pick-length (is_above area place) _ _ 20 (omega arith) (pick-length (is_below area place) _ _ 20 (omega arith) (omega arith))

due_length : (area : List ℕ) (place : ℕ) → length (due_text area place) ≤ 80
unfolding due_text
due_length area place =
    pick-length (is_speed place) _ _ 80
    (simp length-append (omega (arith, decimal-length 30, decimal-length 40, decimal-length 50, decimal-length 70)))
    (simp length-append (omega (arith, decimal-length (low_end place), decimal-length (high_end area place))))

range_length : (area : List ℕ) (place : ℕ) → length (range_text area place) ≤ 120
unfolding range_text
range_length area place =
    simp length-append (omega (arith, decimal-length (value_at area place), due_length area place, missed_length area place))

fault_length : (area : List ℕ) (number place : ℕ) → length (fault_text area number place) ≤ 300
unfolding fault_text
fault_length area number place =
    simp length-append (omega (arith, decimal-length number, decimal-length place, setting_name-length place, range_length area place))

pub numbered-length : (area : List ℕ) (highest number : ℕ) (place : Option ℕ) → length (numbered_text area highest number place) ≤ 400
numbered-length area highest number None = refused_length area highest number
numbered-length area highest number (Some place) = omega (arith, fault_length area number place)

pub why_length : (area : List ℕ) (highest : ℕ) (why : Refusal) → length (why_text area highest why) ≤ 400
unfolding why_text
why_length area highest why = numbered-length area highest (number_of why) (place_of why)
