-- Why the card in an area of bytes is refused, in words: what was found, and what should be there.
use Rattle.std.specs.Prelude.{ℕ, ◌-◌, ◌%◌, Bool, true, not, ◌&&◌, ◌||◌, List, [], ◌∷◌, ◌++◌, Option, Some, None, ltb, eqb, length}
use Rattle.leaf.specs.Choosing.{pick}
use Rattle.leaf.specs.Numbers.{within}
use Rattle.leaf.specs.Bytes.{byte, word}
use Rattle.leaf.specs.Answers.{number_of, place_of}
use Rattle.leaf.specs.declared.refusal.Refusal.{Refusal}
use Rattle.card.specs.Card.{length_of}
use Rattle.text.specs.Decimal.{counted, decimal}
use Rattle.text.specs.Words.{ascii, word_of, labelled, refused_by, refused_at_place}
use Rattle.refused_card.specs.Names.{setting_name}

-- ---- a refusal by its number

-- the table of refusal numbers, 1 to 6; 02 g: "2 and 6 now allow 3"
abbrev pub reason_text : ℕ → List ℕ
reason_text number =
    word_of
    (ascii "|card area under 3 bytes, or shorter than its record|card version 0|card version above the reader's highest"
    ++ ascii "|length field is not its version's length|setting out of range|reader's highest version not 1, 2 or 3")
    number

-- "1 | card area under 3 bytes, or shorter than its record": how many bytes are due
abbrev pub bytes_due : List ℕ → ℕ
bytes_due area = pick (ltb (length area) 3) 3 (length_of (byte area 2))

-- what was found and what should be there: how many bytes, which version, which length field
unfoldable pub bytes_found : List ℕ → List ℕ
bytes_found area = labelled (ascii ": has ") (counted area) ++ labelled (ascii " bytes, must have ") (bytes_due area)

unfoldable pub version_found : List ℕ → ℕ → List ℕ
version_found area highest = labelled (ascii ": is ") (byte area 2) ++ labelled (ascii ", the highest is ") highest

unfoldable pub length_found : List ℕ → List ℕ
length_found area = labelled (ascii ": is ") (word area 0) ++ labelled (ascii ", must be ") (length_of (byte area 2))

unfoldable pub found_text : List ℕ → ℕ → ℕ → List ℕ
found_text area highest number =
    pick (eqb number 1) (bytes_found area) (pick (eqb number 3) (version_found area highest) (pick (eqb number 4) (length_found area) []))

-- a character of a text: a printed one of ASCII, or a tab or an end of a line
abbrev pub is_character : ℕ → Bool
is_character b = within 0x20 0x7E b || within 0x09 0x0D b

unfoldable pub is_text : List ℕ → Bool
is_text [] = true
is_text (b ∷ rest) = is_character b && is_text rest

-- what is said besides of a file of text, as a hex dump is: a card begins with a byte 0, which is no character
unfoldable pub hint_text : List ℕ → List ℕ
hint_text area =
    pick (is_text area && not (eqb (length area) 0))
    (ascii "this file is text, not bytes; bench/unhex makes bytes of a hex dump\n") []

unfoldable pub refused_text : List ℕ → ℕ → ℕ → List ℕ
refused_text area highest number =
    refused_by number ++ ascii ": " ++ reason_text number ++ found_text area highest number ++ ascii "\n" ++ hint_text area

-- ---- "5 | setting out of range, with place of the first"

-- "3 vmax 80..200 km/h, 4–5 tick length 10..1000 tenths of a millimetre, 6 BTS speed 1..200"; "initial 1..200, final 1..initial, delay any,
-- drop ≥ 1"; "39 functions (0..15), 40–41 reminder X 2..6000 samples, 42–43 reminder Y 1..5000 m"; 02 g: "byte 48, the pair distance
-- 1..50 m": the lower end of the range of the setting that begins at a place
unfoldable pub low_end : ℕ → ℕ
low_end place = pick (eqb place 3) 80 (pick (eqb place 4) 10 (pick (eqb place 39) 0 (pick (eqb place 40) 2 1)))

-- and the upper end: in a row, 255 being the most that a drop can be; behind the rows; anywhere
unfoldable pub row_high_end : List ℕ → ℕ → ℕ
row_high_end area place = pick (eqb ((place - 7) % 4) 0) 200 (pick (eqb ((place - 7) % 4) 1) (byte area (place - 1)) 255)

unfoldable pub tail_high_end : ℕ → ℕ
tail_high_end place = pick (eqb place 39) 15 (pick (eqb place 40) 6000 (pick (eqb place 48) 50 5000))

unfoldable pub high_end : List ℕ → ℕ → ℕ
high_end area place = pick (ltb place 7) (pick (eqb place 4) 1000 200) (pick (ltb place 39) (row_high_end area place) (tail_high_end place))

-- what stands there: tick length, X and Y are two bytes
unfoldable pub value_at : List ℕ → ℕ → ℕ
value_at area place = pick (eqb place 4 || eqb place 40 || eqb place 42) (word area place) (byte area place)

-- "eight rows of four: initial, final, delay, drop": the place of a final
abbrev pub is_final : ℕ → Bool
is_final place = within 7 38 place && eqb ((place - 7) % 4) 1

-- "final 1..initial"; "final above initial is the final's fault": the end that a final misses, the initial being the byte before it
unfoldable pub is_above : List ℕ → ℕ → Bool
is_above area place = is_final place && ltb (byte area (place - 1)) (byte area place)

unfoldable pub is_below : List ℕ → ℕ → Bool
is_below area place = is_final place && ltb (byte area place) 1

unfoldable pub missed_text : List ℕ → ℕ → List ℕ
missed_text area place = pick (is_above area place) (ascii ": above its initial") (pick (is_below area place) (ascii ": below 1") [])

-- 02 g: "bytes 44–47, the speeds for pairs 10-10, 10-11, 11-10, 11-11": the place of one
abbrev pub is_speed : ℕ → Bool
is_speed place = within 44 47 place

-- "30, 40, 50 or 70 km/h"
abbrev pub pair_speeds : List ℕ
pair_speeds = 30 ∷ 40 ∷ 50 ∷ 70 ∷ []

-- numbers, a comma between any two
abbrev pub comma_text : List ℕ → List ℕ
comma_text [] = []
comma_text (n ∷ []) = decimal n
comma_text (n ∷ m ∷ rest) = decimal n ++ ascii ", " ++ comma_text (m ∷ rest)

-- what should be there: "each one of those four", or both ends of the range
unfoldable pub due_text : List ℕ → ℕ → List ℕ
due_text area place =
    pick (is_speed place) (ascii ", must be one of " ++ comma_text pair_speeds)
    (labelled (ascii ", must be ") (low_end place) ++ labelled (ascii "..") (high_end area place))

unfoldable pub range_text : List ℕ → ℕ → List ℕ
range_text area place = labelled (ascii ": is ") (value_at area place) ++ due_text area place ++ missed_text area place

unfoldable pub fault_text : List ℕ → ℕ → ℕ → List ℕ
fault_text area number place = refused_at_place number place ++ ascii ": " ++ setting_name place ++ range_text area place ++ ascii "\n"

-- ---- the whole text

-- of a number, and of a place where there is one
abbrev pub numbered_text : List ℕ → ℕ → ℕ → Option ℕ → List ℕ
numbered_text area highest number None = refused_text area highest number
numbered_text area highest number (Some place) = fault_text area number place

-- why a reader that knows the versions up to `highest` refuses the card in an area
unfoldable pub why_text : List ℕ → ℕ → Refusal → List ℕ
why_text area highest why = numbered_text area highest (number_of why) (place_of why)
