-- What `show_card` prints of an area of bytes, as one text: the card's settings by name and with their units, or why it is refused.
use Rattle.std.specs.Prelude.{ℕ, ◌+◌, ◌-◌, Bool, false, List, [], ◌∷◌, ◌++◌, Some, None, leb, ltb, eqb, length, take, drop}
use Rattle.leaf.specs.Choosing.{pick}
use Rattle.leaf.specs.Bytes.{byte, word}
use Rattle.leaf.specs.Answers.{Answer, given, refused, refused_at}
use Rattle.card.specs.declared.Row.{Row}
use Rattle.card.specs.declared.Pairs.{Pairs}
use Rattle.card.specs.declared.Settings.{Settings}
use Rattle.card.specs.Card.{protects, zones, reminds, reads_in_bts_bit}
use Rattle.card.specs.Reading.{read_card}
use Rattle.text.specs.Decimal.{MOST, counted, blank, decimal, tenths, hundredths}
use Rattle.text.specs.Hex.{hex_of}
use Rattle.text.specs.Words.{ascii, word_of, labelled}
use Rattle.refused_card.specs.Names.{row_name}
use Rattle.refused_card.specs.Refused.{numbered_text}

-- the highest version that the program knows: 02 g's
abbrev pub HIGHEST : ℕ
HIGHEST = 3

-- ---- the settings

-- "initial minus drop hundredths of km/h for each sample past the delay", which is in samples of 100 ms
unfoldable pub fall_text : ℕ → ℕ → List ℕ
fall_text delay drop = ascii " km/h, delay " ++ tenths delay ++ ascii " s, drop " ++ hundredths drop ++ ascii " km/h a sample\n"

-- "eight rows of four: initial, final, delay, drop"
unfoldable pub row_text : ℕ → Row → List ℕ
row_text k row =
    row_name k ++ labelled (ascii ": initial ") row.initial ++ labelled (ascii ", final ") row.last ++ fall_text row.delay row.drop

unfoldable pub rows_text : Settings → List ℕ
rows_text s =
    row_text 0 s.conditional_clear ++ row_text 1 s.announcement ++ row_text 2 s.preannouncement ++ row_text 3 s.caution
    ++ row_text 4 s.before_stop ++ row_text 5 s.crossing ++ row_text 6 s.limit ++ row_text 7 s.start

-- "bit 0 protected crossing, 1 stop zone, 2 reminder, 3 BTS reads beacons 4, 9, 10, 11", off or on
abbrev pub function_names : List ℕ
function_names = ascii ", protected crossing: |, stop zone: |, reminder: |, BTS reads beacons 4, 9, 10, 11: "

unfoldable pub function_line : ℕ → Bool → List ℕ
function_line k on = labelled (ascii "function ") k ++ word_of function_names k ++ word_of (ascii "off\n|on\n") (pick on 1 0)

-- "With bit 2 off, bytes 40–43 are not looked at": X and Y speak only while the reminder is on
unfoldable pub reminder_line : Bool → ℕ → ℕ → List ℕ
reminder_line on x y =
    pick on (labelled (ascii "function 2, reminder: on, X ") x ++ labelled (ascii " samples, Y ") y ++ ascii " m\n") (function_line 2 false)

unfoldable pub functions_text : ℕ → ℕ → ℕ → List ℕ
functions_text functions x y =
    function_line 0 (protects functions) ++ function_line 1 (zones functions) ++ reminder_line (reminds functions) x y
    ++ function_line 3 (reads_in_bts_bit functions)

-- "3 vmax 80..200 km/h, 4–5 tick length 10..1000 tenths of a millimetre, 6 BTS speed 1..200"
unfoldable pub head_text : ℕ → ℕ → ℕ → ℕ → List ℕ
head_text version vmax tick bts =
    labelled (ascii "card version ") version ++ labelled (ascii "\nvmax ") vmax ++ ascii " km/h\ntick " ++ tenths tick
    ++ labelled (ascii " mm\nBTS speed ") bts ++ ascii " km/h\n"

-- 02 g: "the speeds for pairs 10-10, 10-11, 11-10, 11-11", a line each, "and byte 48, the pair distance"
abbrev pub pair_names : List ℕ
pair_names = ascii "pair 10-10: |pair 10-11: |pair 11-10: |pair 11-11: "

unfoldable pub pair_text : ℕ → ℕ → List ℕ
pair_text k speed = word_of pair_names k ++ decimal speed ++ ascii " km/h\n"

unfoldable pub all_pairs_text : Pairs → List ℕ
all_pairs_text pairs =
    pair_text 0 pairs.ten_ten ++ pair_text 1 pairs.ten_eleven ++ pair_text 2 pairs.eleven_ten
    ++ pair_text 3 pairs.eleven_eleven ++ labelled (ascii "pair distance: ") pairs.distance ++ ascii " m\n"

-- "Card version 3 is version 2 with" them: of other cards nothing is said
unfoldable pub pairs_text : ℕ → Pairs → List ℕ
pairs_text version pairs = pick (eqb version 3) (all_pairs_text pairs) []

unfoldable pub settings_text : ℕ → Settings → List ℕ
settings_text version s =
    head_text version s.vmax s.tick s.bts ++ rows_text s ++ functions_text s.functions s.x s.y ++ pairs_text version s.pairs

-- ---- what lies behind the record

-- bytes of a listing, a blank before each
unfoldable pub hex_bytes : List ℕ → List ℕ
hex_bytes [] = []
hex_bytes (b ∷ rest) = blank ∷ hex_of b ++ hex_bytes rest

-- a line of sixteen bytes of an area from a place on, as many as it has; none where it ends before
unfoldable pub hex_line : List ℕ → ℕ → List ℕ
hex_line area at = pick (ltb at (length area)) (decimal at ++ ascii ":" ++ hex_bytes (take 16 (drop at area)) ++ ascii "\n") []

-- four lines: the first 64 bytes from a place on
unfoldable pub hex_lines : List ℕ → ℕ → List ℕ
hex_lines area at = hex_line area at ++ hex_line area (at + 16) ++ hex_line area (at + 32) ++ hex_line area (at + 48)

-- how many bytes lie behind the first so many: at least that, where there are as many as a program looks at
unfoldable pub many_text : ℕ → ℕ → List ℕ
many_text bytes first = decimal (bytes - first) ++ word_of (ascii "| or more") (pick (ltb bytes MOST) 0 1)

-- how many lie behind those that are listed
unfoldable pub more_text : ℕ → ℕ → List ℕ
more_text bytes first = pick (leb bytes first) [] (ascii "and " ++ many_text bytes first ++ ascii " behind them\n")

-- "Bytes 0–1 length of the whole record": an area may be longer, and the reader does not look behind it
unfoldable pub behind_text : List ℕ → ℕ → List ℕ
behind_text area whole =
    pick (leb (counted area) whole) []
    (ascii "bytes behind the record, which the desk never reads: " ++ many_text (counted area) whole ++ ascii "\n"
    ++ hex_lines area whole ++ more_text (counted area) (whole + 64))

-- ---- the whole text

-- of the reader's answer: the settings and what lies behind the record, or why the card is refused
unfoldable pub card_text : List ℕ → Answer Settings → List ℕ
card_text area (given s) = settings_text (byte area 2) s ++ behind_text area (word area 0)
card_text area (refused number) = numbered_text area HIGHEST number None
card_text area (refused_at number place) = numbered_text area HIGHEST number (Some place)

unfoldable pub shown_card : List ℕ → List ℕ
shown_card area = card_text area (read_card area HIGHEST)
