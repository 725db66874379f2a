-- How long the text of a card can be: a buffer of 4,096 bytes holds every one whole.
use Prim.Native.Nat.{ℕ, ◌+◌, ◌-◌, ◌*◌, ◌≤◌}
use native.Mathlib.Omega.{arith}
use mathlib.Core.Bool.{Bool, false}
use mathlib.Core.List.{List, [], ◌∷◌, ◌++◌}
use lib.Dec.{leb, ltb, eqb}
use lib.ListN.{length, take, drop, length-append, length-take}
use Rattle.leaf.specs.Choosing.{pick}
use Rattle.leaf.specs.Bytes.{byte, word}
use Rattle.leaf.specs.Answers.{Answer, given, refused, refused_at}
use Rattle.std.specs.Prelude.{Some, None}
use Rattle.card.specs.declared.Row.{Row}
use Rattle.card.specs.declared.Pairs.{Pairs}
use Rattle.card.specs.declared.Settings.{Settings}
use Rattle.card.specs.Card.{protects, zones, reminds, reads_in_bts_bit}
use Rattle.card.specs.Reading.{read_card}
use Rattle.text.specs.Decimal.{MOST, counted, decimal}
use Rattle.text.specs.Words.{ascii}
use Rattle.text.proofs.Lengths.{decimal-length, tenths-length, hundredths-length, hex_length, word_length, pick-length}
use Rattle.refused_card.proofs.Room.{row_name-length, numbered-length}
use Rattle.shown_card.specs.Shown.{HIGHEST, fall_text, row_text, rows_text, function_names, function_line, reminder_line, functions_text, head_text, pair_names, pair_text, all_pairs_text, pairs_text, settings_text}
use Rattle.shown_card.specs.Shown.{hex_bytes, hex_line, hex_lines, many_text, more_text, behind_text, card_text, shown_card}

row_length : (k : ℕ) (row : Row) → length (row_text k row) ≤ 240
unfolding row_text fall_text
row_length k row =
    simp length-append
    (omega (arith, row_name-length k, decimal-length row.initial, decimal-length row.last, tenths-length row.delay, hundredths-length row.drop))

rows_length : (s : Settings) → length (rows_text s) ≤ 1920
unfolding rows_text
rows_length s =
    simp length-append
    (omega (
      arith,
      row_length 0 s.conditional_clear,
      row_length 1 s.announcement,
      row_length 2 s.preannouncement,
      row_length 3 s.caution,
      row_length 4 s.before_stop,
      row_length 5 s.crossing,
      row_length 6 s.limit,
      row_length 7 s.start,
    ))

function_length : (k : ℕ) (on : Bool) → length (function_line k on) ≤ 120
unfolding function_line
function_length k on =
    simp length-append
    (omega (arith, decimal-length k, word_length function_names k, word_length (ascii "off\n|on\n") (pick on 1 0)))

reminder_length : (on : Bool) (x y : ℕ) → length (reminder_line on x y) ≤ 120
unfolding reminder_line
reminder_length on x y =
    pick-length on _ _ 120 (simp length-append (omega (arith, decimal-length x, decimal-length y))) (function_length 2 false)

functions_length : (functions x y : ℕ) → length (functions_text functions x y) ≤ 480
unfolding functions_text
functions_length functions x y =
    simp length-append
    (omega (
      arith,
      function_length 0 (protects functions),
      function_length 1 (zones functions),
      reminder_length (reminds functions) x y,
      function_length 3 (reads_in_bts_bit functions),
    ))

pair_length : (k speed : ℕ) → length (pair_text k speed) ≤ 80
unfolding pair_text
pair_length k speed = simp length-append (omega (arith, word_length pair_names k, decimal-length speed))

pairs-length : (version : ℕ) (pairs : Pairs) → length (pairs_text version pairs) ≤ 360
unfolding pairs_text all_pairs_text
pairs-length version pairs =
    pick-length (eqb version 3) _ [] 360
    (simp length-append
    (omega (
      arith,
      pair_length 0 pairs.ten_ten,
      pair_length 1 pairs.ten_eleven,
      pair_length 2 pairs.eleven_ten,
      pair_length 3 pairs.eleven_eleven,
      decimal-length pairs.distance,
    )))
    (omega arith)

settings-length : (version : ℕ) (s : Settings) → length (settings_text version s) ≤ 3000
unfolding settings_text head_text
settings-length version s =
    simp length-append
    (omega (
      arith,
      decimal-length version,
      decimal-length s.vmax,
      tenths-length s.tick,
      decimal-length s.bts,
      rows_length s,
      functions_length s.functions s.x s.y,
      pairs-length version s.pairs,
    ))

hex_bytes-length : (bytes : List ℕ) → length (hex_bytes bytes) ≤ 3 * length bytes
unfolding hex_bytes
hex_bytes-length [] = omega arith
hex_bytes-length (b ∷ rest) = simp length-append (omega (arith, hex_length b, hex_bytes-length rest))

hex_line-length : (area : List ℕ) (at : ℕ) → length (hex_line area at) ≤ 60
unfolding hex_line
hex_line-length area at =
    let bytes = take 16 (drop at area) in
    let few : length bytes ≤ 16 = rw length-take (omega arith) in
    pick-length (ltb at (length area)) (decimal at ++ ascii ":" ++ hex_bytes bytes ++ ascii "\n") [] 60
    (simp length-append (omega (arith, decimal-length at, hex_bytes-length bytes))) (omega arith)

hex_lines-length : (area : List ℕ) (at : ℕ) → length (hex_lines area at) ≤ 240
unfolding hex_lines
hex_lines-length area at =
    simp length-append
    (omega (arith, hex_line-length area at, hex_line-length area (at + 16), hex_line-length area (at + 32), hex_line-length area (at + 48)))

many_length : (bytes first : ℕ) → length (many_text bytes first) ≤ 20
unfolding many_text
many_length bytes first =
    simp length-append (omega (arith, decimal-length (bytes - first), word_length (ascii "| or more") (pick (ltb bytes MOST) 0 1)))

more_length : (bytes first : ℕ) → length (more_text bytes first) ≤ 40
unfolding more_text
more_length bytes first =
    pick-length (leb bytes first) [] (ascii "and " ++ many_text bytes first ++ ascii " behind them\n") 40 (omega arith)
    (simp length-append (omega (arith, many_length bytes first)))

behind_length : (area : List ℕ) (whole : ℕ) → length (behind_text area whole) ≤ 400
unfolding behind_text
behind_length area whole =
    pick-length (leb (counted area) whole) [] _ 400 (omega arith)
    (simp length-append (omega (arith, many_length (counted area) whole, hex_lines-length area whole, more_length (counted area) (whole + 64))))

card_length : (area : List ℕ) (answer : Answer Settings) → length (card_text area answer) ≤ 4096
unfolding card_text
card_length area (given s) =
    simp length-append (omega (arith, settings-length (byte area 2) s, behind_length area (word area 0)))
card_length area (refused number) = omega (arith, numbered-length area HIGHEST number None)
card_length area (refused_at number place) = omega (arith, numbered-length area HIGHEST number (Some place))

pub shown_length : (area : List ℕ) → length (shown_card area) ≤ 4096
unfolding shown_card
shown_length area = card_length area (read_card area HIGHEST)
