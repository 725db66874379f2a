-- The names of a card's settings, each by the place of its first byte.
use Rattle.std.specs.Prelude.{ℕ, ◌-◌, ◌/◌, ◌%◌, List, ◌++◌, ltb}
use Rattle.leaf.specs.Choosing.{pick}
use Rattle.text.specs.Words.{ascii, word_of}

-- "Rows 0..7: conditional clear, stop announcement, preannouncement, caution, before-stop, unprotected crossing, limit, start."
abbrev pub row_name : ℕ → List ℕ
row_name row = word_of (ascii "conditional clear|stop announcement|preannouncement|caution|before-stop|unprotected crossing|limit|start") row

-- "eight rows of four: initial, final, delay, drop": the setting so many bytes behind the first row's first
unfoldable pub row_setting : ℕ → List ℕ
row_setting offset = row_name (offset / 4) ++ word_of (ascii ", initial|, final|, delay|, drop") (offset % 4)

abbrev pub behind_rows : List ℕ
behind_rows =
    ascii "functions|reminder X||reminder Y||pair 10-10 speed|pair 10-11 speed|pair 11-10 speed|pair 11-11 speed|pair distance"

-- "Bytes 0–1 length of the whole record, 2 version, 3 vmax .., 4–5 tick length .. tenths of a millimetre, 6 BTS speed .., 7–38 eight rows ..
-- 39 functions .., 40–41 reminder X .., 42–43 reminder Y"; 02 g: "bytes 44–47, the speeds for pairs 10-10, 10-11, 11-10, 11-11, .. and byte
-- 48, the pair distance": what begins at a place
unfoldable pub setting_name : ℕ → List ℕ
setting_name place =
    pick (ltb place 7) (word_of (ascii "length||version|vmax|tick length, in tenths of a millimetre||BTS speed") place)
    (pick (ltb place 39) (row_setting (place - 7))
    (word_of behind_rows (place - 39)))
