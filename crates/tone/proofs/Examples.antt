-- A sheet of the pickup's tones, by computation: it is accepted, a tone in a row reads as that row, and with beacon 11's true tones it is refused. Assumes
-- nothing.
use mathlib.Core.Path.{◌≡◌, refl}
use mathlib.Core.Bool.{true}
use mathlib.Core.List.{List, [], ◌∷◌, ◌++◌}
use Prim.Native.Nat.{ℕ, ◌/◌, ◌%◌}
use lib.IntN.{pos}
use lib.Ieee.{fin, of_bits, of_int, le, mul, sub}
use Rattle.leaf.specs.Bytes.{byte, word, long}
use Rattle.leaf.specs.Checks.{or_fault}
use Rattle.leaf.specs.Answers.{given, refused_at}
use Rattle.tone.specs.declared.Reading.TheVariants.{Beacon, Permanent}
use Rattle.tone.specs.Tones.{khz, row_ok, shares_earlier, good_at, fault_of, rows_of, sheet_of, read_sheet, read_from, classify_of}

-- a row's bytes, of its three bit patterns
abbrev four : ℕ → List ℕ
four n = n / 16777216 ∷ n / 65536 % 256 ∷ n / 256 % 256 ∷ n % 256 ∷ []

abbrev row : ℕ → ℕ → ℕ → List ℕ
row low centre high = four low ++ four centre ++ four high

-- length, version, the permanent tone's row and beacons 1 to 10
abbrev front : List ℕ
front =
    (0 ∷ 147 ∷ 1 ∷ []) ++ row 0x42580000 0x425c0000 0x42600000 ++ row 0x426d0000 0x42700000 0x42730a3d ++ row 0x427ce148 0x42800a3d 0x4281a3d7
    ++ row 0x4286e979 0x42889eb8 0x428a53f8 ++ row 0x428ff3b6 0x4291c625 0x42938189 ++ row 0x42999893 0x429b8a3d 0x429d7be7
    ++ row 0x42a3e2d1 0x42a5f5c3 0x42a808b4 ++ row 0x42aef0a4 0x42b1147b 0x42b4fdf4 ++ row 0x42bcb127 0x42bf0000 0x42c33852
    ++ row 0x42cc7958 0x42ce0396 0x42d290e5 ++ row 0x42ecc831 0x42efad91 0x42f4f958

-- with 126.5, 127 and 127.5 for beacon 11, and with its true 127.698, 129.26 and 132.116
abbrev sheet : List ℕ
sheet = front ++ row 0x42fd0000 0x42fe0000 0x42ff0000

abbrev true_sheet : List ℕ
true_sheet = front ++ row 0x42ff6560 0x4301428f 0x43041db2

-- 54 kHz, the permanent tone's low end: -1 from its centre
low_end : classify_of sheet (khz 54) ≡ given (Permanent (fin true 1 (pos 0)))
unfolding classify_of read_sheet sheet_of fault_of rows_of row_ok good_at shares_earlier read_from or_fault byte word long of_bits of_int le mul sub
low_end = refl

-- 60 kHz, beacon 1's centre: +0
centre : classify_of sheet (khz 60) ≡ given (Beacon 1 (khz 0))
unfolding classify_of read_sheet sheet_of fault_of rows_of row_ok good_at shares_earlier read_from or_fault byte word long of_bits of_int le mul sub
centre = refl

-- beacon 11's row is bad: its centre and high end lie above 128
above : classify_of true_sheet (khz 60) ≡ refused_at 12 135
unfolding classify_of read_sheet sheet_of fault_of rows_of row_ok good_at shares_earlier read_from or_fault byte word long of_bits of_int le mul sub
above = refl
