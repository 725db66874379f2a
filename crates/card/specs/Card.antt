-- Document 01, "The card", and 02 g: what stands where, the functions, and which bytes speak.
use Rattle.std.specs.Prelude.{ℕ, ◌+◌, ◌≤◌, ◌<◌, ◌≡◌, List, [], ◌∷◌, Bool, ◌&&◌, ◌||◌, not, ltb, eqb, get_or}
use Rattle.leaf.specs.Choosing.{pick}
use Rattle.leaf.specs.Numbers.{within, bit_of}
use Rattle.leaf.specs.Bytes.{byte}
use Rattle.card.specs.declared.Kind.{Kind}
use Rattle.card.specs.declared.Row.{Row}
use Rattle.card.specs.declared.Pairs.{Pairs}
use Rattle.card.specs.declared.Functions.{Functions}

-- ---- the record

-- This card's kind. "Bytes 0–1 length of the whole record, 2 version, 3 vmax 80..200 km/h": the settings begin at byte 3, and the
-- place of each is so many bytes behind the first
abbrev pub base_kind : Kind
base_kind = record { first = 3; vmax_lowest = 80; vmax_highest = 200 }

-- "The version 1 length, 39, and the version 2 length, 44, belong to the card's kind."; 02 g: "Card version 3 is version 2 with bytes
-- 44–47 .. and byte 48 ..; length 49"
abbrev pub length_of : ℕ → ℕ
length_of version = pick (eqb version 1) 39 (pick (eqb version 2) 44 49)

-- the versions there are; 02 g: "2 and 6 now allow 3"
abbrev pub known : ℕ → Bool
known version = within 1 3 version

-- "eight rows of four: initial, final, delay, drop": the row that begins at a place
unfoldable pub row_at : List ℕ → ℕ → Row
row_at area at = record { initial = byte area at; last = byte area (at + 1); delay = byte area (at + 2); drop = byte area (at + 3) }

-- ---- the pairs

-- 02 g: "bytes 44–47, the speeds for pairs 10-10, 10-11, 11-10, 11-11": the speeds in their order
abbrev pub speeds_of : Pairs → List ℕ
speeds_of pairs = pairs.ten_ten ∷ pairs.ten_eleven ∷ pairs.eleven_ten ∷ pairs.eleven_eleven ∷ []

-- a speed by the number of its pair, 0 to 3
abbrev pub speed_of : Pairs → ℕ → ℕ
speed_of pairs pair = get_or (speeds_of pairs) pair pairs.eleven_eleven

-- what a card of version 1 or 2 has: "Those cards read bytes 44 to 48 as 0"
abbrev pub no_pairs : Pairs
no_pairs = record { ten_ten = 0; ten_eleven = 0; eleven_ten = 0; eleven_eleven = 0; distance = 0 }

-- the pairs whose bytes begin at a place: the speeds, "and byte 48, the pair distance"
unfoldable pub pairs_at : List ℕ → ℕ → Pairs
pairs_at area at =
    record {
      ten_ten = byte area at;
      ten_eleven = byte area (at + 1);
      eleven_ten = byte area (at + 2);
      eleven_eleven = byte area (at + 3);
      distance = byte area (at + 4);
    }

-- ---- the functions

-- "Functions, all missing before 2015 (001): bit 0 protected crossing, 1 stop zone, 2 reminder, 3 BTS reads beacons 4, 9, 10, 11."
abbrev pub protects : ℕ → Bool
protects functions = bit_of functions 1

abbrev pub zones : ℕ → Bool
zones functions = bit_of functions 2

abbrev pub reminds : ℕ → Bool
reminds functions = bit_of functions 4

abbrev pub reads_in_bts_bit : ℕ → Bool
reads_in_bts_bit functions = bit_of functions 8

-- the functions that a functions byte turns on
abbrev pub functions_of : ℕ → Functions
functions_of functions =
    record { protects = protects functions; zones = zones functions; reminds = reminds functions; reads_in_bts = reads_in_bts_bit functions }

-- ---- speaking bytes

-- "Speaking bytes: the record, less 40–43 when bit 2 is off."; of a version 3 record "44–48 always speak" (g1)
unfoldable pub speaks : ℕ → ℕ → ℕ → Bool
speaks version functions at = ltb at (length_of version) && (reminds functions || not (within 40 43 at))

-- two areas have the same bytes from one place to below another
abbrev pub Same : List ℕ → List ℕ → ℕ → ℕ → Type 0
Same a b lo hi = (i : ℕ) → lo ≤ i → i < hi → byte a i ≡ byte b i
