-- Bytes behind a sheet's 147 are not looked at: two areas that agree on their first 147 bytes read as the same sheet, or are refused alike, and classify
-- every tone alike. Assumes nothing.
use mathlib.Core.Path.{◌≡◌, refl, sym, ap, ◌∙◌}
use mathlib.Core.Bool.{Bool, true, false, not}
use mathlib.Core.List.{List}
use Prim.Native.Nat.{ℕ, zero, suc, ◌+◌, ◌≤◌, ◌<◌}
use native.Mathlib.Nat.{le_of_lt}
use native.Mathlib.Omega.{arith}
use lib.Dec.{T, leb, leb→le, nleb→lt}
use lib.ListN.{length, take}
use lib.Seq.{get_or-take, take_all, length-take-le}
use lib.Ieee.{Float}
use borrow.Author.Tests.{le-leb}
use Rattle.leaf.specs.Bytes.{byte, word, long}
use Rattle.leaf.specs.Answers.{Answer}
use Rattle.tone.specs.declared.Sheet.{Sheet}
use Rattle.tone.specs.Tones.{place_of, rows_of, sheet_of, read_sheet, read_under, classify_of}

-- ---- an area of 147 bytes or more, and its first 147

module _ (area : List ℕ) (h : 147 ≤ length area) where
  abbrev front : List ℕ
  front = take 147 area

  byte-front : (i : ℕ) → i < 147 → byte front i ≡ byte area i
  unfolding byte
  byte-front i l = get_or-take 147 area i 0 l

  word-front : word front 0 ≡ word area 0
  unfolding word
  word-front = rw (byte-front 0 (omega arith), byte-front (0 + 1) (omega arith))

  long-front : (at : ℕ) → at + 3 < 147 → long front at ≡ long area at
  unfolding long
  long-front at l = rw (byte-front at (omega arith), byte-front (at + 1) (omega arith), byte-front (at + 2) (omega arith), byte-front (at + 3) l)

  rows_front : (n : ℕ) → n ≤ 12 → rows_of front n ≡ rows_of area n
  unfolding rows_of
  rows_front zero l = refl
  rows_front (suc n) l =
      rw (rows_front n (omega arith), long-front (place_of n) (omega arith), long-front (place_of n + 4) (omega arith), long-front (place_of n + 8) (omega arith))

  read_front : read_sheet front ≡ read_sheet area
  unfolding read_sheet sheet_of
  read_front =
      let l : 147 ≤ length front = omega (arith, length-take-le 147 area h) in
      rw (le-leb 147 (length front) l, le-leb 147 (length area) h, word-front, byte-front 2 (omega arith), rows_front 12 (omega arith))

-- ---- the theorems

-- an area reads as its first 147 bytes do
pub front_decides : (area : List ℕ) → read_sheet (take 147 area) ≡ read_sheet area
front_decides area = go (leb 147 (length area)) (leb→le 147 (length area)) (nleb→lt 147 (length area))
  where
    go : (b : Bool) → (T b → 147 ≤ length area) → (T (not b) → length area < 147) → read_sheet (take 147 area) ≡ read_sheet area
    go true h k = read_front area (h tt)
    go false h k = ap read_sheet (take_all 147 area (le_of_lt (k tt)))

-- so two areas that agree on their first 147 bytes read as the same sheet, or are refused alike,
pub old_sheet : (a b : List ℕ) → take 147 a ≡ take 147 b → read_sheet a ≡ read_sheet b
old_sheet a b e = sym (front_decides a) ∙ ap read_sheet e ∙ front_decides b

-- and classify every tone alike
pub old_bytes : (a b : List ℕ) → take 147 a ≡ take 147 b → (tone : Float) → classify_of a tone ≡ classify_of b tone
unfolding classify_of
old_bytes a b e tone = ap (λ (x : Answer Sheet). read_under x tone) (old_sheet a b e)
