-- Document 01's sentences on the sheet once more, as plain facts of bytes and floats: no test, no order of looking. The theorems of proofs/ show that the
-- definitions of Tones.antt come to these on every area.
use Rattle.std.specs.Prelude.{◌≡◌, List, ℕ, ◌<◌, ◌≤◌, length, T, Float}
use Rattle.std.specs.Float.{binary32}
use Rattle.std.specs.Float.Ieee.{le, mul}
use Rattle.std.specs.Float.Ieee.Scale.{finite}
use Rattle.leaf.specs.Bytes.{byte, word}
use Rattle.tone.specs.declared.ToneRow.{ToneRow}
use Rattle.tone.specs.Tones.{place_of, row_at, khz}

-- "32 ≤ low ≤ centre ≤ high ≤ 128, high ≤ 2 × low"
pub record Order (r : ToneRow) : Type 0 where
  pub bottom : T (le (khz 32) r.low)
  pub left : T (le r.low r.centre)
  pub right : T (le r.centre r.high)
  pub ceiling : T (le r.high (khz 128))
  pub octave : T (le r.high (mul binary32 (khz 2) r.low))

-- "A row needs finite numbers", and these in their order
pub record Good (r : ToneRow) : Type 0 where
  pub low_finite : T (finite r.low)
  pub centre_finite : T (finite r.centre)
  pub high_finite : T (finite r.high)
  pub order : Order r

-- "Ends belong to the row"
abbrev pub LiesIn : Float → ToneRow → Type 0
LiesIn tone r = T (le r.low tone) × T (le tone r.high)

-- row k of an area
abbrev pub row_in : List ℕ → ℕ → ToneRow
row_in area k = row_at area (place_of k)

-- row k has what a row needs: "and no tone shared with an earlier row (ends included)"
pub record Met (area : List ℕ) (k : ℕ) : Type 0 where
  pub good : Good (row_in area k)
  pub apart : (j : ℕ) → j < k → (tone : Float) → LiesIn tone (row_in area j) → LiesIn tone (row_in area k) → ⊥

-- every row before row k has it
abbrev pub MetBefore : List ℕ → ℕ → Type 0
MetBefore area k = (j : ℕ) → j < k → Met area j

-- "Sheet, 147 bytes: length, version 1, then twelve rows": a sheet without a fault
pub record Accepted (area : List ℕ) : Type 0 where
  pub field : word area 0 ≡ 147
  pub whole : 147 ≤ length area
  pub version : byte area 2 ≡ 1
  pub rows : MetBefore area 12

-- "Place 0 for length or an area under 147, 2 for version, else the first bad row's first byte; in that order": the area's first fault is at a place
pub data FirstFault (area : List ℕ) : ℕ → Type 0 where
  length_fault : (word area 0 ≡ 147 → 147 ≤ length area → ⊥) → FirstFault area 0
  version_fault : word area 0 ≡ 147 → 147 ≤ length area → (byte area 2 ≡ 1 → ⊥) → FirstFault area 2
  row_fault : (k : ℕ) → k < 12 → word area 0 ≡ 147 → 147 ≤ length area → byte area 2 ≡ 1 → MetBefore area k → (Met area k → ⊥) → FirstFault area (place_of k)
