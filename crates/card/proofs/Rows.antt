-- The rows of a card: one rule, applied to eight rows.
use Prim.Native.Nat.{ℕ, zero, suc, ◌+◌, ◌*◌, ◌≤◌, ◌<◌}
use native.Mathlib.Omega.{arith}
use native.Mathlib.Nat.{add-zero}
use mathlib.Core.Path.{◌≡◌, refl}
use mathlib.Core.List.{List, [], ◌∷◌, ◌++◌}
use mathlib.Core.Logic.{◌↔◌}
use lib.ListN.{length, take, drop, get_or}
use Rattle.leaf.specs.Bytes.{byte}
use Rattle.leaf.specs.Checks.{Check, Fine}
use Rattle.card.specs.Card.{base_kind, row_at}
use Rattle.card.specs.Ranges.{place_of, row_checks, rows_of, row_of, rows_checks, tail_checks, pairs_checks, checks_of}
use Rattle.card.specs.Reading.{settings_of}
use Rattle.card.specs.Plain.{Within, SettingMet}
use Rattle.card.specs.declared.Kind.{Kind}
use Rattle.card.specs.declared.Row.{Row}
use Rattle.card.specs.declared.Settings.{Settings}
use Rattle.card.proofs.Area.{row_at_lem}
use Rattle.card.proofs.Listed.{all_map, of_rows, by_row, test_met, met_test}

-- ---- "one rule stands once and is applied to eight rows" (02 e)

-- there are eight rows; of each three checks, between three others and three with those of the pairs
pub eight_rows : (v : ℕ) (s : Settings) → (length (rows_of s) ≡ 8) × (length (checks_of v s) ≡ 3 + 3 * 8 + 3 + 5)
eight_rows v s = (refl, refl)

-- the three checks of the i-th of rows one behind the other are the one rule of that row
row_part : (kind : Kind) (offset : ℕ) (rows : List Row) (none : Row) (rest : List Check) (i : ℕ) → i < length rows
    → take 3 (drop (3 * i) (rows_checks kind offset rows ++ rest)) ≡ row_checks kind (offset + 4 * i) (get_or rows i none)
row_part kind offset [] none rest i here = absurd (omega arith)
row_part kind offset (row ∷ rows) none rest zero here = rw add-zero
row_part kind offset (row ∷ rows) none rest (suc i) here =
    let three : 3 * suc i ≡ suc (suc (suc (3 * i))) = omega arith in
    let four : offset + 4 * suc i ≡ offset + 4 + 4 * i = omega arith in
    rw (three, four) (row_part kind (offset + 4) rows none rest i (omega arith))

-- the checks of row i, of all that the check of settings goes by, are the one rule of the i-th row
pub row_rule : (v : ℕ) (s : Settings) (i : ℕ) → i < 8 → take 3 (drop (3 + 3 * i) (checks_of v s)) ≡ row_checks base_kind (4 + 4 * i) (row_of s i)
row_rule v s i here =
    let three : 3 + 3 * i ≡ suc (suc (suc (3 * i))) = omega arith in
    rw three (row_part base_kind 4 (rows_of s) s.start (tail_checks base_kind v s ++ pairs_checks base_kind v s.pairs) i here)

-- at place 7 + 4i; its final's is one more and its drop's three more
pub row_places : (i : ℕ) → i < 8
    → (place_of base_kind (4 + 4 * i) ≡ 7 + 4 * i) × (place_of base_kind (4 + 4 * i + 1) ≡ 7 + 4 * i + 1) × (place_of base_kind (4 + 4 * i + 3) ≡ 7 + 4 * i + 3)
row_places i here = (omega arith, omega arith, omega arith)

-- and the i-th row of a card is the one whose bytes begin there: rows in another order have other bytes
pub row_bytes : (area : List ℕ) (i : ℕ) → i < 8 → row_of (settings_of area) i ≡ row_at area (7 + 4 * i)
row_bytes area i here = let e : 7 + 4 * i ≡ 3 + (4 + 4 * i) = omega arith in rw e (row_at_lem base_kind (byte area 2) area i here)

-- all row checks hold exactly when every row is as the rule says, in plain facts
pub rows_met : (kind : Kind) (s : Settings)
    → Fine (rows_checks kind 4 (rows_of s)) ↔ ((i : ℕ) → i < 8 → Within 1 200 (row_of s i).initial × Within 1 (row_of s i).initial (row_of s i).last × (1 ≤ (row_of s i).drop))
rows_met kind s =
    let both = by_row (SettingMet kind 2 s) 0 (rows_of s) [] in (
      λ f i here. (both.0 (all_map (test_met kind 2 s) (of_rows 0 (rows_of s) []) f)).0 i (omega arith) here,
      λ m. all_map (met_test kind 2 s) (of_rows 0 (rows_of s) []) (both.1 (λ i low here. m i here, tt)),
    )
