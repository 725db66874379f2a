-- Versions and their lengths; and each setting of an area is in range exactly when its byte or bytes are.
use Prim.Native.Nat.{ℕ, zero, suc, ◌+◌, ◌*◌, ◌/◌, ◌%◌, ◌≤◌, ◌<◌}
use native.Mathlib.Omega.{arith}
use native.Mathlib.Nat.{add_assoc, add-zero}
use mathlib.Core.Path.{◌≡◌, refl}
use mathlib.Core.Bool.{Bool, true, false}
use mathlib.Core.List.{List, [], ◌∷◌}
use mathlib.Core.Logic.{◌⊎◌, ⊎_elim, inl, inr}
use lib.Dec.{eqb, lit≤}
use lib.ListN.{length, get_or}
use borrow.Author.Tests.{eqb-true, eqb-false, eq-eqb, ne_eqb}
use Rattle.leaf.specs.Choosing.{pick}
use Rattle.leaf.specs.Bytes.{byte, word}
use Rattle.card.specs.Card.{length_of, row_at, speed_of, no_pairs, pairs_at, reminds}
use Rattle.card.specs.Ranges.{row_of}
use Rattle.card.specs.Reading.{kept, functions_from, pairs_from, settings_from}
use Rattle.card.specs.Plain.{Within, vmax_setting, tick_setting, bts_setting, initial_setting, last_setting, drop_setting, functions_setting, x_setting, y_setting, pair_speed_setting, pair_distance_setting, place, RangesMet, BytesMet, Known, LengthOf, HeaderMet}
use Rattle.card.specs.declared.Kind.{Kind}
use Rattle.card.specs.declared.Row.{Row}

-- ---- versions and their lengths

-- 1, or one that has functions
pub one_or_later : {v : ℕ} → Known v → (v ≡ 1) ⊎ (2 ≤ v)
one_or_later {v} known = cases (eqb v 1) refl
  where
    cases : (t : Bool) → eqb v 1 ≡ t → (v ≡ 1) ⊎ (2 ≤ v)
    cases true e = inl (eqb-true v 1 e)
    cases false e = let n = eqb-false v 1 e in inr (omega (arith, known.0))

pub version_cases : {v : ℕ} → Known v → (v ≡ 1) ⊎ (v ≡ 2) ⊎ (v ≡ 3)
version_cases {v} known = ⊎_elim inl (λ later. inr (cases later (eqb v 2) refl)) (one_or_later known)
  where
    cases : 2 ≤ v → (t : Bool) → eqb v 2 ≡ t → (v ≡ 2) ⊎ (v ≡ 3)
    cases later true e = inl (eqb-true v 2 e)
    cases later false e = let n = eqb-false v 2 e in inr (omega (arith, known.1))

-- a version's length is the definition's
pub length_is : (v : ℕ) → LengthOf v (length_of v)
length_is v = (λ one. rw one, λ two. rw two, λ three. rw three)

pub length_only : {v n : ℕ} → Known v → LengthOf v n → n ≡ length_of v
length_only known l =
    ⊎_elim (λ one. rw one (l.0 one)) (⊎_elim (λ two. rw two (l.1 two)) (λ three. rw three (l.2 three))) (version_cases known)

pub length_later : (v : ℕ) → eqb v 1 ≡ false → 44 ≤ length_of v
length_later v later = rw later (cases (eqb v 2))
  where
    cases : (t : Bool) → 44 ≤ pick t 44 49
    cases true = lit≤ tt
    cases false = lit≤ tt

pub length_low : (v : ℕ) → 39 ≤ length_of v
length_low v = cases (eqb v 1) refl
  where
    cases : (t : Bool) → eqb v 1 ≡ t → 39 ≤ length_of v
    cases true e = rw e (lit≤ tt)
    cases false e = omega (arith, length_later v e)

module _ (area : List ℕ) (h : ℕ) where
  pub card_version : HeaderMet area h → Known (byte area 2)
  card_version m = (m.version.0, omega (arith, m.version.1, m.known.1))

  -- the whole record is there
  pub record_there : HeaderMet area h → length_of (byte area 2) ≤ length area
  record_there m = omega (arith, length_only (card_version m) m.stated, m.whole)

-- ---- the settings of an area, on a card of any kind

-- X, or Y, is looked at where bit 2 is on, and else 0
kept_met : (f lo hi x : ℕ) → (f / 4 % 2 ≡ 1 → Within lo hi x)
    → (f / 4 % 2 ≡ 1 → Within lo hi (kept (reminds f) x)) × (f / 4 % 2 ≡ 0 → kept (reminds f) x ≡ 0)
kept_met f lo hi x m = (λ on. rw (eq-eqb _ _ on) (m on), λ off. rw (ne_eqb (f / 4 % 2) 1 (λ on. omega arith)))

module _ (kind : Kind) (v : ℕ) (area : List ℕ) where
  functions_1 : v ≡ 1 → functions_from kind v area ≡ 0
  unfolding functions_from
  functions_1 e = rw e

  functions_2 : 2 ≤ v → functions_from kind v area ≡ byte area (place kind functions_setting)
  unfolding functions_from
  functions_2 later = rw (ne_eqb v 1 (λ one. omega arith))

  -- the pairs of a version 3 area are its bytes, each where it stands; of any other they are 0
  pub speed_3 : v ≡ 3 → (pair : ℕ) → pair < 4 → speed_of (pairs_from kind v area) pair ≡ byte area (place kind (pair_speed_setting pair))
  unfolding pairs_from pairs_at
  speed_3 e zero of = rw e
  speed_3 e (suc zero) of = rw (e, add_assoc)
  speed_3 e (suc (suc zero)) of = rw (e, add_assoc)
  speed_3 e (suc (suc (suc zero))) of = rw (e, add_assoc)
  speed_3 e (suc (suc (suc (suc pair)))) of = absurd (omega arith)

  pub distance_3 : v ≡ 3 → (pairs_from kind v area).distance ≡ byte area (place kind pair_distance_setting)
  unfolding pairs_from pairs_at
  distance_3 e = rw (e, add_assoc)

  pub pairs_none : (v ≡ 3 → ⊥) → pairs_from kind v area ≡ no_pairs
  unfolding pairs_from
  pairs_none other = rw (ne_eqb v 3 other)

  pub speed_none : (v ≡ 3 → ⊥) → (pair : ℕ) → pair < 4 → speed_of (pairs_from kind v area) pair ≡ 0
  speed_none other zero of = rw (pairs_none other)
  speed_none other (suc zero) of = rw (pairs_none other)
  speed_none other (suc (suc zero)) of = rw (pairs_none other)
  speed_none other (suc (suc (suc zero))) of = rw (pairs_none other)
  speed_none other (suc (suc (suc (suc pair)))) of = absurd (omega arith)

  -- rows of the area one behind the other, the first so many bytes behind the first setting
  abbrev rows_at : ℕ → ℕ → List Row
  rows_at offset zero = []
  rows_at offset (suc n) = row_at area (kind.first + offset) ∷ rows_at (offset + 4) n

  -- the i-th of them begins 4i bytes further
  nth : (offset n i : ℕ) (none : Row) → i < n → get_or (rows_at offset n) i none ≡ row_at area (kind.first + (offset + 4 * i))
  nth offset zero i none here = absurd (omega arith)
  nth offset (suc n) zero none here = rw add-zero
  nth offset (suc n) (suc i) none here = let e : offset + 4 * suc i ≡ offset + 4 + 4 * i = omega arith in rw e (nth (offset + 4) n i none (omega arith))

  -- a row of them is the one that begins at its place
  pub row_at_lem : (row : ℕ) → row < 8 → row_of (settings_from kind v area) row ≡ row_at area (place kind (initial_setting row))
  unfolding settings_from
  row_at_lem row of = nth 4 8 row (settings_from kind v area).start of

  reminder : Known v → BytesMet kind v area → functions_from kind v area / 4 % 2 ≡ 1
      → Within 2 6000 (word area (place kind x_setting)) × Within 1 5000 (word area (place kind y_setting))
  reminder known m on =
      ⊎_elim (λ one. absurd (omega (arith, functions_1 one))) (λ later. m.reminder later (rw (functions_2 later) at on)) (one_or_later known)

  -- the settings are in range where the bytes are
  pub settings_met : Known v → BytesMet kind v area → RangesMet kind v (settings_from kind v area)
  unfolding settings_from row_at
  settings_met known m vmax_setting of = m.vmax
  settings_met known m tick_setting of = m.tick
  settings_met known m bts_setting of = m.bts
  settings_met known m (initial_setting row) of = rw (row_at_lem row of) (m.initial row of)
  settings_met known m (last_setting row) of = rw (row_at_lem row of, add_assoc) (m.last row of)
  settings_met known m (drop_setting row) of = rw (row_at_lem row of, add_assoc) (m.drop row of)
  settings_met known m functions_setting of =
      (functions_1, ⊎_elim (λ one. rw (functions_1 one) (lit≤ tt)) (λ later. rw (functions_2 later) (m.functions later)) (one_or_later known))
  settings_met known m x_setting of =
      kept_met (functions_from kind v area) 2 6000 (word area (place kind x_setting)) (λ on. (reminder known m on).0)
  settings_met known m y_setting of =
      kept_met (functions_from kind v area) 1 5000 (word area (place kind y_setting)) (λ on. (reminder known m on).1)
  settings_met known m (pair_speed_setting pair) of = (λ three. rw (speed_3 three pair of) (m.speeds three pair of), λ other. speed_none other pair of)
  settings_met known m pair_distance_setting of = (λ three. rw (distance_3 three) (m.distance three), λ other. rw (pairs_none other))

  -- and the bytes are where the settings are
  pub bytes_met : RangesMet kind v (settings_from kind v area) → BytesMet kind v area
  unfolding settings_from row_at
  bytes_met m =
      record {
        vmax = m vmax_setting tt;
        tick = m tick_setting tt;
        bts = m bts_setting tt;
        initial = λ row of. rw (row_at_lem row of) at (m (initial_setting row) of);
        last = λ row of. rw (row_at_lem row of, add_assoc) at (m (last_setting row) of);
        drop = λ row of. rw (row_at_lem row of, add_assoc) at (m (drop_setting row) of);
        functions = λ later. rw (functions_2 later) at (m functions_setting tt).1;
        reminder = λ later on.
            let f = functions_2 later in
            let there = rw (← f) at on in
            (rw (f, eq-eqb _ _ on) at ((m x_setting tt).0 there), rw (f, eq-eqb _ _ on) at ((m y_setting tt).0 there));
        speeds = λ three pair of. rw (speed_3 three pair of) at ((m (pair_speed_setting pair) of).0 three);
        distance = λ three. rw (distance_3 three) at ((m pair_distance_setting tt).0 three);
      }
