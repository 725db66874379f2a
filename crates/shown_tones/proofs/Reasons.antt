-- The reason that is said of a bad row is true. By its definition `reason_of` is the first thing that a row lacks by itself; where it lacks none, the
-- row that is named is an earlier one, and some tone lies in both. Assumes nothing.
use mathlib.Core.Path.{◌≡◌, refl}
use mathlib.Core.Logic.{inl, inr}
use mathlib.Core.Bool.{Bool, true, false, not, ◌&&◌}
use mathlib.Core.List.{List, [], ◌∷◌}
use Prim.Native.Nat.{ℕ, zero, suc, ◌<◌}
use native.Mathlib.Nat.{eq-or-lt_of_le, le_of_suc-le-suc, not-suc-le-zero}
use native.Mathlib.Omega.{arith}
use lib.Dec.{T, eqb, eqb-suc-zero, T_not}
use lib.Ieee.{Float}
use lib.Ieee.Fits.{and_i}
use Rattle.leaf.specs.Choosing.{pick}
use Rattle.leaf.specs.Checks.{or_fault, none_bad}
use Rattle.leaf.specs.Answers.{refused_at}
use Rattle.tone.specs.declared.ToneRow.{ToneRow}
use Rattle.tone.specs.Tones.{place_of, all_finite, in_order, row_ok, share, read_sheet}
use Rattle.tone.specs.Facts.{row_in, Good, LiesIn, Met, MetBefore, FirstFault, length_fault, version_fault, row_fault}
use Rattle.tone.proofs.Apart.{good, shared_tone, tone_shared}
use Rattle.tone.proofs.FirstFault.{refused_first}
use Rattle.shown_tones.specs.Shown.{is_ordered, ends_by128, ends_by_twice_low, reason_of, shared_by}

-- the row that is named beside row k
pub record Named (area : List ℕ) (k : ℕ) : Type 0 where
  pub row : ℕ
  pub is_named : shared_by area k k ≡ suc row
  pub earlier : row < k
  pub tone : Float
  pub in_it : LiesIn tone (row_in area row)
  pub in_both : LiesIn tone (row_in area k)

holds : (b : Bool) → b ≡ true → T b
holds b e = rw e tt

-- a row that lacks nothing by itself is good
lacks_none : (r : ToneRow) → reason_of r ≡ 0 → Good r
unfolding reason_of row_ok
lacks_none r e =
    let checks = (none_bad 0 ((1, all_finite r) ∷ (2, is_ordered r) ∷ (3, ends_by128 r) ∷ (4, ends_by_twice_low r) ∷ []) tt e).1 in
    let below = and_i (is_ordered r) (ends_by128 r) (holds (is_ordered r) checks.1.0) (holds (ends_by128 r) checks.1.1.0) in
    let order = and_i (is_ordered r && ends_by128 r) (ends_by_twice_low r) below (holds (ends_by_twice_low r) checks.1.1.1.0) in
    good r (and_i (all_finite r) (in_order r) (holds (all_finite r) checks.0) order)

-- no row stands at the places of length and version
not_first : (k : ℕ) → ◌≡◌ {A = ℕ} 0 (place_of k) → ⊥
not_first k e = omega arith

not_third : (k : ℕ) → ◌≡◌ {A = ℕ} 2 (place_of k) → ⊥
not_third k e = omega arith

no_suc : (i : ℕ) → ◌≡◌ {A = ℕ} 0 (suc i) → ⊥
no_suc i e = omega arith

module _ (area : List ℕ) (k : ℕ) where
  -- the row that is named among the first n is one of them, and shares as tested
  shares_named : (n i : ℕ) → shared_by area k n ≡ suc i → (i < n) × T (share (row_in area i) (row_in area k))
  unfolding shared_by or_fault
  shares_named zero i e = absurd (no_suc i e)
  shares_named (suc n) i e = go (eqb (shared_by area k n) 0) (share (row_in area n) (row_in area k)) refl e (shares_named n i)
    where
      go : (none s : Bool) → share (row_in area n) (row_in area k) ≡ s → pick none (pick (not s) 0 (suc n)) (shared_by area k n) ≡ suc i
          → (shared_by area k n ≡ suc i → (i < n) × T (share (row_in area i) (row_in area k))) → (i < suc n) × T (share (row_in area i) (row_in area k))
      go true true t h among =
          let same : i ≡ n = omega arith in
          (omega arith, rw (same, t) tt)
      go true false t h among = absurd (no_suc i h)
      go false s t h among =
          let f = among h in
          (omega (arith, f.0), f.1)

  -- where none is named, none of the first n shares
  none_shares : (n : ℕ) → shared_by area k n ≡ 0 → (j : ℕ) → j < n → T (not (share (row_in area j) (row_in area k)))
  unfolding shared_by
  none_shares zero e j l = absurd (not-suc-le-zero l)
  none_shares (suc n) e j l =
      let apart = not (share (row_in area n) (row_in area k)) in
      let both = none_bad (shared_by area k n) ((suc n, apart) ∷ []) (rw eqb-suc-zero tt) e in
      elim (eq-or-lt_of_le (le_of_suc-le-suc l)) [
        | inl q ↦ rw q (holds apart both.1.0)
        | inr m ↦ none_shares n both.0 j m
      ]

  module _ (before : MetBefore area k) (g : Good (row_in area k)) where
    met : shared_by area k k ≡ 0 → Met area k
    met e = record {
      good = g;
      apart = λ (j : ℕ) l tone a b. T_not (share (row_in area j) (row_in area k)) (none_shares k e j l) (tone_shared (row_in area j) (row_in area k) (before j l).good g tone a b);
    }

    named : (Met area k → ⊥) → Named area k
    named bad = go (shared_by area k k) refl
      where
        go : (n : ℕ) → shared_by area k k ≡ n → Named area k
        go zero e = absurd (bad (met e))
        go (suc i) e =
            let f = shares_named k i e in
            let t = shared_tone (row_in area i) (row_in area k) (before i f.0).good g f.1 in
            record { row = i; is_named = e; earlier = f.0; tone = t.0; in_it = t.1.0; in_both = t.1.1 }

-- a sheet is refused at a row that lacks nothing by itself only where that row shares a tone with the row that is named
pub shares_said : (area : List ℕ) (n k : ℕ) → read_sheet area ≡ refused_at n (place_of k) → reason_of (row_in area k) ≡ 0 → Named area k
shares_said area n k e none = go (place_of k) (refused_first area n (place_of k) e).1 refl
  where
    go : (place : ℕ) → FirstFault area place → place ≡ place_of k → Named area k
    go place (length_fault f) q = absurd (not_first k q)
    go place (version_fault f w v) q = absurd (not_third k q)
    go place (row_fault i h f w v before bad) q =
        let same : i ≡ k = omega arith in
        named area k (rw same at before) (lacks_none (row_in area k) none) (rw same at bad)
