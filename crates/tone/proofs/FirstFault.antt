-- A sheet is accepted exactly where it has no fault, and else refused with 12 at the place of its first fault, by the reader and by the classifier.
-- Assumes nothing.
use mathlib.Core.Path.{◌≡◌, refl, ap, ◌∙◌}
use mathlib.Core.Logic.{◌⊎◌, inl, inr}
use mathlib.Core.Bool.{Bool, true, false, not, ◌&&◌, ◌||◌}
use mathlib.Core.List.{List, [], ◌∷◌}
use Prim.Native.Nat.{ℕ, zero, suc, ◌+◌, ◌≤◌, ◌<◌}
use native.Mathlib.Nat.{eq-or-lt_of_le, le_of_suc-le-suc, not-suc-le-zero}
use native.Mathlib.Omega.{arith}
use lib.Dec.{T, leb, eqb, leb→le, nleb→lt, le→leb, eqb→eq, T_not, not_T}
use lib.ListN.{length, length-append, get_or-append}
use lib.Seq.{get_or_at}
use lib.Ieee.{Float}
use lib.Ieee.Fits.{and_i, and_l, and_r, eq→eqb}
use borrow.Author.Tests.{ne_eqb, eqb-true, eqb-false}
use Rattle.leaf.specs.Choosing.{pick}
use Rattle.leaf.specs.Bytes.{byte, word}
use Rattle.leaf.specs.Checks.{or_fault}
use Rattle.leaf.specs.Answers.{Answer, given, refused, refused_at}
use Rattle.tone.specs.declared.ToneRow.{ToneRow}
use Rattle.tone.specs.declared.Sheet.{Sheet}
use Rattle.tone.specs.declared.Reading.{Reading}
use Rattle.tone.specs.Tones.{place_of, rows_of, sheet_of, no_row, row_of, row_ok, share, shares_earlier, good_at, fault_of, whole_sheet, read_sheet, read_from, read_under, classify_of}
use Rattle.tone.specs.Facts.{row_in, Met, MetBefore, Accepted, FirstFault, length_fault, version_fault, row_fault}
use Rattle.tone.proofs.Laws.{fault_none, fault_suc, read_length, read_place, read_sound}
use Rattle.tone.proofs.Apart.{good, ok, shared_tone, tone_shared}

-- ---- the rows of an area, by their numbers

pub rows_length : (area : List ℕ) (n : ℕ) → length (rows_of area n) ≡ n
unfolding rows_of
rows_length area zero = refl
rows_length area (suc n) = length-append (rows_of area n) (row_in area n ∷ []) ∙ ap (λ (k : ℕ). k + 1) (rows_length area n) ∙ plus_one n
  where
    plus_one : (k : ℕ) → k + 1 ≡ suc k
    plus_one k = omega arith

pub row_is : (area : List ℕ) (n k : ℕ) → k < n → row_of (rows_of area n) k ≡ row_in area k
unfolding rows_of
row_is area zero k h = absurd (not-suc-le-zero h)
row_is area (suc n) k h =
    elim (eq-or-lt_of_le (le_of_suc-le-suc h)) [
      | inl e ↦ rw e (get_or_at (rows_of area n) (row_in area n) [] no_row n (rows_length area n))
      | inr l ↦ get_or-append (rows_of area n) (row_in area n ∷ []) no_row k (rw (rows_length area n) l) ∙ row_is area n k l
    ]

-- two row numbers are the same, or one is the earlier
pub which : (i j : ℕ) → (i ≡ j) ⊎ ((i < j) ⊎ (j < i))
which i j = go (leb i j) (leb→le i j) (nleb→lt i j)
  where
    go : (b : Bool) → (T b → i ≤ j) → (T (not b) → j < i) → (i ≡ j) ⊎ ((i < j) ⊎ (j < i))
    go true h k = elim (eq-or-lt_of_le (h tt)) [ inl e ↦ inl e | inr l ↦ inr (inl l) ]
    go false h k = inr (inr (k tt))

-- ---- the test of a row among the rows, and what it means where the earlier rows are met

or_none : (a b : Bool) → T (not a) → T (not b) → T (not (a || b))
or_none false b p q = q
or_none true b p q = p

none_or : (a b : Bool) → T (not (a || b)) → T (not a) × T (not b)
none_or false b p = (tt, p)
none_or true b p = absurd p

module _ (area : List ℕ) where
  abbrev rows : List ToneRow
  rows = rows_of area 12

  -- r shares no tone, as tested, with a row before row n
  abbrev NoneShared : ℕ → ToneRow → Type 0
  NoneShared n r = (j : ℕ) → j < n → T (not (share (row_in area j) r))

  none_shared : (n : ℕ) (r : ToneRow) → n ≤ 12 → T (not (shares_earlier rows n r)) → NoneShared n r
  unfolding shares_earlier
  none_shared zero r l h j k = absurd (not-suc-le-zero k)
  none_shared (suc n) r l h j k =
      let both = none_or (shares_earlier rows n r) (share (row_of rows n) r) h in
      elim (eq-or-lt_of_le (le_of_suc-le-suc k)) [
        | inl e ↦ rw e (rw (row_is area 12 n l) at both.1)
        | inr m ↦ none_shared n r (omega arith) both.0 j m
      ]

  shared_none : (n : ℕ) (r : ToneRow) → n ≤ 12 → NoneShared n r → T (not (shares_earlier rows n r))
  unfolding shares_earlier
  shared_none zero r l h = tt
  shared_none (suc n) r l h =
      or_none (shares_earlier rows n r) (share (row_of rows n) r)
      (shared_none n r (omega arith) (λ (j : ℕ) k. h j (omega arith)))
      (rw (row_is area 12 n l) (h n (omega arith)))

  module _ (k : ℕ) (h : k < 12) (before : MetBefore area k) where
    met : T (good_at rows k) → Met area k
    unfolding good_at
    met t =
        let r = row_in area k in
        let u : T (row_ok r && not (shares_earlier rows k r)) = rw (row_is area 12 k h) at t in
        let g = good r (and_l (row_ok r) (not (shares_earlier rows k r)) u) in
        let none = none_shared k r (omega arith) (and_r (row_ok r) (not (shares_earlier rows k r)) u) in
        record { good = g; apart = λ (j : ℕ) l tone a b. T_not (share (row_in area j) r) (none j l) (tone_shared (row_in area j) r (before j l).good g tone a b) }

    good_met : Met area k → T (good_at rows k)
    unfolding good_at
    good_met m =
        let r = row_in area k in
        let none : NoneShared k r = λ j l. not_T (share (row_in area j) r) (λ t. let s = shared_tone (row_in area j) r (before j l).good m.good t in m.apart j l s.0 s.1.0 s.1.1) in
        let u : T (row_ok r && not (shares_earlier rows k r)) = and_i (row_ok r) (not (shares_earlier rows k r)) (ok r m.good) (shared_none k r (omega arith) none) in
        rw (row_is area 12 k h) u

  -- ---- the place of the first fault behind the length

  data Judged (n : ℕ) : ℕ → Type 0 where
    sound : byte area 2 ≡ 1 → MetBefore area n → Judged n 0
    bad_version : (byte area 2 ≡ 1 → ⊥) → Judged n 2
    bad_row : (k : ℕ) → k < n → byte area 2 ≡ 1 → MetBefore area k → (Met area k → ⊥) → Judged n (place_of k)

  -- with row n looked at too
  one_more : (n : ℕ) → n < 12 → (place : ℕ) → Judged n place → Judged (suc n) (or_fault place (place_of n) (good_at rows n))
  unfolding or_fault
  one_more n l place (sound v before) = go (good_at rows n) refl
    where
      go : (b : Bool) → good_at rows n ≡ b → Judged (suc n) (pick b 0 (place_of n))
      go true e = sound v (λ (j : ℕ) m. elim (eq-or-lt_of_le (le_of_suc-le-suc m)) [ inl q ↦ rw q (met n l before (rw e tt)) | inr q ↦ before j q ])
      go false e = bad_row n (omega arith) v before (λ m. rw e at (good_met n l before m))
  one_more n l place (bad_version v) = bad_version v
  one_more n l place (bad_row k h v before bad) = rw (ne_eqb (place_of k) 0 (λ e. omega arith)) (bad_row k (omega arith) v before bad)

  judged : (n : ℕ) → n ≤ 12 → Judged n (fault_of (byte area 2) rows n)
  unfolding or_fault
  judged zero l = rw (fault_none (byte area 2) rows) (go (eqb (byte area 2) 1) refl)
    where
      go : (b : Bool) → eqb (byte area 2) 1 ≡ b → Judged 0 (pick b 0 2)
      go true e = sound (eqb-true (byte area 2) 1 e) (λ (j : ℕ) m. absurd (not-suc-le-zero m))
      go false e = bad_version (eqb-false (byte area 2) 1 e)
  judged (suc n) l = rw (fault_suc (byte area 2) rows n) (one_more n l (fault_of (byte area 2) rows n) (judged n (omega arith)))

  -- ---- the whole sheet

  -- the two ways a sheet goes, each with its answer
  data Decided : Answer Sheet → Type 0 where
    is_accepted : Accepted area → Decided (given (sheet_of area))
    is_refused : (place : ℕ) → FirstFault area place → Decided (refused_at 12 place)

  decided : Decided (read_sheet area)
  unfolding sheet_of
  decided = go (whole_sheet area) refl
    where
      go : (b : Bool) → whole_sheet area ≡ b → Decided (read_sheet area)
      go false e =
          rw (read_length area e)
          (is_refused 0 (length_fault (λ f l. rw e at (and_i (leb 147 (length area)) (eqb (word area 0) 147) (le→leb 147 (length area) l) (eq→eqb f)))))
      go true e = behind (fault_of (byte area 2) rows 12) refl (judged 12 (omega arith))
        where
          both : T (leb 147 (length area) && eqb (word area 0) 147)
          both = rw e tt

          field : word area 0 ≡ 147
          field = eqb→eq (word area 0) 147 (and_r (leb 147 (length area)) (eqb (word area 0) 147) both)

          whole : 147 ≤ length area
          whole = leb→le 147 (length area) (and_l (leb 147 (length area)) (eqb (word area 0) 147) both)

          behind : (place : ℕ) → place ≡ fault_of (byte area 2) rows 12 → Judged 12 place → Decided (read_sheet area)
          behind place p (sound v met) = rw (read_sound area e (sheet_of area) refl place p refl) (is_accepted (record { field = field; whole = whole; version = v; rows = met }))
          behind place p (bad_version v) = rw (read_place area e (sheet_of area) refl place p (λ z. omega arith)) (is_refused place (version_fault field whole v))
          behind place p (bad_row k h v before bad) =
              rw (read_place area e (sheet_of area) refl place p (λ z. omega arith)) (is_refused place (row_fault k h field whole v before bad))

  -- ---- a first fault is one, and no fault of an accepted sheet

  not_both : Accepted area → (place : ℕ) → FirstFault area place → ⊥
  not_both a place (length_fault f) = f a.field a.whole
  not_both a place (version_fault f w v) = v a.version
  not_both a place (row_fault k h f w v before bad) = bad (a.rows k h)

  pub same_fault : (p q : ℕ) → FirstFault area p → FirstFault area q → p ≡ q
  same_fault p q (length_fault f) (length_fault g) = refl
  same_fault p q (length_fault f) (version_fault g w v) = absurd (f g w)
  same_fault p q (length_fault f) (row_fault k h g w v before bad) = absurd (f g w)
  same_fault p q (version_fault f w v) (length_fault g) = absurd (g f w)
  same_fault p q (version_fault f w v) (version_fault g x u) = refl
  same_fault p q (version_fault f w v) (row_fault k h g x u before bad) = absurd (v u)
  same_fault p q (row_fault k h f w v before bad) (length_fault g) = absurd (g f w)
  same_fault p q (row_fault k h f w v before bad) (version_fault g x u) = absurd (u v)
  same_fault p q (row_fault k h f w v before bad) (row_fault i l g x u earlier worse) = ap place_of (same_row (which k i))
    where
      same_row : (k ≡ i) ⊎ ((k < i) ⊎ (i < k)) → k ≡ i
      same_row (inl e) = e
      same_row (inr (inl m)) = absurd (bad (earlier k m))
      same_row (inr (inr m)) = absurd (worse (before i m))

-- what `cc` makes of two answers of different kinds
pub differ : ◌≡◌ {A = ℕ} 0 1 → ⊥
differ z = omega arith

-- ---- the theorems: the reader

-- what is given is the sheet of the area, and the area has no fault
pub accepted : (area : List ℕ) (sheet : Sheet) → read_sheet area ≡ given sheet → Accepted area × (sheet ≡ sheet_of area)
accepted area sheet e = go (read_sheet area) (decided area) e
  where
    go : (a : Answer Sheet) → Decided area a → a ≡ given sheet → Accepted area × (sheet ≡ sheet_of area)
    go a (is_accepted x) q = (x, cc)
    go a (is_refused p f) q = absurd (differ (cc))

-- an area without a fault is accepted
pub accepts : (area : List ℕ) → Accepted area → read_sheet area ≡ given (sheet_of area)
accepts area x = go (read_sheet area) (decided area)
  where
    go : (a : Answer Sheet) → Decided area a → a ≡ given (sheet_of area)
    go a (is_accepted y) = refl
    go a (is_refused p f) = absurd (not_both area x p f)

-- a refusal is 12, and its place that of the first fault
pub refused_first : (area : List ℕ) (n place : ℕ) → read_sheet area ≡ refused_at n place → (n ≡ 12) × FirstFault area place
refused_first area n place e = go (read_sheet area) (decided area) e
  where
    moved : (p : ℕ) → FirstFault area p → p ≡ place → FirstFault area place
    moved p f q = rw q at f

    go : (a : Answer Sheet) → Decided area a → a ≡ refused_at n place → (n ≡ 12) × FirstFault area place
    go a (is_accepted y) q = absurd (differ (cc))
    go a (is_refused p f) q = (cc, moved p f (cc))

-- an area with a fault is refused with 12 at its first
pub first_refused : (area : List ℕ) (place : ℕ) → FirstFault area place → read_sheet area ≡ refused_at 12 place
first_refused area place f = go (read_sheet area) (decided area)
  where
    go : (a : Answer Sheet) → Decided area a → a ≡ refused_at 12 place
    go a (is_accepted y) = absurd (not_both area y place f)
    go a (is_refused p g) = ap (refused_at 12) (same_fault area p place g f)

-- no refusal comes without its place
pub never_bare : (area : List ℕ) (n : ℕ) → read_sheet area ≡ refused n → ⊥
never_bare area n e = go (read_sheet area) (decided area) e
  where
    go : (a : Answer Sheet) → Decided area a → a ≡ refused n → ⊥
    go a (is_accepted y) q = differ (cc)
    go a (is_refused p f) q = differ (cc)

-- ---- the theorems: the classifier

-- a reading is given under an area without a fault, and is what its rows give
pub classified : (area : List ℕ) (tone : Float) (reading : Reading) → classify_of area tone ≡ given reading → Accepted area × (reading ≡ read_from 0 (rows_of area 12) tone)
unfolding classify_of sheet_of
classified area tone reading e = go (read_sheet area) (decided area) e
  where
    go : (a : Answer Sheet) → Decided area a → read_under a tone ≡ given reading → Accepted area × (reading ≡ read_from 0 (rows_of area 12) tone)
    go a (is_accepted x) q = (x, cc)
    go a (is_refused p f) q = absurd (differ (cc))

pub classifies : (area : List ℕ) (tone : Float) → Accepted area → classify_of area tone ≡ given (read_from 0 (rows_of area 12) tone)
unfolding classify_of sheet_of
classifies area tone x = rw (accepts area x)

-- the classifier refuses just as the reader, whatever the tone
pub classifier_first : (area : List ℕ) (tone : Float) (n place : ℕ) → classify_of area tone ≡ refused_at n place → (n ≡ 12) × FirstFault area place
unfolding classify_of
classifier_first area tone n place e = refused_first area n place (go (read_sheet area) e)
  where
    go : (a : Answer Sheet) → read_under a tone ≡ refused_at n place → a ≡ refused_at n place
    go (given s) q = absurd (differ (cc))
    go (refused m) q = absurd (differ (cc))
    go (refused_at m p) q = cc

pub first_classifier : (area : List ℕ) (tone : Float) (place : ℕ) → FirstFault area place → classify_of area tone ≡ refused_at 12 place
unfolding classify_of
first_classifier area tone place f = rw (first_refused area place f)
