-- What the functions' proofs cite: bit patterns, the paper's numbers as the code's constants, that a row in order is finite, and one row more in each
-- definition that counts rows. Assumes nothing.
use mathlib.Core.Path.{◌≡◌, refl, sym, ap, ◌∙◌, subst}
use mathlib.Core.Logic.{inl, inr}
use native.Mathlib.Nat.{eq-or-lt_of_le, le_of_suc-le-suc}
use native.Mathlib.Omega.{arith}
use mathlib.Core.Bool.{Bool, true, false, not, ◌&&◌}
use mathlib.Core.List.{List, [], ◌∷◌, ◌++◌}
use Prim.Native.Nat.{ℕ, zero, suc, ◌+◌, ◌%◌, ◌<◌, ◌≤◌}
use native.Mathlib.Numerals.{add-one}
use lib.ListN.{length, take, set}
use lib.Seq.{take-suc-set, take_all}
use lib.Dec.{T, eqb}
use lib.Ieee.{Float, nan, inf, fin, binary32, of_bits, of_int, nan_bits, is_nan, le, mul, div}
use lib.Ieee.Bits.{nan_bits_above, nan_bits_is}
use lib.Ieee.Fits.{and_i, and_l, and_r}
use lib.Ieee.Scale.{finite}
use borrow.Author.Tests.{le-ltb, lt-ltb, eq-eqb, ne_eqb}
use Rattle.std.specs.Prelude.{Ok, Err}
use Rattle.std.specs.List.{list_any}
use Rattle.std.proofs.lemmas.List.Folds.{list_any_more}
use Rattle.leaf.specs.Answers.{given, refused_at, refusal_of, on_paper, ensured}
use Rattle.leaf.specs.declared.refusal.Refusal.{Refusal}
use Rattle.leaf.specs.declared.refusal.Refusal.TheVariants.{AreaTooShort, NoSuchVersion, VersionTooNew, WrongLength, OutOfRange, NoSuchReader, WrongTrain, SessionOutOfRange, SampleOutOfRange, TooFast, ModeWhileMoving, BadSheet, NoRoom, BadRecording}
use Rattle.leaf.specs.Bytes.{byte}
use Rattle.leaf.specs.Choosing.{pick}
use Rattle.leaf.specs.Checks.{Check, or_fault, first_bad}
use Rattle.tone.specs.declared.ToneRow.{ToneRow}
use Rattle.tone.specs.declared.Sheet.{Sheet}
use Rattle.tone.specs.Facts.{Order}
use Rattle.tone.specs.Tones.{VERSION, place_of, row_at, rows_of, sheet_of, khz, all_finite, in_order, row_ok, share, row_of, shares_earlier, good_at, checks_of, fault_of, read_from, no_row, whole_sheet, read_sheet, paper_of_sheet, beside_of, good_beside, bad_at, behind, sheet_read, read_under, classify_of}

-- ---- bit patterns of an f32

-- up to the infinity's, a pattern without its sign is no NaN's
pub no_nan : (n : ℕ) → n % 0x8000_0000 ≤ 0x7f80_0000 → T (not (nan_bits binary32 n))
no_nan n h = subst (λ (b : Bool). T (not b)) (sym (nan_bits_above binary32 n ∙ le-ltb 0x7f80_0000 (n % 0x8000_0000) h)) tt

is_nan_lem : (x : Float) → is_nan x ≡ true → x ≡ nan
unfolding is_nan
is_nan_lem nan e = refl
is_nan_lem (inf s) e = absurd (subst T (sym e) tt)
is_nan_lem (fin s m d) e = absurd (subst T (sym e) tt)

-- above it, it is one
pub reads_nan : (n : ℕ) → 0x7f80_0000 < n % 0x8000_0000 → of_bits binary32 n ≡ nan
reads_nan n h = is_nan_lem (of_bits binary32 n) (sym (nan_bits_is binary32 n) ∙ nan_bits_above binary32 n ∙ lt-ltb 0x7f80_0000 (n % 0x8000_0000) h)

-- ---- the code's constants

pub nan_made : div binary32 (of_bits binary32 0) (of_bits binary32 0) ≡ nan
unfolding div of_bits
nan_made = refl

pub zero_is : of_bits binary32 0 ≡ khz 0
unfolding of_bits of_int
zero_is = refl

pub two_is : of_bits binary32 0x4000_0000 ≡ khz 2
unfolding of_bits of_int
two_is = refl

pub low_is : of_bits binary32 0x4200_0000 ≡ khz 32
unfolding of_bits of_int
low_is = refl

pub high_is : of_bits binary32 0x4300_0000 ≡ khz 128
unfolding of_bits of_int
high_is = refl

-- ---- a row in order is finite

-- neither a NaN nor +∞; neither a NaN nor -∞
abbrev capped : Float → Bool
capped nan = false
capped (inf s) = s
capped (fin s m e) = true

abbrev based : Float → Bool
based nan = false
based (inf s) = not s
based (fin s m e) = true

le-capped : (x y : Float) → T (le x y) → T (capped y) → T (capped x)
unfolding le
le-capped nan y h k = h
le-capped (inf true) y h k = tt
le-capped (inf false) nan h k = k
le-capped (inf false) (inf true) h k = h
le-capped (inf false) (inf false) h k = k
le-capped (inf false) (fin t n d) h k = h
le-capped (fin s m e) y h k = tt

le-based : (x y : Float) → T (le x y) → T (based x) → T (based y)
unfolding le
le-based nan y h k = absurd k
le-based (inf true) y h k = absurd k
le-based (inf false) nan h k = h
le-based (inf false) (inf true) h k = h
le-based (inf false) (inf false) h k = tt
le-based (inf false) (fin t n d) h k = tt
le-based (fin s m e) nan h k = h
le-based (fin s m e) (inf true) h k = h
le-based (fin s m e) (inf false) h k = tt
le-based (fin s m e) (fin t n d) h k = tt

both_ends : (x : Float) → T (capped x) → T (based x) → T (finite x)
both_ends nan a b = a
both_ends (inf true) a b = b
both_ends (inf false) a b = a
both_ends (fin s m e) a b = tt

capped-khz : T (capped (khz 128))
unfolding of_int
capped-khz = tt

based-khz : T (based (khz 32))
unfolding of_int
based-khz = tt

-- the tests of the order, as facts
pub order : (r : ToneRow) → T (in_order r) → Order r
order r t =
    let a = le (khz 32) r.low in
    let b = le r.low r.centre in
    let c = le r.centre r.high in
    let d = le r.high (khz 128) in
    let e = le r.high (mul binary32 (khz 2) r.low) in
    let abcd = and_l (((a && b) && c) && d) e t in
    let abc = and_l ((a && b) && c) d abcd in
    let ab = and_l (a && b) c abc in
    record { bottom = and_l a b ab; left = and_r a b ab; right = and_r (a && b) c abc; ceiling = and_r ((a && b) && c) d abcd; octave = and_r (((a && b) && c) && d) e t }

in_order_finite : (r : ToneRow) → T (in_order r) → T (all_finite r)
in_order_finite r t =
    let o = order r t in
    let hc : T (capped r.high) = le-capped r.high (khz 128) o.ceiling capped-khz in
    let cc' : T (capped r.centre) = le-capped r.centre r.high o.right hc in
    let lb : T (based r.low) = le-based (khz 32) r.low o.bottom based-khz in
    let cb : T (based r.centre) = le-based r.low r.centre o.left lb in
    and_i (finite r.low && finite r.centre) (finite r.high)
    (and_i (finite r.low) (finite r.centre) (both_ends r.low (le-capped r.low r.centre o.left cc') lb) (both_ends r.centre cc' cb))
    (both_ends r.high hc (le-based r.centre r.high o.right cb))

absorb : (a b : Bool) → (T b → T a) → b ≡ (a && b)
absorb true b h = refl
absorb false true h = absurd (h tt)
absorb false false h = refl

pub in_order_ok : (r : ToneRow) → in_order r ≡ row_ok r
unfolding row_ok
in_order_ok r = absorb (all_finite r) (in_order r) (in_order_finite r)

-- the same with the code's constants
pub code_ok : (r : ToneRow)
    → (le (of_bits binary32 0x4200_0000) r.low && le r.low r.centre && le r.centre r.high && le r.high (of_bits binary32 0x4300_0000) && le r.high (mul binary32 (of_bits binary32 0x4000_0000) r.low)) ≡ row_ok r
code_ok r = simp (low_is, high_is, two_is) (in_order_ok r)

-- ---- one row more, at the code's i + 1

pub rows_more : (area : List ℕ) (rows : List ToneRow) (i : ℕ) (r : ToneRow) → i < length rows → take i rows ≡ rows_of area i → r ≡ row_at area (place_of i) → take (i + 1) (set rows i r) ≡ rows_of area (i + 1)
unfolding rows_of
rows_more area rows i r h e k = rw (add-one, take-suc-set rows i r h, e, k)

-- a check more at the end of a list of checks
pub bad_more : (found : ℕ) (cs : List Check) (n : ℕ) (ok : Bool) → first_bad found (cs ++ ((n, ok) ∷ [])) ≡ or_fault (first_bad found cs) n ok
bad_more found [] n ok = refl
bad_more found (c ∷ rest) n ok = bad_more (or_fault found c.0 c.1) rest n ok

pub fault_none : (version : ℕ) (rows : List ToneRow) → fault_of version rows 0 ≡ or_fault 0 2 (eqb version VERSION)
unfolding fault_of
fault_none version rows = refl

pub fault_suc : (version : ℕ) (rows : List ToneRow) (n : ℕ) → fault_of version rows (suc n) ≡ or_fault (fault_of version rows n) (place_of n) (good_at rows n)
unfolding fault_of
fault_suc version rows n = bad_more 0 (checks_of version rows n) (place_of n) (good_at rows n)

pub fault_more : (version : ℕ) (rows : List ToneRow) (i : ℕ) → fault_of version rows (i + 1) ≡ or_fault (fault_of version rows i) (place_of i) (good_at rows i)
fault_more version rows i = rw add-one (fault_suc version rows i)

-- a fault that was found stays the first
fault_stays : (version : ℕ) (rows : List ToneRow) (n m : ℕ) → n ≤ m → (fault_of version rows n ≡ 0 → ⊥) → fault_of version rows m ≡ fault_of version rows n
unfolding or_fault
fault_stays version rows n zero l z = let e : n ≡ 0 = omega arith in rw e
fault_stays version rows n (suc m) l z =
    elim (eq-or-lt_of_le l) [
      | inl e ↦ rw e
      | inr h ↦
          let before = fault_stays version rows n m (le_of_suc-le-suc h) z in
          fault_suc version rows m ∙ rw (before, ne_eqb (fault_of version rows n) 0 z)
    ]

-- a row beside the earlier ones, as the code has it
shares_one : (rows : List ToneRow) (r : ToneRow) (n : ℕ) → n ≤ length rows → list_any (λ row. share row r) (take n rows) ≡ shares_earlier rows n r
unfolding shares_earlier
shares_one rows r zero l = refl
shares_one rows r (suc n) l =
    let one : suc n ≡ n + 1 = omega arith in
    let same : take (suc n) rows ≡ take (n + 1) rows = ap (λ m. take m rows) one in
    let inside : n < length rows = omega arith in
    rw (same, list_any_more (λ row. share row r) rows n no_row inside, shares_one rows r n (omega arith))

good_is : (rows : List ToneRow) (k : ℕ) → k < length rows → good_beside (take k rows) (row_of rows k) ≡ good_at rows k
unfolding good_beside good_at
good_is rows k h = rw (shares_one rows (row_of rows k) k (omega arith))

-- the version's fault is the first
pub version_first : (version : ℕ) (rows : List ToneRow) → eqb version VERSION ≡ false → bad_at (fault_of version rows 12) ≡ Err (BadSheet 2)
unfolding bad_at or_fault
version_first version rows e =
    let two : fault_of version rows 0 ≡ 2 = fault_none version rows ∙ rw e in
    rw (fault_stays version rows 0 12 (omega arith) (λ z. omega (arith, two, z)), two)

-- where it has none, none is found before the rows
pub none_at : (version : ℕ) (rows : List ToneRow) → eqb version VERSION ≡ true → fault_of version rows 0 ≡ 0
unfolding or_fault
none_at version rows e = fault_none version rows ∙ rw e

-- none is found before the next row where this one is good
pub none_more : (version : ℕ) (rows : List ToneRow) (k : ℕ) → k < length rows → fault_of version rows k ≡ 0
    → good_beside (take k rows) (row_of rows k) ≡ true → fault_of version rows (k + 1) ≡ 0
unfolding or_fault
none_more version rows k h none good = fault_more version rows k ∙ rw (none, sym (good_is rows k h) ∙ good)

-- and else this one's place is the first
pub row_first : (version : ℕ) (rows : List ToneRow) (k : ℕ) → length rows ≡ 12 → k < 12 → fault_of version rows k ≡ 0
    → good_beside (take k rows) (row_of rows k) ≡ false → bad_at (fault_of version rows 12) ≡ Err (BadSheet (place_of k))
unfolding bad_at or_fault
row_first version rows k twelve h none bad =
    let inside : k < length rows = omega arith in
    let this : fault_of version rows (k + 1) ≡ place_of k = fault_more version rows k ∙ rw (none, sym (good_is rows k inside) ∙ bad) in
    rw (fault_stays version rows (k + 1) 12 (omega arith) (λ z. omega (arith, this, z)), this, ne_eqb (place_of k) 0 (λ z. omega arith))

pub none_bad : (version : ℕ) (rows : List ToneRow) → fault_of version rows 12 ≡ 0 → bad_at (fault_of version rows 12) ≡ Ok tt
unfolding bad_at
none_bad version rows e = rw e

-- ---- the sheet of its rows

pub sheet_all : (sheet : Sheet) (area : List ℕ) → length sheet.rows ≤ 12 → take 12 sheet.rows ≡ rows_of area 12 → sheet ≡ sheet_of area
unfolding sheet_of
sheet_all sheet area h e = let k : sheet.rows ≡ rows_of area 12 = sym (take_all 12 sheet.rows h) ∙ e in rw (← k)

-- ---- the reader's answer, whole and on paper

-- the reader's answer, refusal by refusal, is the whole of that on paper
pub sheet_beside : (area : List ℕ) → sheet_read area ≡ beside_of (read_sheet area)
unfolding sheet_read read_sheet bad_at sheet_of
sheet_beside area = cases (whole_sheet area) (eqb (fault_of (byte area 2) (rows_of area 12) 12) 0)
  where
    cases : (w p : Bool)
        → behind (ensured w (BadSheet 0)) (behind (pick p (Ok tt) (Err (BadSheet (fault_of (byte area 2) (rows_of area 12) 12)))) (Ok (sheet_of area)))
        ≡ beside_of (pick w (pick p (given (sheet_of area)) (refused_at 12 (fault_of (byte area 2) (rows_of area 12) 12))) (refused_at 12 0))
    cases false p = refl
    cases true true = refl
    cases true false = refl

-- and on paper it is that
pub sheet_paper : (area : List ℕ) → paper_of_sheet (sheet_read area) ≡ read_sheet area
unfolding sheet_read read_sheet bad_at sheet_of
sheet_paper area = cases (whole_sheet area) (eqb (fault_of (byte area 2) (rows_of area 12) 12) 0)
  where
    cases : (w p : Bool)
        → on_paper (behind (ensured w (BadSheet 0)) (behind (pick p (Ok tt) (Err (BadSheet (fault_of (byte area 2) (rows_of area 12) 12)))) (Ok (sheet_of area))))
        ≡ pick w (pick p (given (sheet_of area)) (refused_at 12 (fault_of (byte area 2) (rows_of area 12) 12))) (refused_at 12 0)
    cases false p = refl
    cases true true = refl
    cases true false = refl

-- what `read_sheet` comes to at each of its cases
module _ (area : List ℕ) where
  pub read_length : whole_sheet area ≡ false → read_sheet area ≡ refused_at 12 0
  unfolding read_sheet
  read_length e = rw e

  module _ (w : whole_sheet area ≡ true) (sheet : Sheet) (s : sheet ≡ sheet_of area) (place : ℕ) (p : place ≡ fault_of (byte area 2) sheet.rows 12) where
    pub read_place : (place ≡ 0 → ⊥) → read_sheet area ≡ refused_at 12 place
    unfolding read_sheet sheet_of
    read_place n = rw (w, p, s) (rw (ne_eqb (fault_of (byte area 2) (rows_of area 12) 12) 0 (λ e. n (p ∙ rw s e))))

    pub read_sound : place ≡ 0 → read_sheet area ≡ given sheet
    unfolding read_sheet sheet_of
    read_sound e = rw (w, eq-eqb (fault_of (byte area 2) (rows_of area 12) 12) 0 (rw s at (sym p ∙ e)), s)

-- ---- the classifier's answer

pub classify_reads : (area : List ℕ) (tone : Float) (sheet : Sheet) → given sheet ≡ read_sheet area → classify_of area tone ≡ given (read_from 0 sheet.rows tone)
unfolding classify_of
classify_reads area tone sheet e = rw (← e)

pub classify_refuses : (area : List ℕ) (tone : Float) (why : Refusal) → refusal_of why ≡ read_sheet area → classify_of area tone ≡ refusal_of why
unfolding classify_of
classify_refuses area tone why e = rw (← e) (same why)
  where
    same : (why : Refusal) → read_under (refusal_of why) tone ≡ refusal_of why
    same AreaTooShort = refl
    same NoSuchVersion = refl
    same VersionTooNew = refl
    same WrongLength = refl
    same (OutOfRange place) = refl
    same NoSuchReader = refl
    same WrongTrain = refl
    same SessionOutOfRange = refl
    same SampleOutOfRange = refl
    same TooFast = refl
    same ModeWhileMoving = refl
    same (BadSheet place) = refl
    same NoRoom = refl
    same BadRecording = refl
