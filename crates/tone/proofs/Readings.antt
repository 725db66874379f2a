-- What a tone reads as under an accepted sheet, said without an order of looking: it lies in one row at most, reads as that row with the offset from that
-- row's centre, and as nothing where it lies in none. Assumes nothing.
use mathlib.Core.Path.{◌≡◌, refl, sym, ap, ◌∙◌}
use mathlib.Core.Logic.{◌⊎◌, inl, inr, ◌↔◌}
use mathlib.Core.Bool.{Bool, true, false}
use mathlib.Core.List.{List, [], ◌∷◌}
use Prim.Native.Nat.{ℕ, zero, suc, ◌+◌, ◌≤◌, ◌<◌}
use native.Mathlib.Nat.{not-suc-le-zero, add-zero, zero-add, le_of_suc-le-suc}
use native.Mathlib.Omega.{arith}
use lib.Dec.{T}
use lib.ListN.{length}
use lib.Ieee.{Float, nan, inf, fin, binary32, le, sub}
use lib.Ieee.Scale.{finite}
use Rattle.leaf.specs.Choosing.{pick}
use Rattle.leaf.specs.Numbers.{quiet_code, code_top}
use Rattle.leaf.specs.Answers.{given}
use Rattle.tone.specs.declared.ToneRow.{ToneRow}
use Rattle.tone.specs.declared.Reading.{Reading}
use Rattle.tone.specs.declared.Reading.TheVariants.{Permanent, Nothing}
use Rattle.tone.specs.Tones.{rows_of, row_of, in_row, reading_of, offset_from, read_from, classify_of, code_of}
use Rattle.tone.specs.Facts.{LiesIn, row_in, Accepted}
use Rattle.tone.proofs.Apart.{lies, in_row_lem}
use Rattle.tone.proofs.FirstFault.{rows_length, row_is, which, differ, classified, classifies}

-- ---- the scan of the rows

-- what is read from rows that are numbered from i: one of them that the tone lies in, or nothing where it lies in none
data Found (i : ℕ) (rows : List ToneRow) (tone : Float) : Reading → Type 0 where
  in_one : (j : ℕ) → j < length rows → T (in_row (row_of rows j) tone) → Found i rows tone (reading_of (i + j) (offset_from (row_of rows j) tone))
  in_none : ((j : ℕ) → j < length rows → T (in_row (row_of rows j) tone) → ⊥) → Found i rows tone Nothing

found : (i : ℕ) (rows : List ToneRow) (tone : Float) → Found i rows tone (read_from i rows tone)
unfolding read_from
found i [] tone = in_none (λ (j : ℕ) h t. not-suc-le-zero h)
found i (r ∷ rest) tone = go (in_row r tone) refl (read_from (suc i) rest tone) (found (suc i) rest tone)
  where
    later : (x : Reading) → Found (suc i) rest tone x → (T (in_row r tone) → ⊥) → Found i (r ∷ rest) tone x
    later x (in_one j h t) n = moved (suc i + j) (i + suc j) (omega arith) (in_one (suc j) (omega (arith, h)) t)
      where
        moved : (k l : ℕ) → k ≡ l → Found i (r ∷ rest) tone (reading_of l (offset_from (row_of rest j) tone)) → Found i (r ∷ rest) tone (reading_of k (offset_from (row_of rest j) tone))
        moved k l e f = rw e f
    later x (in_none f) n = in_none none
      where
        none : (j : ℕ) → j < length (r ∷ rest) → T (in_row (row_of (r ∷ rest) j) tone) → ⊥
        none zero h t = n t
        none (suc j) h t = f j (le_of_suc-le-suc h) t

    go : (b : Bool) → in_row r tone ≡ b → (x : Reading) → Found (suc i) rest tone x → Found i (r ∷ rest) tone (pick b (reading_of i (offset_from r tone)) x)
    go true e x f = here i (i + 0) (sym (add-zero i)) (in_one 0 (omega arith) (rw e tt))
      where
        here : (k l : ℕ) → k ≡ l → Found i (r ∷ rest) tone (reading_of l (offset_from r tone)) → Found i (r ∷ rest) tone (reading_of k (offset_from r tone))
        here k l e f = rw e f
    go false e x f = later x f (λ t. rw e at t)

-- ---- a tone lies in one row at most

pub one_row : (area : List ℕ) → Accepted area → (i j : ℕ) → i < 12 → j < 12 → (tone : Float) → LiesIn tone (row_in area i) → LiesIn tone (row_in area j) → i ≡ j
one_row area a i j h k tone u v = go (which i j)
  where
    go : (i ≡ j) ⊎ ((i < j) ⊎ (j < i)) → i ≡ j
    go (inl e) = e
    go (inr (inl l)) = absurd ((a.rows j k).apart i l tone u v)
    go (inr (inr l)) = absurd ((a.rows i h).apart j l tone v u)

-- ---- what is read under an accepted sheet: of its row, or nothing

data Read (area : List ℕ) (tone : Float) : Reading → Type 0 where
  of_row : (k : ℕ) → k < 12 → LiesIn tone (row_in area k) → Read area tone (reading_of k (sub binary32 tone (row_in area k).centre))
  of_none : ((k : ℕ) → k < 12 → LiesIn tone (row_in area k) → ⊥) → Read area tone Nothing

read : (area : List ℕ) (tone : Float) → Read area tone (read_from 0 (rows_of area 12) tone)
read area tone = go (read_from 0 (rows_of area 12) tone) (found 0 (rows_of area 12) tone)
  where
    moved : (j k : ℕ) (r : ToneRow) → k ≡ j → r ≡ row_in area j → Read area tone (reading_of j (offset_from (row_in area j) tone)) → Read area tone (reading_of k (offset_from r tone))
    moved j k r p q x = rw (p, q) x

    go : (x : Reading) → Found 0 (rows_of area 12) tone x → Read area tone x
    go x (in_one j h t) =
        let l : j < 12 = rw (rows_length area 12) at h in
        moved j (0 + j) (row_of (rows_of area 12) j) (zero-add j) (row_is area 12 j l) (of_row j l (lies (row_in area j) tone (rw (row_is area 12 j l) at t)))
    go x (in_none f) = of_none (λ (k : ℕ) h l. f k (rw (rows_length area 12) h) (rw (row_is area 12 k h) (in_row_lem (row_in area k) tone l)))

-- ---- readings are told apart

reading_once : (i k : ℕ) (x d : Float) → reading_of i x ≡ reading_of k d → (i ≡ k) × (x ≡ d)
reading_once zero zero x d e = (refl, cc)
reading_once zero (suc k) x d e = absurd (differ (cc))
reading_once (suc i) zero x d e = absurd (differ (cc))
reading_once (suc i) (suc k) x d e = (cc, cc)

row_not_nothing : (k : ℕ) (d : Float) → reading_of k d ≡ Nothing → ⊥
row_not_nothing zero d e = differ (cc)
row_not_nothing (suc k) d e = differ (cc)

-- ---- the theorems, both ways

module _ (area : List ℕ) (tone : Float) where
  abbrev centre : ℕ → Float
  centre k = (row_in area k).centre

  -- a tone in row k reads as row k, with the offset bit for bit the one f32 subtraction
  pub reads_row : Accepted area → (k : ℕ) → k < 12 → LiesIn tone (row_in area k) → classify_of area tone ≡ given (reading_of k (sub binary32 tone (centre k)))
  reads_row a k h l = classifies area tone a ∙ ap given (go (read_from 0 (rows_of area 12) tone) (read area tone))
    where
      go : (x : Reading) → Read area tone x → x ≡ reading_of k (sub binary32 tone (centre k))
      go x (of_row j i m) = ap (λ (n : ℕ). reading_of n (sub binary32 tone (centre n))) (one_row area a j k i h tone m l)
      go x (of_none f) = absurd (f k h l)

  -- and a tone in no row as nothing
  pub reads_nothing : Accepted area → ((k : ℕ) → k < 12 → LiesIn tone (row_in area k) → ⊥) → classify_of area tone ≡ given Nothing
  reads_nothing a n = classifies area tone a ∙ ap given (go (read_from 0 (rows_of area 12) tone) (read area tone))
    where
      go : (x : Reading) → Read area tone x → x ≡ Nothing
      go x (of_row j i m) = absurd (n j i m)
      go x (of_none f) = refl

  -- what is read as row k lies in row k, and the offset is the tone minus that row's centre
  pub row_read : (k : ℕ) (offset : Float) → classify_of area tone ≡ given (reading_of k offset) → (k < 12) × LiesIn tone (row_in area k) × (offset ≡ sub binary32 tone (centre k))
  row_read k offset e = go (read_from 0 (rows_of area 12) tone) (read area tone) (classified area tone (reading_of k offset) e).1
    where
      moved : (j : ℕ) → j < 12 → LiesIn tone (row_in area j) → j ≡ k → sub binary32 tone (centre j) ≡ offset → (k < 12) × LiesIn tone (row_in area k) × (offset ≡ sub binary32 tone (centre k))
      moved j i m p q = let all : (j < 12) × LiesIn tone (row_in area j) × (offset ≡ sub binary32 tone (centre j)) = (i, m, sym q) in rw p at all

      go : (x : Reading) → Read area tone x → reading_of k offset ≡ x → (k < 12) × LiesIn tone (row_in area k) × (offset ≡ sub binary32 tone (centre k))
      go x (of_row j i m) q = let s = reading_once j k (sub binary32 tone (centre j)) offset (sym q) in moved j i m s.0 s.1
      go x (of_none f) q = absurd (row_not_nothing k offset q)

  -- and what is read as nothing lies in no row
  pub nothing_read : classify_of area tone ≡ given Nothing → (k : ℕ) → k < 12 → LiesIn tone (row_in area k) → ⊥
  nothing_read e k h l = let c = classified area tone Nothing e in row_not_nothing k (sub binary32 tone (centre k)) (same (sym (reads_row c.0 k h l) ∙ e))
    where
      same : {x y : Reading} → given x ≡ given y → x ≡ y
      same q = cc

  -- what is read is of a row, or nothing
  abbrev OfRow : Reading → Type 0
  OfRow reading = (k : ℕ) × ((k < 12) × ((offset : Float) × (reading ≡ reading_of k offset)))

  row_or_nothing : (reading : Reading) → classify_of area tone ≡ given reading → OfRow reading ⊎ (reading ≡ Nothing)
  row_or_nothing reading e = rw (classified area tone reading e).1 (go (read_from 0 (rows_of area 12) tone) (read area tone))
    where
      go : (x : Reading) → Read area tone x → OfRow x ⊎ (x ≡ Nothing)
      go x (of_row j i m) = inl (j, (i, (sub binary32 tone (centre j), refl)))
      go x (of_none f) = inr refl

  -- the ride's code of a row is its number
  row_code : (k : ℕ) (d : Float) → code_of (reading_of k d) ≡ k
  row_code zero d = refl
  row_code (suc k) d = refl

  -- 02 c: "The classifier's answer "nothing" becomes code 12": it has that code exactly when it reads nothing
  pub code_quiet : (reading : Reading) → classify_of area tone ≡ given reading → (code_of reading ≡ quiet_code) ↔ (reading ≡ Nothing)
  code_quiet reading e = ((λ c. go c (row_or_nothing reading e)), λ n. ap code_of n)
    where
      go : code_of reading ≡ quiet_code → OfRow reading ⊎ (reading ≡ Nothing) → reading ≡ Nothing
      go c (inl (k, (h, (d, p)))) = let z : k ≡ 12 = sym (row_code k d) ∙ ap code_of (sym p) ∙ c in absurd (omega arith)
      go c (inr n) = n

  -- "of permanent 0" (c1): and that one exactly when it reads the permanent tone
  pub code_permanent : (reading : Reading) → classify_of area tone ≡ given reading → (code_of reading ≡ 0) ↔ ((offset : Float) × (reading ≡ Permanent offset))
  code_permanent reading e = ((λ c. go c (row_or_nothing reading e)), λ p. ap code_of p.1)
    where
      first : (k : ℕ) (d : Float) → k ≡ 0 → reading_of k d ≡ Permanent d
      first k d z = ap (λ (n : ℕ). reading_of n d) z

      go : code_of reading ≡ 0 → OfRow reading ⊎ (reading ≡ Nothing) → (offset : Float) × (reading ≡ Permanent offset)
      go c (inl (k, (h, (d, p)))) = (d, p ∙ first k d (sym (row_code k d) ∙ ap code_of (sym p) ∙ c))
      go c (inr n) = let z : ◌≡◌ {A = ℕ} 12 0 = ap code_of (sym n) ∙ c in absurd (omega arith)

  -- no code is above 12
  pub code_range : (reading : Reading) → classify_of area tone ≡ given reading → code_of reading ≤ code_top
  code_range reading e = go (row_or_nothing reading e)
    where
      go : OfRow reading ⊎ (reading ≡ Nothing) → code_of reading ≤ code_top
      go (inl (k, (h, (d, p)))) = let z : code_of reading ≡ k = ap code_of p ∙ row_code k d in omega arith
      go (inr n) = let z : code_of reading ≡ 12 = ap code_of n in omega arith

-- ---- "not-a-number is nothing", and so are both infinities

not_below : (x : Float) → T (le x nan) → ⊥
unfolding le
not_below nan h = h
not_below (inf true) h = h
not_below (inf false) h = h
not_below (fin s m e) h = h

not_infinite : (s : Bool) (x y : Float) → T (finite x) → T (finite y) → T (le x (inf s)) → T (le (inf s) y) → ⊥
unfolding le
not_infinite s nan y f g h k = f
not_infinite s (inf t) y f g h k = f
not_infinite s (fin t m e) nan f g h k = g
not_infinite s (fin t m e) (inf u) f g h k = g
not_infinite true (fin t m e) (fin u n d) f g h k = h
not_infinite false (fin t m e) (fin u n d) f g h k = k

pub nan-nothing : (area : List ℕ) → Accepted area → classify_of area nan ≡ given Nothing
nan-nothing area a = reads_nothing area nan a (λ (k : ℕ) h l. not_below (row_in area k).low l.0)

pub infinity_nothing : (area : List ℕ) → Accepted area → (s : Bool) → classify_of area (inf s) ≡ given Nothing
infinity_nothing area a s =
    reads_nothing area (inf s) a (λ (k : ℕ) h l. let g = (a.rows k h).good in not_infinite s (row_in area k).low (row_in area k).high g.low_finite g.high_finite l.0 l.1)
