-- Silent bytes: two areas, each at least as long as the record, with the same speaking bytes read alike, whatever else they hold.
use Prim.Native.Nat.{ℕ, ◌≤◌, ◌<◌}
use native.Mathlib.Omega.{arith}
use mathlib.Core.Path.{◌≡◌, refl, sym, ◌∙◌}
use mathlib.Core.Bool.{Bool, true, false, ◌||◌}
use mathlib.Core.List.{List}
use lib.Dec.{eqb, lit≤, lit<}
use lib.ListN.{length}
use borrow.Author.Tests.{le-leb, lt-leb, lt-ltb, eqb-true}
use Rattle.leaf.specs.Choosing.{pick}
use Rattle.leaf.specs.Bytes.{byte}
use Rattle.card.specs.Card.{base_kind, length_of, no_pairs, pairs_at, reminds, speaks, Same}
use Rattle.card.specs.Reading.{functions_from, pairs_from, settings_from, read_card, paper_of, card_in}
use Rattle.card.specs.declared.Settings.{Settings}
use Rattle.leaf.specs.declared.refusal.Refusal.{Refusal}
use Rattle.std.specs.Prelude.{Result}
use Rattle.card.proofs.Area.{length_low, length_later}
use Rattle.card.proofs.Determined.{paper_one}
use Rattle.card.proofs.Same.{same_word, same_pairs_lem, same_part, same_settings}

-- ---- which places speak

or_true : (b : Bool) → (b || true) ≡ true
or_true true = refl
or_true false = refl

-- every byte before the functions
first_speak : (v f i : ℕ) → i < 39 → speaks v f i ≡ true
unfolding speaks
first_speak v f i l =
    let inside : i < length_of v = omega (arith, length_low v) in
    let early : i < 40 = omega arith in
    rw (lt-ltb i (length_of v) inside, lt-leb 40 i early) (or_true (reminds f))

-- the functions, unless the version is 1
functions_speak : (v f : ℕ) → eqb v 1 ≡ false → speaks v f 39 ≡ true
unfolding speaks
functions_speak v f e =
    let inside : 39 < length_of v = omega (arith, length_later v e) in
    rw (lt-ltb 39 (length_of v) inside) (or_true (reminds f))

-- X and Y, where bit 2 is on
reminder_speaks : (v f i : ℕ) → eqb v 1 ≡ false → reminds f ≡ true → i < 44 → speaks v f i ≡ true
unfolding speaks
reminder_speaks v f i e on u =
    let inside : i < length_of v = omega (arith, length_later v e) in
    rw (lt-ltb i (length_of v) inside, on)

-- the pairs, where the version is 3, whatever bit 2 is
pairs_speak : (v f i : ℕ) → v ≡ 3 → 44 ≤ i → i < 49 → speaks v f i ≡ true
unfolding speaks
pairs_speak v f i three l u =
    let late : 43 < i = omega arith in
    let later : 40 ≤ i = omega arith in
    rw (three, lt-ltb i 49 u, le-leb 40 i later, lt-leb i 43 late) (or_true (reminds f))

-- the reminder is on only where the version is not 1
reminder_version : (v : ℕ) (area : List ℕ) → reminds (functions_from base_kind v area) ≡ true → (eqb v 1 ≡ false) × (reminds (byte area 39) ≡ true)
unfolding functions_from
reminder_version v area on = cases (eqb v 1) refl on
  where
    cases : (t : Bool) → eqb v 1 ≡ t → reminds (pick t 0 (byte area 39)) ≡ true → (eqb v 1 ≡ false) × (reminds (byte area 39) ≡ true)
    cases true e on = let z : ◌≡◌ {A = ℕ} 0 1 = cc in absurd (omega arith)
    cases false e on = (e, on)

-- ---- silence, of the definition

module _ (a b : List ℕ) (h : ℕ) (fits_a : length_of (byte a 2) ≤ length a) (fits_b : length_of (byte a 2) ≤ length b) (same : (i : ℕ) → speaks (byte a 2) (byte a 39) i ≡ true → byte a i ≡ byte b i) where
  front : Same a b 0 39
  front i l u = same i (first_speak _ _ i u)

  same_functions : functions_from base_kind (byte a 2) a ≡ functions_from base_kind (byte a 2) b
  unfolding functions_from
  same_functions = cases (eqb (byte a 2) 1) refl
    where
      cases : (t : Bool) → eqb (byte a 2) 1 ≡ t → pick t 0 (byte a 39) ≡ pick t 0 (byte b 39)
      cases true e = refl
      cases false e = same 39 (functions_speak _ _ e)

  back : reminds (functions_from base_kind (byte a 2) b) ≡ true → Same a b 40 44
  back on i l u =
      let r = reminder_version (byte a 2) a (rw same_functions on) in
      same i (reminder_speaks (byte a 2) (byte a 39) i r.0 r.1 u)

  same_behind : pairs_from base_kind (byte a 2) a ≡ pairs_from base_kind (byte a 2) b
  unfolding pairs_from
  same_behind = cases (eqb (byte a 2) 3) refl
    where
      cases : (t : Bool) → eqb (byte a 2) 3 ≡ t → pick t (pairs_at a 44) no_pairs ≡ pick t (pairs_at b 44) no_pairs
      cases true e = same_pairs_lem a b 44 (λ i l u. same i (pairs_speak _ _ i (eqb-true _ _ e) l u))
      cases false e = refl

  same_all : settings_from base_kind (byte a 2) a ≡ settings_from base_kind (byte a 2) b
  same_all = same_settings base_kind (byte a 2) (byte a 2) a b (same_part a b 0 39 3 39 front (lit≤ tt) (lit≤ tt)) same_functions back same_behind

  pub silence : read_card a h ≡ read_card b h
  unfolding read_card
  silence =
      let e = front 2 (lit≤ tt) (lit< tt) in
      let w = same_word a b 0 (same_part a b 0 39 0 2 front (lit≤ tt) (lit≤ tt)) in
      let a3 : 3 ≤ length a = omega (arith, length_low (byte a 2)) in
      let b3 : 3 ≤ length b = omega (arith, length_low (byte a 2)) in
      rw (same_all, w, le-leb _ _ a3, le-leb _ _ fits_a, ← e, le-leb _ _ b3, le-leb _ _ fits_b)

  -- and of any two results of the reader
  pub silence_results : (r t : Result Settings Refusal) → paper_of r ≡ read_card a h → paper_of t ≡ read_card b h → r ≡ t
  silence_results r t pr pt = paper_one r t (pr ∙ silence ∙ sym pt)

  -- so are the cards in them, which are of the same version
  pub card_silence : card_in a h ≡ card_in b h
  unfolding card_in
  card_silence = rw (front 2 (lit≤ tt) (lit< tt), silence)
