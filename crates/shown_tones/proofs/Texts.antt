-- What the text of a tone is where its sheet is refused; std's test of a finite number; a line a byte at a time; the first row that shares a
-- tone.
use Rattle.std.specs.Prelude.{ℕ, zero, suc, Option, Some, None, ◌+◌, ◌<◌, ◌≡◌, refl, Bool, true, false, not, ◌||◌, cond, List, [], ◌∷◌, ltb, count_by}
use Rattle.std.specs.Float.{float_is_finite}
use Rattle.std.specs.List.{list_all}
use Rattle.std.proofs.Common.{arith, add-one, sym, ◌∙◌}
use Rattle.std.proofs.lemmas.List.Sums.{sum_by-cons}
use native.Mathlib.Nat.{eq-or-lt_of_le, le_of_suc-le-suc}
use mathlib.Core.Logic.{inl, inr}
use lib.Dec.{eqb-suc-zero}
use lib.Ieee.{Float, nan, inf, fin}
use lib.Ieee.Scale.{finite}
use Rattle.leaf.specs.Choosing.{pick}
use Rattle.leaf.specs.Checks.{or_fault}
use Rattle.leaf.specs.Answers.{number_of, place_of, refused, refused_at, refusal_of}
use Rattle.leaf.specs.declared.refusal.Refusal.{Refusal}
use Rattle.leaf.proofs.ByNumber.{by_place}
use Rattle.text.specs.Hex.{hex_value}
use Rattle.tone.specs.Tones.{share}
use Rattle.tone.specs.Facts.{row_in}
use Rattle.shown_tones.specs.Shown.{bad_text, fault_text, sheet_text, answer_text, is_blank, bytes_in, only_digits, shared_by}

-- a refusal's text by its number and place
abbrev pub refused_text : List ℕ → ℕ → Option ℕ → List ℕ
refused_text area number None = bad_text number
refused_text area number (Some place) = fault_text area number place

pub sheet_refused : (area : List ℕ) (why : Refusal) → sheet_text area (refusal_of why) ≡ refused_text area (number_of why) (place_of why)
unfolding sheet_text
sheet_refused area why = by_place (sheet_text area) (refused_text area) (λ number. refl) (λ number place. refl) why

pub answer_refused : (area : List ℕ) (bits : ℕ) (why : Refusal) → answer_text area bits (refusal_of why) ≡ sheet_text area (refusal_of why)
unfolding answer_text sheet_text
answer_refused area bits why =
    by_place (answer_text area bits) (refused_text area) (λ number. refl) (λ number place. refl) why ∙ sym (sheet_refused area why)

-- the same of every number, also of one that no refusal has
pub answer_refused_any : (area : List ℕ) (bits : ℕ)
    → ((number : ℕ) → answer_text area bits (refused number) ≡ sheet_text area (refused number))
    × ((number place : ℕ) → answer_text area bits (refused_at number place) ≡ sheet_text area (refused_at number place))
unfolding answer_text sheet_text
answer_refused_any area bits = (λ number. refl, λ number place. refl)

-- std's test of a finite number is Ieee's
pub finite_is : (x : Float) → float_is_finite x ≡ finite x
unfolding float_is_finite
finite_is nan = refl
finite_is (inf s) = refl
finite_is (fin s m e) = refl

-- ---- a line, a byte at a time

abbrev pub is_digit : ℕ → Bool
is_digit b = is_blank b || ltb (hex_value b) 16

pub digits_all : (line : List ℕ) → list_all is_digit line ≡ only_digits line
unfolding only_digits
digits_all [] = refl
digits_all (b ∷ rest) = rw (← digits_all rest) refl

abbrev pub is_no_blank : ℕ → Bool
is_no_blank b = not (is_blank b)

pub bytes_counted : (line : List ℕ) → count_by is_no_blank line ≡ bytes_in line
unfolding bytes_in
bytes_counted [] = refl
bytes_counted (b ∷ rest) = rw (sum_by-cons (λ x. cond (is_no_blank x) 1 0) b rest) (go (is_blank b) (bytes_counted rest))
  where
    go : (blank : Bool) → count_by is_no_blank rest ≡ bytes_in rest → cond (not blank) 1 0 + count_by is_no_blank rest ≡ pick blank 0 1 + bytes_in rest
    go true e = omega (arith, e)
    go false e = omega (arith, e)

-- ---- the first row that shares a tone

-- a row that is found stays the first, however many are asked behind it
pub stays_first : (area : List ℕ) (k i n : ℕ) → shared_by area k i ≡ 0 → share (row_in area i) (row_in area k) ≡ true → i < n → shared_by area k n ≡ i + 1
unfolding shared_by or_fault
stays_first area k i zero none s h = absurd (omega arith)
stays_first area k i (suc n) none s h = elim (eq-or-lt_of_le (le_of_suc-le-suc h)) [
  | inl q ↦ rw (← q, none, s) (omega arith)
  | inr m ↦ let e = stays_first area k i n none s m in rw (e, add-one, eqb-suc-zero) refl
]

pub none_first : (area : List ℕ) (k i : ℕ) → shared_by area k i ≡ 0 → share (row_in area i) (row_in area k) ≡ false → shared_by area k (i + 1) ≡ 0
unfolding shared_by or_fault
none_first area k i none s = rw (add-one, none, s)
