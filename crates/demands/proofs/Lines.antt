-- A printed line ends with its only newline, so that the first lines of a text are its first lines, whatever follows.
use Prim.Native.Nat.{ℕ, zero, suc, ◌+◌, ◌/◌, ◌%◌}
use native.Mathlib.Omega.{arith}
use mathlib.Core.Bool.{Bool, true, false, not, ◌&&◌}
use mathlib.Core.List.{List, [], ◌∷◌, ◌++◌, append-nil, append_assoc, flatten}
use mathlib.Core.Path.{◌≡◌, refl, ap, ◌∙◌}
use lib.Dec.{ltb, eqb}
use lib.ListN.{length, take}
use borrow.Author.Tests.{ne_eqb, not-true}
use Rattle.leaf.specs.Choosing.{pick, and_split}
use Rattle.leaf.specs.Answers.{Answer, given, refused, refused_at}
use Rattle.card.specs.Reading.{card_in}
use Rattle.step.specs.declared.Answer.{Answer as Told}
use Rattle.text.specs.Decimal.{newline, blank, naught, digit_of, unit_of, upper_of, lower_of, decimal, line}
use Rattle.printed.specs.declared.Columns.{Columns}
use Rattle.printed.specs.declared.Columns.TheVariants.{Paper, Whole}
use Rattle.printed.specs.Printed.{paper_words, whole_words, refused_word, heading, refused_line, columns_of, highest, printed_ride, lines_from, ride_lines, ride_on, printed_lines}
use Rattle.printed.proofs.Lines.{printed_lines_lem}
use Rattle.demands.specs.Demand3.{first_lines}

-- no byte of the text ends a line
pub data Within : List ℕ → Type 0 where
  none : Within []
  more : {b : ℕ} {rest : List ℕ} → eqb b newline ≡ false → Within rest → Within (b ∷ rest)

both : {l r : List ℕ} → Within l → Within r → Within (l ++ r)
both none q = q
both (more e p) q = more e (both p q)

digit : (n : ℕ) → Within (unit_of n)
digit n = more (ne_eqb (naught + n % 10) newline (λ e. omega arith)) none

digits : (power n : ℕ) → Within (digit_of power n)
digits power n = cases (ltb n power)
  where
    cases : (t : Bool) → Within (pick t [] ((naught + n / power % 10) ∷ []))
    cases true = none
    cases false = digit (n / power)

number : (n : ℕ) → Within (decimal n)
unfolding decimal upper_of lower_of
number n =
    both (both (both (both (both (digits 1000000000 n) (digits 100000000 n)) (digits 10000000 n)) (digits 1000000 n)) (digits 100000 n))
    (both (both (both (both (digits 10000 n) (digits 1000 n)) (digits 100 n)) (digits 10 n)) (digit n))

-- a text in which no byte is a newline, by a test
free : List ℕ → Bool
free [] = true
free (b ∷ rest) = not (eqb b newline) && free rest

within-free : (l : List ℕ) → free l ≡ true → Within l
unfolding free
within-free [] h = none
within-free (b ∷ rest) h = let p = and_split (not (eqb b newline)) (free rest) h in more (not-true (eqb b newline) p.0) (within-free rest p.1)

-- a line: bytes that end none, and a newline
pub record IsLine (text : List ℕ) : Type 0 where
  pub front : List ℕ
  pub within : Within front
  pub is : text ≡ front ++ newline ∷ []

pub line_is : (n : ℕ) (columns : List ℕ) → IsLine (line n columns)
line_is n [] = record { front = decimal n; within = number n; is = refl }
line_is n (m ∷ rest) =
    let tail = line_is m rest in
    record {
      front = (decimal n ++ blank ∷ []) ++ tail.front;
      within = both (both (number n) (more refl none)) tail.within;
      is = ap (λ (l : List ℕ). (decimal n ++ blank ∷ []) ++ l) tail.is ∙ simp append_assoc;
    }

pub refused_is : (n : ℕ) → IsLine (refused_line n)
unfolding refused_line free
refused_is n =
    record {
      front = refused_word ++ decimal n;
      within = both (within-free refused_word refl) (number n);
      is = simp append_assoc;
    }

-- ---- the first lines

bytes_pass : (k : ℕ) (front rest : List ℕ) → Within front → first_lines (front ++ newline ∷ rest) (suc k) ≡ front ++ newline ∷ first_lines rest k
unfolding first_lines
bytes_pass k [] rest none = refl
bytes_pass k (b ∷ front) rest (more e w) = rw e (ap (λ (l : List ℕ). b ∷ l) (bytes_pass k front rest w))

-- one line more
pub line_passes : (k : ℕ) (text rest : List ℕ) → IsLine text → first_lines (text ++ rest) (suc k) ≡ text ++ first_lines rest k
line_passes k text rest l =
    rw (l.is, append_assoc l.front (newline ∷ []) rest, append_assoc l.front (newline ∷ []) (first_lines rest k)) (bytes_pass k l.front rest l.within)

none_first : (text : List ℕ) → first_lines text zero ≡ []
unfolding first_lines
none_first [] = refl
none_first (b ∷ rest) = refl

-- of a text that is so many lines
pub data AllLines : List (List ℕ) → Type 0 where
  none : AllLines []
  more : {l : List ℕ} {rest : List (List ℕ)} → IsLine l → AllLines rest → AllLines (l ∷ rest)

first_lines_lem : (n : ℕ) (ls : List (List ℕ)) → AllLines ls → first_lines (flatten ls) n ≡ flatten (take n ls)
unfolding flatten first_lines
first_lines_lem zero ls a = none_first (flatten ls)
first_lines_lem (suc n) [] none = refl
first_lines_lem (suc n) (l ∷ ls) (more is a) = line_passes n l (flatten ls) is ∙ ap (λ (t : List ℕ). l ++ t) (first_lines_lem n ls a)

-- ---- the printed ride

shown_lines : (columns : Columns) (n : ℕ) (l : List (Answer Told)) → AllLines (lines_from columns n l)
unfolding lines_from
shown_lines columns n [] = none
shown_lines columns n (given a ∷ rest) = more (line_is n (columns_of columns a)) (shown_lines columns (suc n) rest)
shown_lines columns n (refused m ∷ rest) = more (refused_is m) (shown_lines columns (suc n) rest)
shown_lines columns n (refused_at m place ∷ rest) = more (refused_is m) (shown_lines columns (suc n) rest)

ride_lines_lem : (columns : Columns) (a : Answer (List (Answer Told))) → AllLines (ride_lines columns a)
ride_lines_lem columns (given l) = shown_lines columns 1 l
ride_lines_lem columns (refused m) = more (refused_is m) none
ride_lines_lem columns (refused_at m place) = more (refused_is m) none

heading_is : (columns : Columns) → IsLine (heading columns)
unfolding free
heading_is Paper = record { front = paper_words; within = within-free paper_words refl; is = refl }
heading_is Whole = record { front = paper_words ++ whole_words; within = within-free (paper_words ++ whole_words) refl; is = refl }

-- the first lines of the text are the first of its lines
pub first_printed : (columns : Columns) (card recording : List ℕ) (n : ℕ)
    → first_lines (printed_ride columns card recording) n ≡ flatten (take n (printed_lines columns card recording))
unfolding printed_lines
first_printed columns card recording n =
    rw (printed_lines_lem columns card recording) (first_lines_lem n _ (more (heading_is columns) (ride_lines_lem columns (ride_on (card_in card highest) recording))))

-- ---- each line has its sample's number

none_before : (n : ℕ) → 0 + n ≡ n
none_before n = omega arith

shift : (k n : ℕ) → suc k + n ≡ k + suc n
shift k n = omega arith

-- of what is shown, numbered from n: one line more is that of the answer behind those before it
one_more : (columns : Columns) (n : ℕ) (before rest : List (Answer Told)) (a : Told)
    → take (suc (length before)) (lines_from columns n (before ++ given a ∷ rest))
    ≡ take (length before) (lines_from columns n (before ++ given a ∷ rest)) ++ line (length before + n) (columns_of columns a) ∷ []
unfolding lines_from
one_more columns n [] rest a = rw (none_before n)
one_more columns n (given x ∷ before) rest a = rw (one_more columns (suc n) before rest a, shift (length before) n)
one_more columns n (refused m ∷ before) rest a = rw (one_more columns (suc n) before rest a, shift (length before) n)
one_more columns n (refused_at m place ∷ before) rest a = rw (one_more columns (suc n) before rest a, shift (length before) n)

flatten_one : (ls : List (List ℕ)) (l : List ℕ) → flatten (ls ++ l ∷ []) ≡ flatten ls ++ l
unfolding flatten
flatten_one [] l = rw append-nil
flatten_one (m ∷ ls) l = rw (flatten_one ls l) (simp append_assoc)

pub numbered : (columns : Columns) (card recording : List ℕ) (before rest : List (Answer Told)) (a : Told)
    → ride_on (card_in card highest) recording ≡ given (before ++ given a ∷ rest)
    → (let k = suc (length before) in
    first_lines (printed_ride columns card recording) (suc k) ≡ first_lines (printed_ride columns card recording) k ++ line k (columns_of columns a))
unfolding printed_lines flatten
numbered columns card recording before rest a e =
    let k = length before in
    let shown = lines_from columns 1 (before ++ given a ∷ rest) in
    let more = one_more columns 1 before rest a in
    let number : k + 1 ≡ suc k = omega arith in
    rw (first_printed columns card recording (suc (suc k)), first_printed columns card recording (suc k), e, more, flatten_one (take k shown) (line (k + 1) (columns_of columns a)), number)
    (simp append_assoc)
