-- How long a text can be.
use Prim.Native.Nat.{ℕ, zero, suc, ◌+◌, ◌/◌, ◌%◌, ◌≤◌}
use native.Mathlib.Omega.{arith}
use mathlib.Core.Bool.{Bool, true, false}
use mathlib.Core.List.{List, [], ◌∷◌}
use lib.Dec.{ltb, eqb, lit≤}
use lib.ListN.{length, length-append}
use Rattle.leaf.specs.Choosing.{pick}
use Rattle.text.specs.Decimal.{naught, digit_of, upper_of, lower_of, decimal, tenths, hundredths}
use Rattle.text.specs.Hex.{hex_of, pattern_of}
use Rattle.text.specs.Words.{bar, word_of}

digit_length : (power n : ℕ) → length (digit_of power n) ≤ 1
digit_length power n = cases (naught + n / power % 10) (ltb n power)
  where
    cases : (x : ℕ) (t : Bool) → length (pick t [] (x ∷ [])) ≤ 1
    cases x true = lit≤ tt
    cases x false = lit≤ tt

upper_length : (n : ℕ) → length (upper_of n) ≤ 5
unfolding upper_of
upper_length n =
    simp length-append
    (omega (arith, digit_length 1000000000 n, digit_length 100000000 n, digit_length 10000000 n, digit_length 1000000 n, digit_length 100000 n))

lower_length : (n : ℕ) → length (lower_of n) ≤ 5
unfolding lower_of
lower_length n = simp length-append (omega (arith, digit_length 10000 n, digit_length 1000 n, digit_length 100 n, digit_length 10 n))

pub decimal-length : (n : ℕ) → length (decimal n) ≤ 10
unfolding decimal
decimal-length n = simp length-append (omega (arith, upper_length n, lower_length n))

pub tenths-length : (n : ℕ) → length (tenths n) ≤ 21
unfolding tenths
tenths-length n = simp length-append (omega (arith, decimal-length (n / 10), decimal-length (n % 10)))

pub hundredths-length : (n : ℕ) → length (hundredths n) ≤ 31
unfolding hundredths
hundredths-length n = simp length-append (omega (arith, decimal-length (n / 100), decimal-length (n / 10 % 10), decimal-length (n % 10)))

pub hex_length : (b : ℕ) → length (hex_of b) ≤ 2
unfolding hex_of
hex_length b = lit≤ tt

pub pattern_length : (bits : ℕ) → length (pattern_of bits) ≤ 8
unfolding pattern_of
pattern_length bits =
    simp length-append
    (omega (arith, hex_length (bits / 16777216), hex_length (bits / 65536 % 256), hex_length (bits / 256 % 256), hex_length (bits % 256)))

-- a word is no longer than the list it stands in
pub word_length : (words : List ℕ) (k : ℕ) → length (word_of words k) ≤ length words
unfolding word_of
word_length [] k = lit≤ tt
word_length (b ∷ rest) zero = cases (eqb b bar) (word_length rest zero)
  where
    cases : (t : Bool) → length (word_of rest zero) ≤ length rest → length (pick t [] (b ∷ word_of rest zero)) ≤ suc (length rest)
    cases true h = omega arith
    cases false h = omega arith
word_length (b ∷ rest) (suc k) = let h = word_length rest (pick (eqb b bar) k (suc k)) in omega arith

-- of two texts one is chosen
pub pick-length : (t : Bool) (a b : List ℕ) (n : ℕ) → length a ≤ n → length b ≤ n → length (pick t a b) ≤ n
pick-length true a b n h k = h
pick-length false a b n h k = k
