-- A number's digits, power of ten by power of ten.
use Rattle.std.proofs.Common.{ℕ, List, [], ◌∷◌, ◌++◌, ◌+◌, ◌<◌, ◌≡◌, length, drop, append_assoc}
use Rattle.std.proofs.Math.ListN.{get_or}
use Rattle.std.proofs.lemmas.List.{drop_more}
use Rattle.text.specs.Decimal.{digit_of, unit_of, upper_of, lower_of, decimal}
use Rattle.text.specs.Typing.{Sheet, typed, typed_append}

-- the digits that stand for these powers of ten, and the last one
unfoldable pub digits_of : List ℕ → ℕ → List ℕ
digits_of [] n = unit_of n
digits_of (power ∷ rest) n = digit_of power n ++ digits_of rest n

pub all_digits : (n : ℕ) → digits_of (1000000000 ∷ 100000000 ∷ 10000000 ∷ 1000000 ∷ 100000 ∷ 10000 ∷ 1000 ∷ 100 ∷ 10 ∷ []) n ≡ decimal n
unfolding digits_of upper_of lower_of decimal
all_digits n = simp append_assoc

pub next_digit : (powers : List ℕ) (i n : ℕ) (s : Sheet) → i < length powers
    → typed (digits_of (drop i powers) n) s ≡ typed (digits_of (drop (i + 1) powers) n) (typed (digit_of (get_or powers i 0) n) s)
unfolding digits_of
next_digit powers i n s h = rw (drop_more powers i 0 h) (typed_append _ _ s)
