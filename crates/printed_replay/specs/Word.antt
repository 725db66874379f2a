-- A quota as a word: a decimal number in digits alone, of any size. Zeros before it count for nothing.
use Rattle.std.specs.Prelude.{ℕ, ◌+◌, ◌*◌, min, Bool, true, false, ◌&&◌, List, [], ◌∷◌, ltb, Option, Some, None}
use Rattle.leaf.specs.Choosing.{pick}
use Rattle.text.specs.Hex.{hex_value}

-- the greatest quota. "Place, quota and their sums never wrap." (d7): a number above it counts as it, and is the same quota, since no recording
-- has as many samples
abbrev pub most_quota : ℕ
most_quota = 18446744073709551615

abbrev pub is_digit : ℕ → Bool
is_digit b = ltb (hex_value b) 10

unfoldable pub all_digits : List ℕ → Bool
all_digits [] = true
all_digits (b ∷ word) = is_digit b && all_digits word

-- some byte, and digits alone
abbrev pub is_number : List ℕ → Bool
is_number [] = false
is_number (b ∷ word) = all_digits (b ∷ word)

-- the number that digits say behind a number
unfoldable pub value_behind : ℕ → List ℕ → ℕ
value_behind n [] = n
value_behind n (b ∷ word) = value_behind (n * 10 + hex_value b) word

abbrev pub value_of : List ℕ → ℕ
value_of word = value_behind 0 word

unfoldable pub quota_in : List ℕ → Option ℕ
quota_in word = pick (is_number word) (Some (min (value_of word) most_quota)) None
