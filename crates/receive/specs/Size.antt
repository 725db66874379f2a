-- SIZE, the program's second argument: a decimal number from 1 to 4096, in digits alone. Zeros before it count for nothing.
use Rattle.std.specs.Prelude.{ℕ, ◌+◌, ◌*◌, ◌&&◌, List, [], ◌∷◌, ltb}
use Rattle.leaf.specs.Choosing.{pick}
use Rattle.text.specs.Hex.{hex_value}

-- stands for a number above 4096, and for a word that is no number
abbrev pub no_size : ℕ
no_size = 4097

-- a number with one more digit behind it; of `no_size` and of what is no decimal digit there is none
abbrev pub next_size : ℕ → ℕ → ℕ
next_size n b = pick (ltb (hex_value b) 10 && ltb (n * 10 + hex_value b) no_size) (n * 10 + hex_value b) no_size

-- the digits of a word behind a number
unfoldable pub size_behind : ℕ → List ℕ → ℕ
size_behind n [] = n
size_behind n (b ∷ word) = size_behind (next_size n b) word

-- 0 where the word is none
unfoldable pub size_in : List ℕ → ℕ
size_in word = pick (ltb (size_behind 0 word) no_size) (size_behind 0 word) 0
