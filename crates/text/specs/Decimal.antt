-- Numbers as text, in ASCII: decimal digits, and a line of numbers.
use Rattle.std.specs.Prelude.{ℕ, ◌+◌, ◌/◌, ◌%◌, min, List, [], ◌∷◌, ◌++◌, ltb, length}
use Rattle.leaf.specs.Choosing.{pick}

abbrev pub newline : ℕ
newline = 0x0A

abbrev pub blank : ℕ
blank = 0x20

-- the digit 0, which the others follow
abbrev pub naught : ℕ
naught = 0x30

-- the digit that stands for a power of ten, where the number reaches it
abbrev pub digit_of : ℕ → ℕ → List ℕ
digit_of power n = pick (ltb n power) [] ((naught + n / power % 10) ∷ [])

-- the last digit, which stands always
abbrev pub unit_of : ℕ → List ℕ
unit_of n = (naught + n % 10) ∷ []

unfoldable pub upper_of : ℕ → List ℕ
upper_of n = digit_of 1000000000 n ++ digit_of 100000000 n ++ digit_of 10000000 n ++ digit_of 1000000 n ++ digit_of 100000 n

unfoldable pub lower_of : ℕ → List ℕ
lower_of n = digit_of 10000 n ++ digit_of 1000 n ++ digit_of 100 n ++ digit_of 10 n ++ unit_of n

-- a number below 10,000,000,000 in decimal, without leading zeros
unfoldable pub decimal : ℕ → List ℕ
decimal n = upper_of n ++ lower_of n

-- a number and what ends it
abbrev pub ended : ℕ → ℕ → List ℕ
ended n end = decimal n ++ end ∷ []

-- what stands before a number's decimals
abbrev pub point : ℕ
point = 0x2E

-- a number of tenths with its one decimal, and of hundredths with both
unfoldable pub tenths : ℕ → List ℕ
tenths n = ended (n / 10) point ++ decimal (n % 10)

unfoldable pub hundredths : ℕ → List ℕ
hundredths n = ended (n / 100) point ++ decimal (n / 10 % 10) ++ decimal (n % 10)

-- numbers separated by a blank, the last of them ended by a newline
abbrev pub line : ℕ → List ℕ → List ℕ
line n [] = ended n newline
line n (m ∷ rest) = ended n blank ++ line m rest

-- as many bytes of a file as a program looks at, and how many of an area it counts
abbrev pub MOST : ℕ
MOST = 65536

abbrev pub counted : List ℕ → ℕ
counted area = min (length area) MOST
