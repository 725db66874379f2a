-- Hexadecimal digits in ASCII: 0 to 9 from 0x30 on, a to f from 0x61, as a digit that is read also A to F from 0x41.
use Rattle.std.specs.Prelude.{ℕ, ◌+◌, ◌/◌, ◌%◌, ◌||◌, List, [], ◌∷◌, ◌++◌, ltb}
use Rattle.leaf.specs.Choosing.{pick}
use Rattle.leaf.specs.Numbers.{within}

-- the digit of a number below 16
abbrev pub glyph : ℕ → ℕ
glyph d = pick (ltb d 10) (0x30 + d) (0x57 + d)

-- a byte's two digits
unfoldable pub hex_of : ℕ → List ℕ
hex_of b = glyph (b / 16 % 16) ∷ glyph (b % 16) ∷ []

-- the eight digits of a bit pattern, four bytes high first
unfoldable pub pattern_of : ℕ → List ℕ
pattern_of bits = hex_of (bits / 16777216) ++ hex_of (bits / 65536 % 256) ++ hex_of (bits / 256 % 256) ++ hex_of (bits % 256)

-- the value of a digit, 16 for any other byte
unfoldable pub hex_value : ℕ → ℕ
hex_value b = pick (within 0x30 0x39 b) (b % 16) (pick (within 0x41 0x46 b || within 0x61 0x66 b) (b % 16 + 9) 16)
