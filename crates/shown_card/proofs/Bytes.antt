-- A listing, a byte at a time.
use Rattle.std.specs.Prelude.{ℕ, ◌≡◌, refl, List, [], ◌∷◌, ◌++◌}
use Rattle.text.specs.Decimal.{blank}
use Rattle.text.specs.Hex.{hex_of}
use Rattle.text.specs.Typing.{Sheet, typed, typed_append}
use Rattle.shown_card.specs.Shown.{hex_bytes}

pub byte_goes : (b : ℕ) (rest : List ℕ) (s : Sheet) → typed (hex_bytes (b ∷ rest)) s ≡ typed (hex_bytes rest) (typed ((blank ∷ []) ++ hex_of b) s)
unfolding hex_bytes
byte_goes b rest s = typed_append (blank ∷ hex_of b) (hex_bytes rest) s

pub bytes_end : (s : Sheet) → typed (hex_bytes []) s ≡ s
unfolding hex_bytes typed
bytes_end s = refl
