-- Silent bytes: two card areas, each at least as long as the record, with the same speaking bytes print the same ride,
-- and the same reasons.
use Prim.Native.Nat.{ℕ, ◌≤◌}
use mathlib.Core.Path.{◌≡◌}
use mathlib.Core.Bool.{true}
use mathlib.Core.List.{List}
use lib.ListN.{length}
use Rattle.leaf.specs.Bytes.{byte}
use Rattle.card.specs.Card.{length_of, speaks}
use Rattle.card.proofs.Silence.{card_silence}
use Rattle.printed.specs.Printed.{highest, printed_as}
use Rattle.printed.specs.declared.Form.{Form}

pub print_silence : (form : Form) (a b recording : List ℕ) → length_of (byte a 2) ≤ length a → length_of (byte a 2) ≤ length b
    → ((i : ℕ) → speaks (byte a 2) (byte a 39) i ≡ true → byte a i ≡ byte b i) → printed_as form a recording ≡ printed_as form b recording
unfolding printed_as
print_silence form a b recording fits_a fits_b same = rw (card_silence a b highest fits_a fits_b same)
