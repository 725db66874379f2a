-- Silent bytes: two card areas, each at least as long as the record, with the same speaking bytes print the same reasons.
use Prim.Native.Nat.{ℕ, ◌≤◌}
use mathlib.Core.Path.{◌≡◌}
use mathlib.Core.Bool.{true}
use mathlib.Core.List.{List}
use lib.ListN.{length}
use Rattle.leaf.specs.Bytes.{byte}
use Rattle.card.specs.Card.{length_of, speaks}
use Rattle.card.proofs.Silence.{card_silence}
use Rattle.printed.specs.Printed.{highest, start_on}
use Rattle.printed_why.specs.PrintedWhy.{printed_why}
use Rattle.printed_why.specs.declared.Telling.{Telling}

pub why_silence : (telling : Telling) (a b recording : List ℕ) → length_of (byte a 2) ≤ length a → length_of (byte a 2) ≤ length b
    → ((i : ℕ) → speaks (byte a 2) (byte a 39) i ≡ true → byte a i ≡ byte b i) → printed_why telling a recording ≡ printed_why telling b recording
unfolding printed_why start_on
why_silence telling a b recording fits_a fits_b same = rw (card_silence a b highest fits_a fits_b same)
