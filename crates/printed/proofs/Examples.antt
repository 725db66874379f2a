-- Document 01's ride on card A prints document 01's four lines.
use Prim.Native.Nat.{ℕ}
use mathlib.Core.Path.{◌≡◌, refl}
use mathlib.Core.List.{List, [], ◌∷◌, ◌++◌}
use Rattle.leaf.specs.Bytes.{long}
use Rattle.card.specs.CardA.{card_a_bytes}
use Rattle.text.specs.Decimal.{upper_of, lower_of, decimal}
use Rattle.rides.specs.Recording.{good_recording}
use Rattle.rides.specs.Ride.{start_ride, told_of, turn_of, turn_at, ride_from}
use Rattle.printed.specs.Printed.{heading, refused_line, shown_text, turn_text, lines_of, started_text, card_text, printed_as, printed_ride}
use Rattle.printed.specs.declared.Columns.TheVariants.{Paper}
use Rattle.printed.proofs.Computes.{answers}

-- "Ride `000000180106 000000000001 006407000001 006400001001`"
abbrev pub ride_a : List ℕ
ride_a =
    0x00 ∷ 0x00 ∷ 0x00 ∷ 0x18 ∷ 0x01 ∷ 0x06 ∷ 0x00 ∷ 0x00 ∷ 0x00 ∷ 0x00 ∷ 0x00 ∷ 0x01 ∷ 0x00 ∷ 0x64 ∷ 0x07 ∷ 0x00 ∷ 0x00 ∷ 0x01 ∷ 0x00 ∷
    0x64 ∷ 0x00 ∷ 0x00 ∷ 0x10 ∷ 0x01 ∷ []

-- "1 10000 0 0", "2 8000 16 0", "3 8000 0 0"
abbrev pub lines_a : List ℕ
lines_a =
    0x31 ∷ 0x20 ∷ 0x31 ∷ 0x30 ∷ 0x30 ∷ 0x30 ∷ 0x30 ∷ 0x20 ∷ 0x30 ∷ 0x20 ∷ 0x30 ∷ 0x0A ∷ 0x32 ∷ 0x20 ∷ 0x38 ∷ 0x30 ∷ 0x30 ∷ 0x30 ∷ 0x20 ∷
    0x31 ∷ 0x36 ∷ 0x20 ∷ 0x30 ∷ 0x0A ∷ 0x33 ∷ 0x20 ∷ 0x38 ∷ 0x30 ∷ 0x30 ∷ 0x30 ∷ 0x20 ∷ 0x30 ∷ 0x20 ∷ 0x30 ∷ 0x0A ∷ []

pub paper_ride : printed_ride Paper (card_a_bytes 0x27 0x01 0xA0) ride_a ≡ heading Paper ++ lines_a
unfolding answers refused_line shown_text turn_text lines_of started_text card_text printed_as printed_ride long upper_of lower_of decimal good_recording start_ride told_of turn_of turn_at ride_from
paper_ride = refl
