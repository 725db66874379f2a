-- Cards on which the answers are alike for some samples print as many lines alike, below the heading.
use Prim.Native.Nat.{ℕ, suc}
use mathlib.Core.Bool.{Bool, true, false}
use mathlib.Core.Path.{◌≡◌, refl}
use mathlib.Core.List.{List, flatten}
use lib.ListN.{take}
use Rattle.leaf.specs.Choosing.{pick}
use Rattle.leaf.specs.Answers.{given, refused}
use Rattle.card.specs.declared.Card.{Card}
use Rattle.card.specs.Reading.{card_in}
use Rattle.session.specs.declared.Sample.{Sample}
use Rattle.session.specs.Session.{fresh_session, open_session}
use Rattle.session.specs.Runs.{outcomes}
use Rattle.rides.specs.Recording.{good_recording, train_of, samples_of}
use Rattle.rides.specs.Ride.{start_ride, shown_from, whole_ride}
use Rattle.rides.proofs.Runs.{shown_until, shown_alike}
use Rattle.printed.specs.declared.Columns.{Columns}
use Rattle.printed.specs.Printed.{highest, printed_ride, ride_lines, printed_lines}
use Rattle.printed.proofs.Lines.{lines_alike, printed_lines_lem}
use Rattle.demands.specs.Demand3.{first_lines}
use Rattle.demands.proofs.Lines.{first_printed}

module _ (columns : Columns) (s t : Card) (recording : List ℕ) (k : ℕ) (allowed : Bool)
    (opens_s : open_session s (train_of recording) ≡ pick allowed (given (fresh_session s (train_of recording))) (refused 7))
    (opens_t : open_session t (train_of recording) ≡ pick allowed (given (fresh_session t (train_of recording))) (refused 7))
    (alike : take k (outcomes (fresh_session s (train_of recording)) (samples_of recording)) ≡ take k (outcomes (fresh_session t (train_of recording)) (samples_of recording))) where
  lines_same : take k (ride_lines columns (whole_ride s recording)) ≡ take k (ride_lines columns (whole_ride t recording))
  unfolding whole_ride start_ride
  lines_same = rw (opens_s, opens_t) (cases (good_recording recording) allowed)
    where
      xs : List Sample
      xs = samples_of recording

      cases : (good u : Bool)
          → take k (ride_lines columns (shown_from (pick good (pick u (given (fresh_session s (train_of recording))) (refused 7)) (refused 14)) xs))
          ≡ take k (ride_lines columns (shown_from (pick good (pick u (given (fresh_session t (train_of recording))) (refused 7)) (refused 14)) xs))
      cases true true = lines_alike columns k _ _ (shown_alike (fresh_session s (train_of recording)) (fresh_session t (train_of recording)) xs xs k alike)
      cases true false = refl
      cases false u = refl

  pub prints_alike : (a b : List ℕ) → card_in a highest ≡ given s → card_in b highest ≡ given t
      → first_lines (printed_ride columns a recording) (suc k) ≡ first_lines (printed_ride columns b recording) (suc k)
  unfolding printed_lines flatten
  prints_alike a b read_a read_b =
      rw (first_printed columns a recording (suc k), first_printed columns b recording (suc k), read_a, read_b, lines_same)

-- and where all of them are alike, the same text
module _ (columns : Columns) (s t : Card) (recording : List ℕ) (allowed : Bool)
    (opens_s : open_session s (train_of recording) ≡ pick allowed (given (fresh_session s (train_of recording))) (refused 7))
    (opens_t : open_session t (train_of recording) ≡ pick allowed (given (fresh_session t (train_of recording))) (refused 7))
    (same : outcomes (fresh_session s (train_of recording)) (samples_of recording) ≡ outcomes (fresh_session t (train_of recording)) (samples_of recording)) where
  whole_same : whole_ride s recording ≡ whole_ride t recording
  unfolding whole_ride start_ride
  whole_same = rw (opens_s, opens_t) (cases (good_recording recording) allowed)
    where
      xs : List Sample
      xs = samples_of recording

      cases : (good u : Bool)
          → shown_from (pick good (pick u (given (fresh_session s (train_of recording))) (refused 7)) (refused 14)) xs
          ≡ shown_from (pick good (pick u (given (fresh_session t (train_of recording))) (refused 7)) (refused 14)) xs
      cases true true = rw (shown_until (fresh_session s (train_of recording)) xs, shown_until (fresh_session t (train_of recording)) xs, same)
      cases true false = refl
      cases false u = refl

  pub prints_same : (a b : List ℕ) → card_in a highest ≡ given s → card_in b highest ≡ given t → printed_ride columns a recording ≡ printed_ride columns b recording
  unfolding printed_lines
  prints_same a b read_a read_b = rw (printed_lines_lem columns a recording, printed_lines_lem columns b recording, read_a, read_b, whole_same)
