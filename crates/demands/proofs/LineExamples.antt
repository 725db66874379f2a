-- Both sides of each line of the serial line, computed; and the lines on which lazy receivers are seen.
use Prim.Native.Nat.{ℕ}
use mathlib.Core.List.{List, [], ◌∷◌, ◌++◌, map}
use mathlib.Core.Path.{◌≡◌, refl}
use lib.Dec.{lit<}
use lib.ListN.{length}
use Rattle.leaf.specs.Answers.{given}
use Rattle.leaf.specs.Bytes.{byte, long}
use Rattle.session.specs.declared.Session.{Session}
use Rattle.session.specs.Session.{fresh_session, open_session, outcome_of}
use Rattle.session.specs.Runs.{outcomes}
use Rattle.rides.specs.Recording.{train_of, samples_from, first_samples}
use Rattle.rides.specs.Ride.{told_of, turn_of}
use Rattle.receiver.specs.Receiver.{refused_with, head_fits, stated_with, opened_with, head_takes, part_fits, part_with, completed_by, sample_takes, open_takes, take_as, take_of, end_as, end_of, received_all, shown_all, received_pieces, shown_pieces}
use Rattle.receiver.specs.declared.Status.TheVariants.{Refused}
use Rattle.demands.specs.Examples.{card_of_a}
use Rattle.demands.specs.Pieces.{after_bytes, Going, Due, one, LineExamples}
use Rattle.demands.specs.Lazy.{waits}
use Rattle.demands.proofs.Computes.{definitions}

pub line_examples : LineExamples
unfolding definitions told_of turn_of refused_with head_fits stated_with opened_with head_takes part_fits part_with completed_by sample_takes open_takes take_as take_of end_as end_of received_all shown_all received_pieces shown_pieces
line_examples =
    record { good_heads = refl; bad_heads = refl; types = refl; parts = refl; modes = refl; ends = refl; cut_15 = refl; cut_15_9 = refl }

-- a ride of one sample, whole; and one whose buttons are out of range at their first byte
abbrev pub whole : List ℕ
whole = one (0x00 ∷ 0x01 ∷ 0x0C ∷ 0x07 ∷ 0xFF ∷ 0x01 ∷ [])

abbrev pub unfit : List ℕ
unfit = 0xFF ∷ 0xFF ∷ 0x0C ∷ 0x08 ∷ []

pub record Computed : Type 0 where
  pub opened : Session
  pub opens : open_session card_of_a (train_of whole) ≡ given opened
  pub going : Going card_of_a whole
  pub one_answer : length (map outcome_of (outcomes opened (first_samples whole 1))) ≡ 1
  pub due : Due card_of_a (one [])
  pub refused_9 : (after_bytes card_of_a (one [] ++ unfit)).status ≡ Refused 9
  pub waits_before : waits.shown card_of_a (one []) ≡ []
  pub waits_on : waits.shown card_of_a (one [] ++ unfit) ≡ []

pub computed : Computed
unfolding definitions byte long samples_from open_session told_of turn_of refused_with head_fits stated_with opened_with head_takes part_fits part_with completed_by sample_takes open_takes take_as take_of received_all shown_all
computed =
    record {
      opened = fresh_session card_of_a 6;
      opens = refl;
      going = refl;
      one_answer = refl;
      due = record { going = refl; between = (0, refl); due = lit< tt };
      refused_9 = refl;
      waits_before = refl;
      waits_on = refl;
    }
