-- How long a printed ride can be: a buffer of 660,040 bytes holds every one whole.
use Prim.Native.Nat.{ℕ, zero, suc, ◌*◌, ◌≤◌}
use native.Mathlib.Omega.{arith}
use mathlib.Core.Path.{◌≡◌, refl}
use mathlib.Core.Bool.{Bool, true, false}
use mathlib.Core.List.{List}
use lib.Dec.{lit≤}
use lib.ListN.{length, length-append}
use Rattle.leaf.specs.Choosing.{pick}
use Rattle.leaf.specs.Answers.{Answer, given, refused, refused_at}
use Rattle.card.specs.declared.Card.{Card}
use Rattle.card.specs.Reading.{card_in}
use Rattle.session.specs.declared.Session.{Session}
use Rattle.session.specs.Session.{open_session}
use Rattle.step.specs.declared.Answer.{Answer as Told}
use Rattle.step.specs.Reason.{reason_number}
use Rattle.step.specs.declared.speed.Reason.{Reason}
use Rattle.text.specs.Decimal.{line}
use Rattle.text.proofs.Lengths.{decimal-length}
use Rattle.rides.specs.Recording.{samples_in, good_recording, train_of}
use Rattle.rides.specs.Ride.{start_ride, fresh_ride, ride_after}
use Rattle.rides.specs.Why.{explained_at}
use Rattle.rides.specs.declared.ride.Ride.{Ride}
use Rattle.rides.specs.declared.ride.Shown.{Shown}
use Rattle.rides.specs.declared.ride.Shown.TheVariants as shown
use Rattle.rides.proofs.Recordings.{good_met}
use Rattle.printed.specs.Printed.{heading_of, highest, refused_line, columns_of, shown_text, reason_text, turn_text, lines_of, started_text, card_text, printed_as}
use Rattle.printed.specs.declared.Columns.{Columns}
use Rattle.printed.specs.declared.Columns.TheVariants.{Paper, Whole}
use Rattle.printed.specs.declared.Form.{Form}
use Rattle.printed.specs.declared.Form.TheVariants.{Answers, Reasons}

answer_length : (columns : Columns) (number : ℕ) (a : Told) → length (line number (columns_of columns a)) ≤ 66
answer_length Paper number a =
    simp length-append
    (omega (arith, decimal-length number, decimal-length a.speed, decimal-length a.lamps, decimal-length a.cause))
answer_length Whole number a =
    simp length-append
    (omega (arith, decimal-length number, decimal-length a.speed, decimal-length a.lamps, decimal-length a.cause, decimal-length a.icon, decimal-length (pick a.limit 1 0)))

pub refused_length : (n : ℕ) → length (refused_line n) ≤ 66
unfolding refused_line
refused_length n = simp length-append (omega (arith, decimal-length n))

pub shown_length : (columns : Columns) (number : ℕ) (s : Shown) → length (shown_text columns number s) ≤ 66
unfolding shown_text
shown_length columns number (shown.Answered a) = answer_length columns number a
shown_length columns number (shown.Refused n) = refused_length n
shown_length columns number shown.Nothing = lit≤ tt

-- ---- with the reason

reason_length : (number : ℕ) (sh : Shown) (why : Reason) → length (reason_text number sh why) ≤ 66
unfolding reason_text
reason_length number (shown.Answered a) why =
    simp length-append
    (omega (arith, decimal-length number, decimal-length a.speed, decimal-length a.lamps, decimal-length a.cause, decimal-length (reason_number why)))
reason_length number (shown.Refused n) why = refused_length n
reason_length number shown.Nothing why = lit≤ tt

turn_length : (form : Form) (number : ℕ) (sh : Shown) (why : Reason) → length (turn_text form number sh why) ≤ 66
unfolding turn_text
turn_length (Answers columns) number sh why = shown_length columns number sh
turn_length Reasons number sh why = reason_length number sh why

-- ---- the whole text

module _ (form : Form) where
  lines_length : (r : Ride) (recording : List ℕ) (k : ℕ) → length (lines_of form r recording k) ≤ 66 * k
  unfolding lines_of
  lines_length r recording zero = lit≤ tt
  lines_length r recording (suc k) =
      let turn = explained_at (ride_after r recording k) recording k in
      let here = turn_length form (suc k) turn.turned.shown turn.why.reason in
      let before = lines_length r recording k in
      simp length-append (omega arith)

  started_length : (card : Card) (recording : List ℕ) → length (started_text form recording (samples_in recording) (start_ride card recording)) ≤ 660000
  unfolding start_ride started_text
  started_length card recording = cases (good_recording recording) refl (open_session card (train_of recording))
    where
      opened : samples_in recording ≤ 10000 → (a : Answer Session) → length (started_text form recording (samples_in recording) a) ≤ 660000
      opened few (given s) = omega (arith, lines_length (fresh_ride s) recording (samples_in recording))
      opened few (refused n) = omega (arith, refused_length n)
      opened few (refused_at n place) = omega (arith, refused_length n)

      cases : (t : Bool) → good_recording recording ≡ t → (a : Answer Session) → length (started_text form recording (samples_in recording) (pick t a (refused 14))) ≤ 660000
      cases true e a = opened (good_met recording e).few a
      cases false e a = omega (arith, refused_length 14)

  card_length : (recording : List ℕ) (read : Answer Card) → length (card_text form recording (samples_in recording) read) ≤ 660000
  unfolding card_text
  card_length recording (given card) = started_length card recording
  card_length recording (refused n) = omega (arith, refused_length n)
  card_length recording (refused_at n place) = omega (arith, refused_length n)

heading_length : (form : Form) → length (heading_of form) ≤ 34
heading_length (Answers Paper) = lit≤ tt
heading_length (Answers Whole) = lit≤ tt
heading_length Reasons = lit≤ tt

pub printed_length : (form : Form) (card recording : List ℕ) → length (printed_as form card recording) ≤ 660040
unfolding printed_as
printed_length form card recording =
    simp length-append (omega (arith, heading_length form, card_length form recording (card_in card highest)))
