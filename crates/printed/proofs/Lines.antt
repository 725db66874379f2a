-- The printed ride line by line: its lines are those of what the ride shows, in order, so as far as two rides show the same they print the
-- same lines.
use Prim.Native.Nat.{ℕ, zero, suc, ◌+◌}
use native.Mathlib.Nat.{add-zero}
use native.Mathlib.Omega.{arith}
use mathlib.Core.Path.{◌≡◌, refl, sym, ◌∙◌}
use mathlib.Core.Bool.{Bool, true, false}
use mathlib.Core.List.{List, [], ◌∷◌, ◌++◌, append-nil, append_assoc, flatten}
use lib.Dec.{eqb}
use lib.ListN.{length, take, length-append}
use Rattle.leaf.specs.Answers.{Answer, given, refused, refused_at}
use Rattle.card.specs.declared.Card.{Card}
use Rattle.card.specs.Reading.{card_in}
use Rattle.step.specs.declared.Answer.{Answer as Told}
use Rattle.session.specs.declared.Session.{Session}
use Rattle.rides.specs.Recording.{samples_in, sample_at, samples_from, first_samples, samples_of}
use Rattle.rides.specs.Ride.{start_ride, fresh_ride, shown_of, turn_shows, turn_at, ride_after, shown_by, shown_from, whole_ride}
use Rattle.rides.specs.declared.ride.Ride.{Ride}
use Rattle.rides.specs.declared.ride.Shown.{Shown}
use Rattle.rides.specs.declared.ride.Shown.TheVariants as shown
use Rattle.rides.proofs.Runs.{turn_paper, recording_shows, after_suc, ended_shows, ended_turn}
use Rattle.printed.specs.Printed.{shown_text, turn_text, lines_of, started_text, card_text, highest, printed_as, printed_ride, lines_from, ride_lines, ride_on, printed_lines}
use Rattle.printed.specs.declared.Columns.{Columns}
use Rattle.printed.specs.declared.Form.TheVariants.{Answers}

-- ---- lines of a list, and of one list behind another

flatten_append : (a b : List (List ℕ)) → flatten (a ++ b) ≡ flatten a ++ flatten b
unfolding flatten
flatten_append [] b = refl
flatten_append (l ∷ a) b = rw (flatten_append a b) (sym (append_assoc l (flatten a) (flatten b)))

shift : (n k : ℕ) → n + suc k ≡ suc n + k
shift n k = omega arith

lines_append : (columns : Columns) (n : ℕ) (a b : List (Answer Told))
    → lines_from columns n (a ++ b) ≡ lines_from columns n a ++ lines_from columns (n + length a) b
unfolding lines_from
lines_append columns n [] b = rw add-zero
lines_append columns n (given x ∷ a) b = rw (shift n (length a), lines_append columns (suc n) a b)
lines_append columns n (refused m ∷ a) b = rw (shift n (length a), lines_append columns (suc n) a b)
lines_append columns n (refused_at m place ∷ a) b = rw (shift n (length a), lines_append columns (suc n) a b)

-- the first k of the lines are those of the first k shown
pub lines_take : (columns : Columns) (n k : ℕ) (a : List (Answer Told)) → take k (lines_from columns n a) ≡ lines_from columns n (take k a)
unfolding lines_from
lines_take columns n zero a = refl
lines_take columns n (suc k) [] = refl
lines_take columns n (suc k) (given x ∷ a) = rw (lines_take columns (suc n) k a)
lines_take columns n (suc k) (refused m ∷ a) = rw (lines_take columns (suc n) k a)
lines_take columns n (suc k) (refused_at m place ∷ a) = rw (lines_take columns (suc n) k a)

-- so as far as two rides show the same, they print the same
pub lines_alike : (columns : Columns) (k : ℕ) (a b : List (Answer Told)) → take k a ≡ take k b
    → take k (lines_from columns 1 a) ≡ take k (lines_from columns 1 b)
lines_alike columns k a b e = rw (lines_take columns 1 k a, lines_take columns 1 k b, e)

-- ---- a ride's lines are those of what it shows

-- a turn's text is that of what it shows
text_of : (columns : Columns) (n : ℕ) (sh : Shown) → flatten (lines_from columns n (shown_of sh)) ≡ shown_text columns n sh
unfolding flatten lines_from shown_text
text_of columns n (shown.Answered a) = rw append-nil
text_of columns n (shown.Refused m) = rw append-nil
text_of columns n shown.Nothing = refl

no_text : (columns : Columns) (n m : ℕ) → flatten (lines_from columns n (shown_of shown.Nothing)) ≡ shown_text columns m shown.Nothing
unfolding flatten lines_from shown_text
no_text columns n m = refl

-- before the first sample there is nothing
none_shown : (r : Ride) (recording : List ℕ) → shown_by r (first_samples recording zero) ≡ []
unfolding samples_from shown_by
none_shown r recording = refl

no_lines : (columns : Columns) → flatten (lines_from columns 1 []) ≡ []
unfolding flatten lines_from
no_lines columns = refl

-- a turn of a ride that goes on shows one answer
shows_one : (r : Ride) (recording : List ℕ) (k : ℕ) → eqb r.ended 0 ≡ true → length (shown_of (turn_at r recording k).shown) ≡ 1
unfolding turn_at turn_shows
shows_one r recording k e = rw (turn_paper r (sample_at recording k), e)

module _ (r : Ride) (recording : List ℕ) where
  going_before : (k : ℕ) → eqb (ride_after r recording (suc k)).ended 0 ≡ true → eqb (ride_after r recording k).ended 0 ≡ true
  going_before k h = cases (eqb (ride_after r recording k).ended 0) refl
    where
      cases : (t : Bool) → eqb (ride_after r recording k).ended 0 ≡ t → eqb (ride_after r recording k).ended 0 ≡ true
      cases true e = e
      cases false e =
          let same : ride_after r recording (suc k) ≡ ride_after r recording k = after_suc r recording k ∙ ended_turn (ride_after r recording k) recording k e in
          rw same at h

  -- so while it goes on, there is an answer for each sample,
  one_each : (k : ℕ) → eqb (ride_after r recording k).ended 0 ≡ true → length (shown_by r (first_samples recording k)) ≡ k
  one_each zero h = rw (none_shown r recording)
  one_each (suc k) h =
      let before = going_before k h in
      let so_far = one_each k before in
      let one = shows_one (ride_after r recording k) recording k before in
      rw (recording_shows r recording k, length-append) (omega arith)

  -- and the next one's number is the sample's
  next_text : (columns : Columns) (k : ℕ)
      → flatten (lines_from columns (1 + length (shown_by r (first_samples recording k))) (shown_of (turn_at (ride_after r recording k) recording k).shown))
      ≡ shown_text columns (suc k) (turn_at (ride_after r recording k) recording k).shown
  next_text columns k = cases (eqb (ride_after r recording k).ended 0) refl
    where
      number : ℕ
      number = 1 + length (shown_by r (first_samples recording k))

      sh : Shown
      sh = (turn_at (ride_after r recording k) recording k).shown

      cases : (t : Bool) → eqb (ride_after r recording k).ended 0 ≡ t → flatten (lines_from columns number (shown_of sh)) ≡ shown_text columns (suc k) sh
      cases true e =
          let each = one_each k e in
          let same : number ≡ suc k = omega arith in
          rw same (text_of columns (suc k) sh)
      cases false e = rw (ended_shows (ride_after r recording k) recording k e) (no_text columns number (suc k))

  pub lines_shown : (columns : Columns) (k : ℕ) → lines_of (Answers columns) r recording k ≡ flatten (lines_from columns 1 (shown_by r (first_samples recording k)))
  unfolding lines_of turn_text turn_at
  lines_shown columns zero = rw (none_shown r recording) (sym (no_lines columns))
  lines_shown columns (suc k) =
      rw (recording_shows r recording k, lines_append, flatten_append, next_text columns k, lines_shown columns k)

-- ---- the whole text

started_lines : (columns : Columns) (recording : List ℕ) (a : Answer Session)
    → started_text (Answers columns) recording (samples_in recording) a ≡ flatten (ride_lines columns (shown_from a (samples_of recording)))
unfolding started_text flatten
started_lines columns recording (given s) = lines_shown (fresh_ride s) recording columns (samples_in recording)
started_lines columns recording (refused m) = rw append-nil
started_lines columns recording (refused_at m place) = rw append-nil

card_lines_lem : (columns : Columns) (recording : List ℕ) (a : Answer Card)
    → card_text (Answers columns) recording (samples_in recording) a ≡ flatten (ride_lines columns (ride_on a recording))
unfolding card_text whole_ride flatten
card_lines_lem columns recording (given card) = started_lines columns recording (start_ride card recording)
card_lines_lem columns recording (refused m) = rw append-nil
card_lines_lem columns recording (refused_at m place) = rw append-nil

-- the printed ride is the heading and a line for each that the ride on this card shows, in order
pub printed_lines_lem : (columns : Columns) (card recording : List ℕ) → printed_ride columns card recording ≡ flatten (printed_lines columns card recording)
unfolding printed_ride printed_as printed_lines flatten
printed_lines_lem columns card recording = rw (card_lines_lem columns recording (card_in card highest))
