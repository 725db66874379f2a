-- How long the text can be: a buffer of 660,040 bytes holds every one whole that is in numbers, one of 1,400,040 every one in words.
use Prim.Native.Nat.{ℕ, zero, suc, ◌+◌, ◌*◌, ◌≤◌}
use native.Mathlib.Nat.{mul-suc, le_trans, mul-le-mul_left, le-mul_of_pos_right}
use native.Mathlib.Omega.{arith}
use mathlib.Core.Path.{◌≡◌, refl}
use mathlib.Core.Bool.{Bool, true, false}
use mathlib.Core.List.{List}
use lib.Dec.{lit≤}
use lib.ListN.{length, length-append}
use Rattle.leaf.specs.Choosing.{pick}
use Rattle.leaf.specs.Answers.{Answer, given, refused, refused_at}
use Rattle.card.specs.declared.Card.{Card}
use Rattle.card.specs.Reading.{card_in}
use Rattle.session.specs.declared.Session.{Session}
use Rattle.session.specs.Session.{open_session}
use Rattle.session.specs.Why.{why_now}
use Rattle.text.proofs.Lengths.{decimal-length}
use Rattle.why_lines.proofs.Room.{why_length, words_length}
use Rattle.rides.specs.Recording.{samples_in, good_recording, train_of}
use Rattle.rides.specs.Ride.{start_ride, fresh_ride, ride_after, turn_at}
use Rattle.rides.specs.declared.ride.Ride.{Ride}
use Rattle.rides.specs.declared.ride.Shown.{Shown}
use Rattle.rides.specs.declared.ride.Shown.TheVariants as shown
use Rattle.rides.specs.declared.ride.Turned.{Turned}
use Rattle.rides.proofs.Recordings.{good_met}
use Rattle.printed.specs.Printed.{highest, refused_line, start_after, start_on}
use Rattle.printed_why.specs.PrintedWhy.{why_heading, telling_text, reason_text, why_lines_of, why_below, printed_why}
use Rattle.printed_why.specs.declared.Telling.{Telling}
use Rattle.printed_why.specs.declared.Telling.TheVariants.{Line, Words}

-- as many bytes as a line has at most
abbrev pub widest : Telling → ℕ
widest Line = 66
widest Words = 140

narrowest : (telling : Telling) → 66 ≤ widest telling
narrowest Line = lit≤ tt
narrowest Words = lit≤ tt

-- ---- a sample

refused_length : (n : ℕ) → length (refused_line n) ≤ 66
unfolding refused_line
refused_length n = simp length-append (omega (arith, decimal-length n))

telling-length : (telling : Telling) (number : ℕ) (before after : Session) → length (telling_text telling number before after) ≤ widest telling
unfolding telling_text
telling-length Line number before after = why_length number (why_now after)
telling-length Words number before after = words_length number before after

reason_length : (telling : Telling) (number : ℕ) (before after : Session) (sh : Shown) → length (reason_text telling number before after sh) ≤ widest telling
unfolding reason_text
reason_length telling number before after (shown.Answered a) = telling-length telling number before after
reason_length telling number before after (shown.Refused n) = omega (arith, refused_length n, narrowest telling)
reason_length telling number before after shown.Nothing = omega arith

-- ---- the whole text

module _ (telling : Telling) where
  lines_length : (r : Ride) (recording : List ℕ) (k : ℕ) → length (why_lines_of telling r recording k) ≤ widest telling * k
  unfolding why_lines_of
  lines_length r recording zero = omega arith
  lines_length r recording (suc k) =
      let t : Turned = turn_at (ride_after r recording k) recording k in
      let here = reason_length telling (suc k) (ride_after r recording k).session t.ride.session t.shown in
      let before = lines_length r recording k in
      simp (length-append, mul-suc) (omega arith)

  refused_fits : (n : ℕ) → length (refused_line n) ≤ widest telling * 10000
  refused_fits n = le_trans (le_trans (refused_length n) (narrowest telling)) (le-mul_of_pos_right (widest telling) (lit≤ tt))

  below_length : (recording : List ℕ) (read : Answer Card) → length (why_below telling recording (samples_in recording) (start_after read recording)) ≤ widest telling * 10000
  unfolding start_ride why_below
  below_length recording (given card) = cases (good_recording recording) refl (open_session card (train_of recording))
    where
      opened : samples_in recording ≤ 10000 → (a : Answer Session) → length (why_below telling recording (samples_in recording) a) ≤ widest telling * 10000
      opened few (given s) = le_trans (lines_length (fresh_ride s) recording (samples_in recording)) (mul-le-mul_left (widest telling) few)
      opened few (refused n) = refused_fits n
      opened few (refused_at n place) = refused_fits n

      cases : (t : Bool) → good_recording recording ≡ t → (a : Answer Session) → length (why_below telling recording (samples_in recording) (pick t a (refused 14))) ≤ widest telling * 10000
      cases true e a = opened (good_met recording e).few a
      cases false e a = refused_fits 14
  below_length recording (refused n) = refused_fits n
  below_length recording (refused_at n place) = refused_fits n

heading_length : (telling : Telling) → length (why_heading telling) ≤ 40
heading_length Line = lit≤ tt
heading_length Words = lit≤ tt

pub printed_why-length : (telling : Telling) (card recording : List ℕ) → length (printed_why telling card recording) ≤ widest telling * 10000 + 40
unfolding printed_why start_on
printed_why-length telling card recording =
    simp length-append (omega (arith, heading_length telling, below_length telling recording (card_in card highest)))

-- ---- the two rooms

pub numbers_length : (card recording : List ℕ) → length (printed_why Line card recording) ≤ 660040
numbers_length card recording = printed_why-length Line card recording

pub words_text_length : (card recording : List ℕ) → length (printed_why Words card recording) ≤ 1400040
words_text_length card recording = printed_why-length Words card recording
