-- A ride: a session and its samples one after the other, until one is refused. Defined by the number of samples run, forward.
use Rattle.std.specs.Prelude.{ℕ, zero, suc, ◌+◌, List, [], ◌∷◌, ◌++◌, Ok, Err, eqb}
use Rattle.leaf.specs.Choosing.{pick}
use Rattle.leaf.specs.Answers.{Answer, given, refused, refused_at}
use Rattle.leaf.specs.Answers as answers
use Rattle.leaf.specs.declared.refusal.Refusal.{Refusal}
use Rattle.card.specs.declared.Card.{Card}
use Rattle.step.specs.declared.Answer.{Answer as Told}
use Rattle.session.specs.declared.Sample.{Sample}
use Rattle.session.specs.declared.Session.{Session}
use Rattle.session.specs.Session.{Outcome, open_session, sample_of, answer_to}
use Rattle.rides.specs.Recording.{good_recording, train_of, sample_at, samples_of}
use Rattle.rides.specs.declared.ride.Ride.{Ride}
use Rattle.rides.specs.declared.ride.Shown.{Shown}
use Rattle.rides.specs.declared.ride.Shown.TheVariants as shown
use Rattle.rides.specs.declared.ride.Turned.{Turned}

-- "a ride 14, 7, its samples": the recording judged, then the session opened with its train type; 02 g: the opening judges the card, "2, then 5"
unfoldable pub start_ride : Card → List ℕ → Answer Session
start_ride card recording = pick (good_recording recording) (open_session card (train_of recording)) (refused 14)

-- a ride before its first sample
abbrev pub fresh_ride : Session → Ride
fresh_ride s = record { session = s; ended = 0 }

-- a refusal's number, without its place
abbrev pub number_of : Refusal → ℕ
number_of why = answers.number_of why

-- ---- a turn: one more sample

-- "A refusal .. ends it."
unfoldable pub told_of : Session → Outcome → Turned
told_of s (Ok a) = record { ride = record { session = s; ended = 0 }; shown = shown.Answered a }
told_of s (Err why) = record { ride = record { session = s; ended = number_of why }; shown = shown.Refused (number_of why) }

-- what has ended stays as it is, and shows nothing more
unfoldable pub turn_of : Ride → Sample → Turned
turn_of r x =
    pick (eqb r.ended 0) (told_of (sample_of r.session x).session (sample_of r.session x).outcome)
    (record { ride = r; shown = shown.Nothing })

-- what each case of what a turn shows is on paper: an answer, a refusal's number, or nothing
abbrev pub shown_of : Shown → List (Answer Told)
shown_of (shown.Answered a) = given a ∷ []
shown_of (shown.Refused n) = refused n ∷ []
shown_of shown.Nothing = []

-- what a turn shows, on paper: what the sample is answered with, while the ride has not ended
unfoldable pub turn_shows : Ride → Sample → List (Answer Told)
turn_shows r x = pick (eqb r.ended 0) (answer_to r.session x ∷ []) []

-- the turn of the sample that k samples of the recording stand before
unfoldable pub turn_at : Ride → List ℕ → ℕ → Turned
turn_at r recording k = turn_of r (sample_at recording k)

-- the ride after k samples, the first of them the one that `place` samples of the recording stand before
unfoldable pub ride_from : Ride → List ℕ → ℕ → ℕ → Ride
ride_from r recording place zero = r
ride_from r recording place (suc k) = (turn_at (ride_from r recording place k) recording (place + k)).ride

-- the ride after its first k samples
abbrev pub ride_after : Ride → List ℕ → ℕ → Ride
ride_after r recording k = ride_from r recording 0 k

-- ---- the same over a list of samples

-- the ride after them
unfoldable pub run_of : Ride → List Sample → Ride
run_of r [] = r
run_of r (x ∷ xs) = run_of (turn_of r x).ride xs

-- what it shows of them, in order: an answer a sample, and the number of the first that is refused; nothing more
unfoldable pub shown_by : Ride → List Sample → List (Answer Told)
shown_by r [] = []
shown_by r (x ∷ xs) = turn_shows r x ++ shown_by (turn_of r x).ride xs

-- answers up to the first refusal, which is the last
unfoldable pub until_refused : List (Answer Told) → List (Answer Told)
until_refused [] = []
until_refused (given a ∷ rest) = given a ∷ until_refused rest
until_refused (refused n ∷ rest) = refused n ∷ []
until_refused (refused_at n place ∷ rest) = refused_at n place ∷ []

-- ---- a whole ride: "a ride 14, 7, its samples"

-- a session that was opened, or not, shows what it shows of the samples
abbrev pub shown_from : Answer Session → List Sample → Answer (List (Answer Told))
shown_from (given s) xs = given (shown_by (fresh_ride s) xs)
shown_from (refused n) xs = refused n
shown_from (refused_at n place) xs = refused_at n place

unfoldable pub whole_ride : Card → List ℕ → Answer (List (Answer Told))
whole_ride card recording = shown_from (start_ride card recording) (samples_of recording)
