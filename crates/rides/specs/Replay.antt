-- Document 02 d), "Yesterday's lesson, an hour at a time": "Teachers want long rides replayed with a stop anywhere." A part of a ride: so many
-- samples from a place on, run from a session that is handed in. Defined by the number of samples run, forward; a whole ride is the case of place 0.
use Rattle.std.specs.Prelude.{ℕ, zero, suc, ◌+◌, ◌-◌, min, List, [], ◌∷◌, Option, Some, None, Result, Ok, Err, eqb}
use Rattle.leaf.specs.Choosing.{pick}
use Rattle.leaf.specs.Checks.{Check, first_bad}
use Rattle.leaf.specs.Answers.{numbered_refusal}
use Rattle.leaf.specs.declared.refusal.Refusal.{Refusal}
use Rattle.step.specs.declared.Answer.{Answer}
use Rattle.session.specs.declared.Session.{Session}
use Rattle.session.specs.Session.{inside_of}
use Rattle.rides.specs.Recording.{good_recording, samples_in}
use Rattle.rides.specs.Ride.{fresh_ride, turn_at, ride_from}
use Rattle.rides.specs.declared.ride.Ride.{Ride}
use Rattle.rides.specs.declared.ride.Shown.{Shown}
use Rattle.rides.specs.declared.ride.Shown.TheVariants as shown
use Rattle.rides.specs.declared.replay.End.{End}
use Rattle.rides.specs.declared.replay.End.TheVariants as end
use Rattle.rides.specs.declared.replay.Replayed.{Replayed}

-- the answer that was last, where a sample ran
abbrev pub Last : Type 0
Last = Option Answer

-- ---- how far it goes

-- "The place is the number of samples before the first to run" (d1); "past the end none are left"
abbrev pub left_from : List ℕ → ℕ → ℕ
left_from recording place = samples_in recording - place

-- "the smaller of quota and samples left"
abbrev pub due_from : List ℕ → ℕ → ℕ → ℕ
due_from recording place quota = min quota (left_from recording place)

-- ---- "the last answer (none if no sample ran), the session and the number of samples run"

-- what the turn of the sample behind the first k shows
abbrev pub shown_next : Ride → List ℕ → ℕ → ℕ → Shown
shown_next r recording place k = (turn_at (ride_from r recording place k) recording (place + k)).shown

-- a sample that is answered is one step; one that is refused, or that comes behind a refused one, is none
abbrev pub step_of : Shown → ℕ
step_of (shown.Answered a) = 1
step_of (shown.Refused n) = 0
step_of shown.Nothing = 0

-- the number of samples run, of the first k from the place on: "the samples before the first refused one in the quota", or all
unfoldable pub steps_from : Ride → List ℕ → ℕ → ℕ → ℕ
steps_from r recording place zero = 0
steps_from r recording place (suc k) = steps_from r recording place k + step_of (shown_next r recording place k)

-- the answer that was last, and this one behind it
abbrev pub later_of : Last → Shown → Last
later_of before (shown.Answered a) = Some a
later_of before (shown.Refused n) = before
later_of before shown.Nothing = before

-- the last answer of the first k from the place on
unfoldable pub last_from : Ride → List ℕ → ℕ → ℕ → Last
last_from r recording place zero = None
last_from r recording place (suc k) = later_of (last_from r recording place k) (shown_next r recording place k)

-- "A refused sample gives its number, its position as a place (place + run), last answer or none, session before it, number run." (d4)
abbrev pub end_at : ℕ → ℕ → End
end_at ended position = pick (eqb ended 0) end.Unrefused (end.RefusedAt ended position)

-- what a ride has come to, of which so many samples ran from a place on
abbrev pub so_far : Ride → Last → ℕ → ℕ → Replayed
so_far r l place ran = record { session = r.session; last = l; ran = ran; end = end_at r.ended (place + ran) }

-- after k samples from the place on
unfoldable pub ran_from : Session → List ℕ → ℕ → ℕ → Replayed
ran_from s recording place k =
    so_far (ride_from (fresh_ride s) recording place k) (last_from (fresh_ride s) recording place k) place (steps_from (fresh_ride s) recording place k)

-- ---- a replay: "Refusals: 14, 8 even if none runs, then the sample's own, with its position and what ran before."

-- the recording or the session is refused: no sample runs
abbrev pub unrun_of : ℕ → Session → Replayed
unrun_of n s = record { session = s; last = None; ran = 0; end = end.Refused n }

-- 14 "recording not exactly as long as stated, ..", 8 "session out of its ranges", "also at quota 0 or past the end" (d3)
abbrev pub replay_checks : List ℕ → Session → List Check
replay_checks recording s = (14, good_recording recording) ∷ (8, inside_of s) ∷ []

-- the number of that refusal, 0 where there is none
unfoldable pub unrun_by : List ℕ → Session → ℕ
unrun_by recording s = first_bad 0 (replay_checks recording s)

-- nothing where the samples run, or that refusal
unfoldable pub judged_as : List ℕ → Session → Result Unit Refusal
judged_as recording s = pick (eqb (unrun_by recording s) 0) (Ok tt) (Err (numbered_refusal (unrun_by recording s)))

-- "Replay takes a ride, a place in it, a starting session and a quota of samples". "The session's train type rules": that of the recording is not
-- looked at (d2).
unfoldable pub replay_of : List ℕ → ℕ → Session → ℕ → Replayed
replay_of recording place s quota =
    pick (eqb (unrun_by recording s) 0) (ran_from s recording place (due_from recording place quota)) (unrun_of (unrun_by recording s) s)
