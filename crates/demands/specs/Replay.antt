-- REQUEST d. Document 02 d), "Yesterday's lesson, an hour at a time": "Teachers want long rides replayed with a stop anywhere. Replay takes a
-- ride, a place in it, a starting session and a quota of samples, and returns the last answer (none if no sample ran), the session and the
-- number of samples run, which equals the smaller of quota and samples left, or the samples before the first refused one in the quota. Two
-- quotas, the second from where an unrefused first ended, give what one of their sum gives, the first's answer standing if the second runs none.
-- The session's train type rules; past the end none are left. Refusals: 14, 8 even if none runs, then the sample's own, with its position and
-- what ran before."
--
-- A replay is defined in crate `rides` (specs/Replay.antt). Here it is said what it comes to, in demand 1's plain facts and over lists of
-- samples; of every place and quota, 0 and the greatest included. (d1 to d7 are 02's readings.)
use Rattle.std.specs.Prelude.{ℕ, suc, ◌+◌, ◌-◌, min, ◌≤◌, ◌<◌, true, false, List, [], ◌∷◌, ◌++◌, ◌⊎◌, ◌↔◌, ◌≡◌, Some, None, Ok}
use Rattle.leaf.specs.Choosing.{pick}
use Rattle.leaf.specs.Answers.{Answer, given, refused, refused_at}
use Rattle.card.specs.declared.Card.{Card}
use Rattle.sides.specs.declared.limit.Limit.{Limit}
use Rattle.desk.specs.State.{with_limit}
use Rattle.step.specs.declared.Answer.{Answer as Told}
use Rattle.session.specs.declared.Sample.{Sample}
use Rattle.session.specs.declared.Session.{Session}
use Rattle.session.specs.Session.{fresh_session, with_desk, open_session, sample_of}
use Rattle.session.specs.Runs.{accepted, after, all_accepted}
use Rattle.rides.specs.Recording.{RecordingMet, train_of, sample_at, samples_from, samples_of}
use Rattle.rides.specs.Ride.{fresh_ride, run_of, whole_ride}
use Rattle.rides.specs.Replay.{steps_from, replay_of}
use Rattle.rides.specs.Replay.{Last}
use Rattle.rides.specs.declared.replay.End.{End}
use Rattle.rides.specs.declared.replay.End.TheVariants as end
use Rattle.rides.specs.declared.replay.Replayed.{Replayed}
use Rattle.laws.specs.Ranges.{Inside}
use Rattle.demands.specs.Demand1.{Exactly, SampledAs, refusal_by}
use Rattle.demands.specs.Examples.{conv, card_of_a}

-- ---- samples accepted in turn

-- from session s, k samples of the recording from a place on are accepted in turn, each by the session that the one before it left; then the
-- session is the one that stands behind k, and behind that "the last answer (none if no sample ran)"
pub data InTurn (recording : List ℕ) (place : ℕ) (s : Session) : ℕ → Session → Last → Type 0 where
  none : InTurn recording place s 0 s None
  one_more : {k : ℕ} {before behind : Session} {l : Last} {a : Told} → InTurn recording place s k before l
      → SampledAs before (sample_at recording (place + k)) (record { session = behind; outcome = Ok a })
      → InTurn recording place s (suc k) behind (Some a)

-- how many samples of a list are accepted in turn before the first refused one, or the list's end
unfoldable pub accepted_run : Session → List Sample → ℕ
accepted_run s [] = 0
accepted_run s (x ∷ xs) = pick (accepted s x) (suc (accepted_run (sample_of s x).session xs)) 0

-- ---- what a replay is answered as

-- no sample ran, and the session is the one handed in
abbrev pub none_run : ℕ → Session → Replayed
none_run n s = record { session = s; last = None; ran = 0; end = end.Refused n }

pub data ReplayedAs (recording : List ℕ) (place : ℕ) (s : Session) (quota : ℕ) : Replayed → Type 0 where
  -- "recording not exactly as long as stated, length not 6 + 6n with n ≤ 10,000, or version not 1"
  refused_14 : ((n : ℕ) → RecordingMet recording n → ⊥) → ReplayedAs recording place s quota (none_run 14 s)
  -- "8 even if none runs": "session out of its ranges"
  refused_8 : {n : ℕ} → RecordingMet recording n → (Inside s → ⊥) → ReplayedAs recording place s quota (none_run 8 s)
  -- "the smaller of quota and samples left", "past the end none are left"
  unrefused : {n k : ℕ} {behind : Session} {l : Last} → RecordingMet recording n → Inside s → k ≡ min quota (n - place)
      → InTurn recording place s k behind l
      → ReplayedAs recording place s quota (record { session = behind; last = l; ran = k; end = end.Unrefused })
  -- "or the samples before the first refused one in the quota"; "the sample's own, with its position and what ran before"
  refused_sample : {n k m : ℕ} {before : Session} {l : Last} → RecordingMet recording n → Inside s → k < min quota (n - place)
      → InTurn recording place s k before l → SampledAs before (sample_at recording (place + k)) (refusal_by m before)
      → ReplayedAs recording place s quota (record { session = before; last = l; ran = k; end = end.RefusedAt m (place + k) })

-- ---- the same, question by question

-- the last answer of k samples from a place on: that of the last of them, by the session that those before it left
pub data LastAs (recording : List ℕ) (place : ℕ) (s : Session) : ℕ → Last → Type 0 where
  none : LastAs recording place s 0 None
  answered : {k : ℕ} {a : Told}
      → (sample_of (after s (samples_from recording place k)) (sample_at recording (place + k))).outcome ≡ Ok a
      → LastAs recording place s (suc k) (Some a)

-- what a replay that was not refused before any sample has run: as many samples as it says, each accepted in turn; session and last answer are
-- those after them
pub record Ran (recording : List ℕ) (place : ℕ) (s : Session) (r : Replayed) : Type 0 where
  pub accepted : all_accepted s (samples_from recording place r.ran) ≡ true
  pub session : r.session ≡ after s (samples_from recording place r.ran)
  pub answer : LastAs recording place s r.ran r.last

-- "with its position and what ran before"
pub record Stopped (recording : List ℕ) (place : ℕ) (r : Replayed) (due m position : ℕ) : Type 0 where
  pub behind : position ≡ place + r.ran
  pub within : r.ran < due
  -- the very session that is returned refuses that sample, and with that number
  pub by_it : sample_of r.session (sample_at recording position) ≡ refusal_by m r.session

-- ---- "Two quotas, the second from where an unrefused first ended"

-- "the first's answer standing if the second runs none"
abbrev pub standing : Last → Last → Last
standing l None = l
standing l (Some a) = Some a

-- one replay, and another behind it
abbrev pub joined : Replayed → Replayed → Replayed
joined a b = record { session = b.session; last = standing a.last b.last; ran = a.ran + b.ran; end = b.end }

-- what replays
abbrev pub Replayer : Type 0
Replayer = List ℕ → ℕ → Session → ℕ → Replayed

abbrev pub TwoQuotas : Replayer → Type 0
TwoQuotas replay = (recording : List ℕ) (place : ℕ) (s : Session) (first second : ℕ)
    → (let a = replay recording place s first in a.end ≡ end.Unrefused
    → replay recording place s (first + second) ≡ joined a (replay recording (place + a.ran) a.session second))

-- ---- a whole ride is a replay from place 0

-- of what a ride shows, answers and then the number that ended it, if one did: how many answers, the last of them, and the end, that of
-- samples from a place on
abbrev pub answers_in : List (Answer Told) → ℕ
answers_in [] = 0
answers_in (given a ∷ rest) = suc (answers_in rest)
answers_in (refused n ∷ rest) = answers_in rest
answers_in (refused_at n at ∷ rest) = answers_in rest

abbrev pub last_in : Last → List (Answer Told) → Last
last_in l [] = l
last_in l (given a ∷ rest) = last_in (Some a) rest
last_in l (refused n ∷ rest) = last_in l rest
last_in l (refused_at n at ∷ rest) = last_in l rest

abbrev pub end_in : ℕ → List (Answer Told) → End
end_in place [] = end.Unrefused
end_in place (given a ∷ rest) = end_in (suc place) rest
end_in place (refused n ∷ rest) = end.RefusedAt n place
end_in place (refused_at n at ∷ rest) = end.RefusedAt n place

abbrev pub as_shown : ℕ → Session → List (Answer Told) → Replayed
as_shown place s shown = record { session = s; last = last_in None shown; ran = answers_in shown; end = end_in place shown }

-- "A whole quota from place 0 on the opened session is the ride": every answer of it is counted, the last one given, and what ended it, ended it
abbrev pub WholeRide : Replayer → Type 0
WholeRide replay = (card : Card) (recording : List ℕ) (n : ℕ) (s : Session) (quota : ℕ) (shown : List (Answer Told))
    → RecordingMet recording n → open_session card (train_of recording) ≡ given s → n ≤ quota → whole_ride card recording ≡ given shown
    → replay recording 0 s quota ≡ as_shown 0 (run_of (fresh_ride s) (samples_of recording)).session shown

-- ---- what is looked at

-- two good recordings of as many samples agree on what is due: so many samples from the place on
pub record AlikeWhereDue (a b : List ℕ) (place quota : ℕ) : Type 0 where
  pub length : ℕ
  pub first : RecordingMet a length
  pub second : RecordingMet b length
  pub samples : (k : ℕ) → k < min quota (length - place) → sample_at a (place + k) ≡ sample_at b (place + k)

-- ---- the statements

abbrev pub ReplaysExactly : Replayer → Type 0
ReplaysExactly replay = (recording : List ℕ) (place : ℕ) (s : Session) (quota : ℕ) → Exactly (replay recording place s quota) (ReplayedAs recording place s quota)

pub record Replay : Type 0 where
  -- all of it: so no other function meets it
  pub replays : ReplaysExactly replay_of
  -- 1. 14 exactly when the recording is not good; else 8 exactly when the session is out of its ranges; at every place and quota (d3). There is no
  -- other bare number, and none of a sample's own is 8 or 14.
  pub refused_14 : (recording : List ℕ) (place : ℕ) (s : Session) (quota : ℕ)
      → (replay_of recording place s quota ≡ none_run 14 s) ↔ ((n : ℕ) → RecordingMet recording n → ⊥)
  pub refused_8 : (recording : List ℕ) (n place : ℕ) (s : Session) (quota : ℕ) → RecordingMet recording n
      → (replay_of recording place s quota ≡ none_run 8 s) ↔ (Inside s → ⊥)
  pub bare : (recording : List ℕ) (place : ℕ) (s : Session) (quota m : ℕ) → (replay_of recording place s quota).end ≡ end.Refused m
      → ((m ≡ 14) ⊎ (m ≡ 8)) × (replay_of recording place s quota ≡ none_run m s)
  pub sample_numbers : (recording : List ℕ) (place : ℕ) (s : Session) (quota m position : ℕ)
      → (replay_of recording place s quota).end ≡ end.RefusedAt m position → (9 ≤ m) × (m ≤ 11)
  -- 2. Unrefused exactly when every sample within quota and ride is accepted in turn; then the number run is the lesser of the quota and the
  -- samples left, 0 past the end.
  pub unrefused : (recording : List ℕ) (n place : ℕ) (s : Session) (quota : ℕ) → RecordingMet recording n → Inside s
      → ((replay_of recording place s quota).end ≡ end.Unrefused) ↔ (all_accepted s (samples_from recording place (min quota (n - place))) ≡ true)
  pub all_run : (recording : List ℕ) (n place : ℕ) (s : Session) (quota : ℕ) → RecordingMet recording n
      → (replay_of recording place s quota).end ≡ end.Unrefused → (replay_of recording place s quota).ran ≡ min quota (n - place)
  -- Refused or not, the number run is the definition's count of steps under the quota, which is the number of samples accepted in turn; session
  -- and last answer are those after them, none if none ran.
  pub counted : (recording : List ℕ) (n place : ℕ) (s : Session) (quota : ℕ) → RecordingMet recording n → Inside s
      → ((replay_of recording place s quota).ran ≡ steps_from (fresh_ride s) recording place (min quota (n - place)))
      × ((replay_of recording place s quota).ran ≡ accepted_run s (samples_from recording place (min quota (n - place))))
  pub ran : (recording : List ℕ) (n place : ℕ) (s : Session) (quota : ℕ) → RecordingMet recording n → Inside s
      → Ran recording place s (replay_of recording place s quota)
  -- 3. Refused with m at p: p is place + run, run is less than the lesser of quota and samples left, every sample from the place to the one before p
  -- was accepted in turn (`ran`), and sample p is refused with m by the very session returned; the last answer is that of the sample before p (`ran`).
  pub stopped : (recording : List ℕ) (n place : ℕ) (s : Session) (quota m position : ℕ) → RecordingMet recording n
      → (replay_of recording place s quota).end ≡ end.RefusedAt m position
      → Stopped recording place (replay_of recording place s quota) (min quota (n - place)) m position
  -- "The session's train type rules": nothing of a good recording counts but its samples that are due. So its type byte does not (d2), nor a sample
  -- behind the quota (d5), nor one before the place.
  pub only_due : (a b : List ℕ) (place : ℕ) (s : Session) (quota : ℕ) → AlikeWhereDue a b place quota → replay_of a place s quota ≡ replay_of b place s quota
  -- 4. Two quotas give what one of their sum gives: session, number run, refusal and position (d6), last answer. Nothing wraps (d7).
  pub two_quotas : TwoQuotas replay_of
  -- 5. A whole quota from place 0 on the opened session is the ride.
  pub whole : WholeRide replay_of

-- ---- both sides of each line, document 01's ride on card A

-- its head, with another train type byte, and three samples of which the second has another beacon
abbrev pub three_with : ℕ → ℕ → List ℕ
three_with train beacon =
    (0x00 ∷ 0x00 ∷ 0x00 ∷ 0x18 ∷ 0x01 ∷ train ∷ 0x00 ∷ 0x00 ∷ 0x00 ∷ 0x00 ∷ 0x00 ∷ 0x01 ∷ [])
    ++ (0x00 ∷ 0x64 ∷ beacon ∷ 0x00 ∷ 0x00 ∷ 0x01 ∷ 0x00 ∷ 0x64 ∷ 0x00 ∷ 0x00 ∷ 0x10 ∷ 0x01 ∷ [])

abbrev pub three : List ℕ
three = three_with 6 7

-- the session that card A opens for train type 6; and the same with 9 steps, out of range
abbrev pub opened : Session
opened = fresh_session card_of_a 6

abbrev nine_stepped : Limit
nine_stepped = record { on = false; age = 0; steps = 9; answered = false }

abbrev pub nine_steps : Session
nine_steps = with_desk (with_limit nine_stepped opened.desk) opened

-- no crossing, no limit
abbrev pub told : ℕ → ℕ → ℕ → Last
told speed lamps cause = Some (record { speed = speed; lamps = lamps; cause = cause; icon = 0; limit = false })

abbrev pub greatest : ℕ
greatest = 18446744073709551615

-- the session after those of its samples that are named
abbrev pub rode : List Sample → Session
rode xs = after opened xs

abbrev pub one : Sample
one = conv 0 0 0

abbrev pub two : Sample
two = conv 100 7 0

abbrev pub last_of_three : Sample
last_of_three = conv 100 0 16

abbrev pub replayed : Session → Last → ℕ → End → Replayed
replayed s l ran e = record { session = s; last = l; ran = ran; end = e }

pub record ReplayExamples : Type 0 where
  -- "The place is the number of samples before the first to run" (d1): place 1 runs the second sample, from the session handed in
  pub second_alone : replay_of three 1 opened 1 ≡ replayed (rode (two ∷ [])) (told 8000 16 0) 1 end.Unrefused
  -- the whole, and quotas around what is left; all of it has the press answered
  pub whole_ride_lem : replay_of three 0 opened 3 ≡ replayed (rode (one ∷ two ∷ last_of_three ∷ [])) (told 8000 0 0) 3 end.Unrefused
  pub one_short : replay_of three 0 opened 2 ≡ replayed (rode (one ∷ two ∷ [])) (told 8000 16 0) 2 end.Unrefused
  pub one_more : replay_of three 0 opened 4 ≡ replay_of three 0 opened 3
  pub greatest_quota : replay_of three 0 opened greatest ≡ replay_of three 0 opened 3
  pub rest : replay_of three 2 (rode (one ∷ two ∷ [])) greatest ≡ replayed (rode (one ∷ two ∷ last_of_three ∷ [])) (told 8000 0 0) 1 end.Unrefused
  -- "at n and beyond none are left, nothing is refused" (d1); quota 0
  pub at_the_end : replay_of three 3 opened 1 ≡ replayed opened None 0 end.Unrefused
  pub past_end : replay_of three 4 opened greatest ≡ replayed opened None 0 end.Unrefused
  pub far_past_end : replay_of three greatest opened greatest ≡ replayed opened None 0 end.Unrefused
  pub no_quota : replay_of three 0 opened 0 ≡ replayed opened None 0 end.Unrefused
  -- "The ride's type byte is not looked at, 0 or 99 included: no 7" (d2)
  pub type_99 : replay_of (three_with 99 7) 0 opened 3 ≡ replay_of three 0 opened 3
  pub type_0 : replay_of (three_with 0 7) 0 opened 3 ≡ replay_of three 0 opened 3
  -- beacon 13 in the second sample: what ran before it, its number and position (d4); just behind the quota it is not looked at (d5), nor before the place
  pub refused_second : replay_of (three_with 6 13) 0 opened 3 ≡ replayed (rode (one ∷ [])) (told 10000 0 0) 1 (end.RefusedAt 9 1)
  pub refused_first_due : replay_of (three_with 6 13) 1 opened 1 ≡ replayed opened None 0 (end.RefusedAt 9 1)
  pub behind_quota : replay_of (three_with 6 13) 0 opened 1 ≡ replayed (rode (one ∷ [])) (told 10000 0 0) 1 end.Unrefused
  pub before_place : replay_of (three_with 6 13) 2 opened 1 ≡ replayed (rode (last_of_three ∷ [])) (told 10000 0 0) 1 end.Unrefused
  -- "14, then 8, also at quota 0 or past the end, then 9, 10, 11" (d3)
  pub nine_steps_lem : replay_of three 0 nine_steps 0 ≡ none_run 8 nine_steps
  pub nine_steps_past : replay_of three greatest nine_steps 1 ≡ none_run 8 nine_steps
  pub nine_steps_13 : replay_of (three_with 6 13) 1 nine_steps 1 ≡ none_run 8 nine_steps
  pub fourteen_first : replay_of (0x00 ∷ three) 0 nine_steps 0 ≡ none_run 14 nine_steps
