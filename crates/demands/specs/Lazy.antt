-- Lazy programs, by name. Of each: a statement that reads much like ours and lets it pass, and that ours does not.
use Rattle.std.specs.Prelude.{ℕ, ◌+◌, ◌*◌, ◌-◌, min, ◌≤◌, ◌<◌, Bool, true, ◌&&◌, not, List, [], ◌∷◌, ◌++◌, map, ◌≡◌, eqb, length, take, None, Ok, Err}
use Rattle.leaf.specs.Choosing.{pick}
use Rattle.leaf.specs.Bytes.{byte}
use Rattle.leaf.specs.Checks.{Check, FirstFault}
use Rattle.leaf.specs.Answers.{Answer, given, refused, refused_at, is_given, refusal_of}
use Rattle.card.specs.declared.Card.{Card}
use Rattle.card.specs.declared.Settings.{Settings}
use Rattle.card.specs.Ranges.{checks_of, fault_of}
use Rattle.card.specs.Plain.{CardMet, WriteMet, ReadAs, WrittenAs}
use Rattle.card.specs.Reading.{settings_of, card_checks, read_card}
use Rattle.card.specs.Writing.{record_checks, write_card, written}
use Rattle.desk.specs.Brake.{stood_after}
use Rattle.step.specs.declared.Answer.{Answer as Told}
use Rattle.session.specs.declared.Sample.{Sample}
use Rattle.session.specs.declared.Session.{Session}
use Rattle.session.specs.declared.Sampled.{Sampled}
use Rattle.session.specs.Session.{Outcome}
use Rattle.session.specs.Session.{open_session, carried, stepped, sample_of, outcome_of}
use Rattle.session.specs.Runs.{outcomes, all_accepted}
use Rattle.rides.specs.Recording.{good_recording, RecordingMet, samples_in, train_of, place_of, first_samples, samples_of}
use Rattle.rides.specs.Ride.{fresh_ride, start_ride, shown_of, shown_by, whole_ride}
use Rattle.rides.specs.Replay.{due_from, replay_of}
use Rattle.rides.specs.declared.replay.End.TheVariants as end
use Rattle.receiver.specs.Receiver.{end_of}
use Rattle.receiver.specs.declared.Status.TheVariants as status
use Rattle.text.specs.Decimal.{newline}
use Rattle.printed.specs.Printed.{printed_ride}
use Rattle.laws.specs.Refusals.{Accepted}
use Rattle.demands.specs.Demand1.{Exactly, RiddenAs}
use Rattle.demands.specs.Demand3.{Printer, SilentPrint, VersionsPrint, FunctionsPrint}
use Rattle.demands.specs.Pieces.{after_bytes, shown_bytes, Going, AllBytes, as_shown, Due, PartAs}
use Rattle.demands.specs.ShutOut.{Logic, document01, Equals, OneSpeed, Repeats}
use Rattle.demands.specs.Standing.{StoodFor, Counter, Counts}
use Rattle.demands.specs.Quiet.{stepped_before, Arisen, Raiser, Raises}
use Rattle.step.specs.declared.speed.Standing.{Standing}
use Rattle.step.specs.Speed.{none, limits}
use Rattle.session.specs.declared.Reasoned.{Reasoned}
use Rattle.session.specs.Why.{Told as Asking}
use Rattle.session.specs.Why.{why_from, asked_of}
use Rattle.step_laws.specs.Reason.{reason_place, Limits}
use Rattle.laws.specs.Unanswered.{top_of}
use Rattle.demands.specs.Why.{Asker, AsksExactly}
use Rattle.demands.specs.Replay.{Replayer, ReplayedAs, ReplaysExactly, TwoQuotas, WholeRide}

-- ---- logics

-- what was given, changed
abbrev pub mapped : {A B : Type 0} → (A → B) → Answer A → Answer B
mapped f (given a) = given (f a)
mapped f (refused n) = refused n
mapped f (refused_at n place) = refused_at n place

-- whether a sample is accepted, and if not by what number it is refused
abbrev pub verdict : Outcome → Answer Unit
verdict (Ok a) = given tt
verdict (Err why) = refusal_of why

-- it refuses exactly as document 01 says
abbrev pub RefusesAlike : Logic → Type 0
RefusesAlike f = (card : Card) (train : ℕ) (xs : List Sample) → mapped (map verdict) (f card train xs) ≡ mapped (map verdict) (document01 card train xs)

-- one that refuses exactly as document 01 says, and answers 8000 to every accepted sample
abbrev pub at8000 : Outcome → Outcome
at8000 (Ok a) = Ok (record { speed = 8000; lamps = a.lamps; cause = a.cause; icon = a.icon; limit = a.limit })
at8000 (Err why) = Err why

abbrev pub eight_thousand : Logic
eight_thousand card train xs = mapped (map at8000) (document01 card train xs)

-- one that refuses exactly as document 01 says, and gives every later accepted sample the first answer
abbrev pub again : Told → List Outcome → List Outcome
again a [] = []
again a (Ok b ∷ rest) = Ok a ∷ again a rest
again a (Err why ∷ rest) = Err why ∷ again a rest

abbrev pub first_again : List Outcome → List Outcome
first_again [] = []
first_again (Ok a ∷ rest) = Ok a ∷ again a rest
first_again (Err why ∷ rest) = Err why ∷ first_again rest

abbrev pub repeater : Logic
repeater card train xs = mapped first_again (document01 card train xs)

-- They are of the kinds that are shut out, and so are not document 01's.
pub record LogicsOut : Type 0 where
  pub constant_refuses : RefusesAlike eight_thousand
  pub constant_is : OneSpeed eight_thousand
  pub constant_out : Equals eight_thousand → ⊥
  pub repeater_refuses : RefusesAlike repeater
  pub repeater_is : Repeats repeater
  pub repeater_out : Equals repeater → ⊥

-- Said of all samples, refused ones too, the kinds would not have them: the one speed would be a refused sample's as well, and the answer
-- to a refused sample would be repeated, or a refusal to an accepted one.
abbrev pub speed_told : Outcome → ℕ
speed_told (Ok a) = a.speed
speed_told (Err why) = 0

abbrev pub OneSpeedOfAll : (Session → Sample → Sampled) → Type 0
OneSpeedOfAll f = (speed : ℕ) × ((s : Session) (x : Sample) → speed_told (f s x).outcome ≡ speed)

abbrev pub RepeatsAll : (Session → Sample → Sampled) → Type 0
RepeatsAll f = (s : Session) (x y : Sample) → (f (f s x).session y).outcome ≡ (f s x).outcome

abbrev pub constantly : Session → Sample → Sampled
constantly s x = record { session = (sample_of s x).session; outcome = at8000 (sample_of s x).outcome }

pub record LogicsMissed : Type 0 where
  pub constant_missed : OneSpeedOfAll constantly → ⊥
  pub repeater_missed : (f : Session → Sample → Sampled) → ((s : Session) (x : Sample) → verdict (f s x).outcome ≡ verdict (sample_of s x).outcome) → RepeatsAll f → ⊥

-- ---- readers and writers

-- A statement of an answer: what meets the facts is given; a number, or a place beside 5, is that of a check that fails, and every check
-- before it holds.
pub record FirstGiven {A : Type 0} (Met : Type 0) (a : A) (checks places : List Check) (answer : Answer A) : Type 0 where
  pub met : Met → answer ≡ given a
  pub number : (n : ℕ) → answer ≡ refused n → FirstFault n checks
  pub place : (n at : ℕ) → answer ≡ refused_at n at → (n ≡ 5) × FirstFault at places

-- of every reader, and of every writer
abbrev pub ReaderFirst : (List ℕ → ℕ → Answer Settings) → Type 0
ReaderFirst read = (area : List ℕ) (highest : ℕ)
    → FirstGiven (CardMet area highest) (settings_of area) (card_checks area highest) (checks_of (byte area 2) (settings_of area)) (read area highest)

abbrev pub WriterFirst : (ℕ → Settings → ℕ → Answer Unit) → Type 0
WriterFirst write = (version : ℕ) (s : Settings) (room : ℕ)
    → FirstGiven (WriteMet version s room) written (record_checks version s room) (checks_of version s) (write version s room)

-- one that gives 5 without its place
abbrev pub bare : {A : Type 0} → Answer A → Answer A
bare (given a) = given a
bare (refused n) = refused n
bare (refused_at n at) = refused n

-- one that asks after the settings before anything else
abbrev pub eager : {A : Type 0} → ℕ → Answer A → Answer A
eager fault answer = pick (eqb fault 0) answer (refused_at 5 fault)

abbrev pub bare_reader : List ℕ → ℕ → Answer Settings
bare_reader area highest = bare (read_card area highest)

abbrev pub eager_reader : List ℕ → ℕ → Answer Settings
eager_reader area highest = eager (fault_of (byte area 2) (settings_of area)) (read_card area highest)

abbrev pub bare_writer : ℕ → Settings → ℕ → Answer Unit
bare_writer version s room = bare (write_card version s room)

abbrev pub eager_writer : ℕ → Settings → ℕ → Answer Unit
eager_writer version s room = eager (fault_of version s) (write_card version s room)

-- one that says done to everything
abbrev pub willing_writer : ℕ → Settings → ℕ → Answer Unit
willing_writer version s room = given written

-- what demand 1 says of ours, of any reader and any writer
abbrev pub ReadsExactly : (List ℕ → ℕ → Answer Settings) → Type 0
ReadsExactly read = (area : List ℕ) (highest : ℕ) → Exactly (read area highest) (ReadAs area highest)

abbrev pub WritesExactly : (ℕ → Settings → ℕ → Answer Unit) → Type 0
WritesExactly write = (version : ℕ) (s : Settings) (room : ℕ) → Exactly (write version s room) (WrittenAs version s room)

pub record CardsOut : Type 0 where
  pub bare_reader_passes : ReaderFirst bare_reader
  pub bare_reader_out : ReadsExactly bare_reader → ⊥
  pub eager_reader_passes : ReaderFirst eager_reader
  pub eager_reader_out : ReadsExactly eager_reader → ⊥
  pub bare_writer_passes : WriterFirst bare_writer
  pub bare_writer_out : WritesExactly bare_writer → ⊥
  pub eager_writer_passes : WriterFirst eager_writer
  pub eager_writer_out : WritesExactly eager_writer → ⊥
  pub willing_writer_passes : WriterFirst willing_writer
  pub willing_writer_out : WritesExactly willing_writer → ⊥

-- ---- rides

abbrev pub Rider : Type 0
Rider = Card → List ℕ → Answer (List (Answer Told))

-- A statement of a ride: a bad recording is 14, and what opening refuses is refused.
pub record Starts (ride : Rider) : Type 0 where
  pub bad : (card : Card) (recording : List ℕ) → ((n : ℕ) → RecordingMet recording n → ⊥) → ride card recording ≡ refused 14
  pub unopened : (card : Card) (recording : List ℕ) (n m : ℕ) → RecordingMet recording n → open_session card (train_of recording) ≡ refused m → ride card recording ≡ refused m

-- one that goes on after a sample that is refused
abbrev pub goes_on : Rider
goes_on card recording = mapped (λ u. map outcome_of (outcomes u (samples_of recording))) (start_ride card recording)

-- one of which a refused sample leaves nothing but its refusal
abbrev pub all_given : List (Answer Told) → Bool
all_given [] = true
all_given (a ∷ rest) = is_given a && all_given rest

abbrev pub wiped : List (Answer Told) → List (Answer Told)
wiped [] = []
wiped (a ∷ rest) = pick (is_given a && not (all_given rest)) (wiped rest) (a ∷ rest)

abbrev pub wipes : Rider
wipes card recording = mapped (λ u. wiped (shown_by (fresh_ride u) (samples_of recording))) (start_ride card recording)

-- what demand 1 says of ours, of any ride
abbrev pub RidesExactly : Rider → Type 0
RidesExactly ride = (card : Card) (recording : List ℕ) → Exactly (ride card recording) (RiddenAs card recording)

pub record RidesOut : Type 0 where
  pub on_passes : Starts goes_on
  pub on_out : RidesExactly goes_on → ⊥
  pub wipes_passes : Starts wipes
  pub wipes_out : RidesExactly wipes → ⊥

-- ---- lines

-- what receives: a card and the bytes that have come make what has been shown; and the announced end adds something
pub record Receives : Type 0 where
  pub shown : Card → List ℕ → List (Answer Told)
  pub at_the_end : Card → List ℕ → List (Answer Told)

-- A statement of a line: a good recording and then the end show what the whole ride shows.
abbrev pub ShowsWhole : Receives → Type 0
ShowsWhole f = (card : Card) (recording : List ℕ) → good_recording recording ≡ true → f.shown card recording ++ f.at_the_end card recording ≡ as_shown (whole_ride card recording)

-- What is said of ours, of any: after a beginning with k complete samples exactly their answers are out;
abbrev pub ShowsAtOnce : Receives → Type 0
ShowsAtOnce f = (card : Card) (bytes : List ℕ) (k j : ℕ) (u : Session) → length bytes ≡ 6 + 6 * k + j → j < 6 → Going card bytes
    → open_session card (train_of bytes) ≡ given u → f.shown card bytes ≡ map outcome_of (outcomes u (first_samples bytes k))

-- and 9 is shown as soon as every completion of a sample is refused 9.
abbrev pub RefusesAtOnce : Receives → Type 0
RefusesAtOnce f = (card : Card) (before part : List ℕ) → Due card before → length part ≤ 5 → AllBytes part
    → PartAs (after_bytes card before).session part (status.Refused 9) → f.shown card (before ++ part) ≡ f.shown card before ++ refused 9 ∷ []

abbrev pub ours : Receives
ours = record { shown = shown_bytes; at_the_end = λ card bytes. shown_of (end_of (after_bytes card bytes)).shown }

-- one that collects everything and runs it at the end
abbrev pub collects : Receives
collects = record { shown = λ card bytes. []; at_the_end = λ card bytes. as_shown (whole_ride card bytes) }

-- one that looks at a sample when its sixth byte is in
abbrev pub waits : Receives
waits = record { shown = λ card bytes. shown_bytes card (take (place_of (samples_in bytes)) bytes); at_the_end = ours.at_the_end }

pub record LinesOut : Type 0 where
  pub ours_passes : ShowsWhole ours × ShowsAtOnce ours × RefusesAtOnce ours
  pub collects_passes : ShowsWhole collects
  pub collects_out : ShowsAtOnce collects → ⊥
  pub waits_passes : ShowsWhole waits × ShowsAtOnce waits
  pub waits_out : RefusesAtOnce waits → ⊥

-- ---- counts of samples without pulses, 02 b

-- A statement of samples that are all accepted.
abbrev pub CountsAccepted : Counter → Type 0
CountsAccepted f = (card : Card) (train : ℕ) (s : Session) (xs : List Sample) (n : ℕ) → open_session card train ≡ given s
    → all_accepted s xs ≡ true → StoodFor xs n → f s xs ≡ min 30000 n

-- one that heeds refused samples as if they were accepted
abbrev pub counted_on : ℕ → List Sample → ℕ
counted_on n [] = n
counted_on n (x ∷ xs) = counted_on (stood_after x.pulses n) xs

abbrev pub heeds_refused : Counter
heeds_refused s xs = counted_on 10 xs

pub record CountsOut : Type 0 where
  pub heeds_passes : CountsAccepted heeds_refused
  pub heeds_out : Counts heeds_refused → ⊥

-- ---- causes of a quiet pickup, 02 c

-- A statement of samples whose code is another than that before, as if a 12 had to be read.
abbrev pub RaisesAtChange : Raiser → Type 0
RaisesAtChange f = (s : Session) (x : Sample) → Accepted s x → (x.beacon ≡ s.desk.code → ⊥)
    → Arisen (stepped_before s x).arose ((x.beacon ≡ 12) × (x.mode ≡ 1)) (f s x)

-- one that alarms only there
abbrev pub at_change : Raiser
at_change s x = pick (eqb x.beacon s.desk.code) (stepped_before s x).arose (stepped s (carried s x)).arose

pub record CausesOut : Type 0 where
  pub change_passes : RaisesAtChange at_change
  pub change_out : Raises at_change → ⊥

-- ---- replays, 02 d

-- one that runs nothing and refuses nothing: any two of its quotas give what one of their sum gives
abbrev pub idles : Replayer
idles recording place s quota = record { session = s; last = None; ran = 0; end = end.Unrefused }

-- one that starts at place 0, whatever the place: a whole quota from there is the ride
abbrev pub from_start : Replayer
from_start recording place s quota = replay_of recording 0 s quota

-- one that asks after the session only where a sample is due
abbrev pub looks_late : Replayer
looks_late recording place s quota = pick (eqb (due_from recording place quota) 0 && good_recording recording) (idles recording place s quota) (replay_of recording place s quota)

-- a statement of replays in which a sample is due
abbrev pub ReplaysDue : Replayer → Type 0
ReplaysDue replay = (recording : List ℕ) (n place : ℕ) (s : Session) (quota : ℕ) → RecordingMet recording n → 1 ≤ min quota (n - place)
    → Exactly (replay recording place s quota) (ReplayedAs recording place s quota)

pub record ReplaysOut : Type 0 where
  pub idles_passes : TwoQuotas idles
  pub idles_out : ReplaysExactly idles → ⊥
  pub start_passes : WholeRide from_start
  pub start_out : ReplaysExactly from_start → ⊥
  pub late_passes : ReplaysDue looks_late
  pub late_out : ReplaysExactly looks_late → ⊥

-- ---- reasons, 02 f

-- A statement of the named limit alone: it stands, and has the answer's S and the age that is told.
abbrev pub NamesStanding : Asker → Type 0
NamesStanding ask = (s : Session) (x : Sample) (r : Reasoned) → (ask s x).told ≡ Ok r → (let t = (ask s x).session in
    Limits t.card.settings (top_of t) t.desk (reason_place r.why.reason) r.answer.speed r.why.age)

-- the last of a list that stands and has this speed
abbrev pub last_at : ℕ → List Standing → Standing
last_at speed [] = none
last_at speed (l ∷ rest) = pick (last_at speed rest).stands (last_at speed rest) (pick (l.stands && eqb l.speed speed) l none)

abbrev pub last_named : Session → Asking → Asking
last_named t (Ok r) =
    Ok (record { answer = r.answer; why = why_from (last_at r.answer.speed (limits t.card.settings (top_of t) t.desk)) t.desk.brake })
last_named t (Err why) = Err why

-- one that names the last of equal ones
abbrev pub names_last : Asker
names_last s x = record { session = (asked_of s x).session; told = last_named (asked_of s x).session (asked_of s x).told }

pub record ReasonsOut : Type 0 where
  pub last_passes : NamesStanding names_last
  pub last_out : AsksExactly names_last → ⊥

-- ---- printers

-- one that prints the card's version below the ride: the same text for the same speaking bytes, and not for version 1 and 2
abbrev pub version_below : Printer
version_below columns card recording = printed_ride columns card recording ++ byte card 2 ∷ newline ∷ []

-- one that prints the functions of a version 2 card above it: the same again, and not for cards that differ in functions that have not spoken
abbrev pub functions_above : Printer
functions_above columns card recording = pick (eqb (byte card 2) 2) (byte card 39) 0 ∷ newline ∷ printed_ride columns card recording

pub record PrintersOut : Type 0 where
  pub version_passes : SilentPrint version_below
  pub version_out : VersionsPrint version_below → ⊥
  pub functions_passes : SilentPrint functions_above
  pub functions_out : FunctionsPrint functions_above → ⊥
