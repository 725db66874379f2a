-- Document 01, "The sample": the session, its opening, and a sample with its refusals.
use Rattle.std.specs.Prelude.{ℕ, ◌*◌, Bool, ◌&&◌, ◌||◌, List, [], ◌∷◌, Result, Ok, Err, leb, eqb}
use Rattle.leaf.specs.Choosing.{pick}
use Rattle.leaf.specs.Numbers.{code_top, buttons_top}
use Rattle.leaf.specs.Checks.{Check, first_bad}
use Rattle.leaf.specs.Answers.{Answer, given, refused, refused_at, is_given, on_paper, numbered_refusal}
use Rattle.leaf.specs.declared.refusal.Refusal.{Refusal}
use Rattle.card.specs.declared.Card.{Card}
use Rattle.card.specs.Card.{known}
use Rattle.card.specs.Ranges.{check_settings}
use Rattle.desk.specs.declared.state.Desk.{Desk}
use Rattle.desk.specs.Brake.{standstill}
use Rattle.desk.specs.State.{fresh_desk}
use Rattle.desk.specs.Clock.{same_mode}
use Rattle.desk.specs.Ranges.{desk_inside}
use Rattle.step.specs.declared.Input.{Input}
use Rattle.step.specs.declared.Answer.{Answer as Told}
use Rattle.step.specs.declared.Stepped.{Stepped}
use Rattle.step.specs.Step.{step_of}
use Rattle.session.specs.Types.{type_speed, type_allowed}
use Rattle.session.specs.declared.Sample.{Sample}
use Rattle.session.specs.declared.Session.{Session}
use Rattle.session.specs.declared.Sampled.{Sampled}

-- what a sample is answered with
abbrev pub Outcome : Type 0
Outcome = Result Told Refusal

-- ---- a session

-- "It opens in CONV with the start row as main (age 1 in the first sample), last code 0."; 02 b: "a newly opened session counts as standing";
-- 02 g: "The session holds the version" (g5), beside the settings: a card has both
abbrev pub fresh_session : Card → ℕ → Session
fresh_session card train = record { card = card; train = train; desk = fresh_desk }

-- ---- a session with one member changed, all else as it was

abbrev pub with_card : Card → Session → Session
with_card card s = record { card = card; train = s.train; desk = s.desk }

abbrev pub with_desk : Desk → Session → Session
with_desk desk s = record { card = s.card; train = s.train; desk = desk }

-- ---- opening: document 01's "opening 5, 7" gives way to 02 g: "the opening now takes the version, and judges version and settings as the writer
-- does (2, then 5)": "2, 5, 7" (g4)

-- what each case of opening's answer is on paper
abbrev pub opened_of : Result Session Refusal → Answer Session
opened_of = on_paper

-- what each case of a card's judgement is on paper
abbrev pub judged_of : Result Unit Refusal → Answer Unit
judged_of = on_paper

-- the version judged, then the settings beside it
unfoldable pub judge_card : Card → Answer Unit
judge_card card = pick (known card.version) (check_settings card.version card.settings) (refused 2)

-- then the train type
abbrev pub opened_after : Answer Unit → Card → ℕ → Answer Session
opened_after (given u) card train = pick (type_allowed train card.settings.vmax) (given (fresh_session card train)) (refused 7)
opened_after (refused n) card train = refused n
opened_after (refused_at n place) card train = refused_at n place

unfoldable pub open_session : Card → ℕ → Answer Session
open_session card train = opened_after (judge_card card) card train

-- ---- the ranges: those of the desk, "and settings in range, and a train type that 7 allows"

-- 02 g: "8 judges settings beside it as the opening does" (g5), and the version
unfoldable pub card_inside : Card → Bool
card_inside card = is_given (judge_card card)

unfoldable pub inside_of : Session → Bool
inside_of s = card_inside s.card && type_allowed s.train s.card.settings.vmax && desk_inside s.desk

-- ---- a sample: "sample 8, 9, 10, 11"

-- "mode 1 CONV or 2 BTS"
abbrev pub in_bts : ℕ → Bool
in_bts mode = eqb mode 2

-- 9: "beacon, buttons or mode" are in range
abbrev pub codes_fit : Sample → Bool
codes_fit x = leb x.beacon code_top && leb x.buttons buttons_top && leb 1 x.mode && leb x.mode 2

-- 11: the mode is the session's, or the train is at standstill
abbrev pub mode_fits : Session → Sample → Bool
mode_fits s x = same_mode s.desk.bts (in_bts x.mode) || standstill x.pulses s.desk.brake

-- 8 "session out of its ranges", 9 "beacon, buttons or mode out of range", 02 c: "9 from code 13", 10 "pulses × tick length above 100,000",
-- 11 "mode changed", where document 01's "in a sample with pulses" gives way to 02 b: "11 now reads "while not at standstill""
abbrev pub sample_checks : Session → Sample → List Check
sample_checks s x =
    (8, inside_of s)
    ∷ (9, codes_fit x)
    ∷ (10, leb (x.pulses * s.card.settings.tick) 100000)
    ∷ (11, mode_fits s x)
    ∷ []

-- the number of the refusal, 0 where the sample is accepted
unfoldable pub refused_by : Session → Sample → ℕ
refused_by s x = first_bad 0 (sample_checks s x)

-- nothing where it is accepted, or that refusal
unfoldable pub accepted_as : Session → Sample → Result Unit Refusal
accepted_as s x = pick (eqb (refused_by s x) 0) (Ok tt) (Err (numbered_refusal (refused_by s x)))

-- "m = pulses × tick length is the speed in mm/s and the travel in tenths of a millimetre.": what the desk takes of an accepted sample
abbrev pub carried : Session → Sample → Input
carried s x =
    record {
      m = x.pulses * s.card.settings.tick;
      pulses = x.pulses;
      beacon = x.beacon;
      buttons = x.buttons;
      bts = in_bts x.mode;
    }

-- "The session is handed in and handed back with each sample's answer.": with the desk of its step
abbrev pub sampled_as : Session → Stepped → Sampled
sampled_as s e = record { session = with_desk e.desk s; outcome = Ok e.answer }

-- the step of the session's desk, T being that of its train type
abbrev pub stepped : Session → Input → Stepped
stepped s x = step_of s.card (type_speed s.train * 100) x s.desk

-- a sample that is run
unfoldable pub ran_of : Session → Sample → Sampled
ran_of s x = sampled_as s (stepped s (carried s x))

-- "A refusal returns its number .. and leaves .. the handed-in session unchanged."
unfoldable pub sample_of : Session → Sample → Sampled
sample_of s x =
    pick (eqb (refused_by s x) 0) (ran_of s x) (record { session = s; outcome = Err (numbered_refusal (refused_by s x)) })

-- ---- the same on paper

-- what each case of a sample's outcome is on paper
abbrev pub outcome_of : Outcome → Answer Told
outcome_of = on_paper

-- what a sample is answered with: the answer of its step, or the number of its refusal
unfoldable pub answer_to : Session → Sample → Answer Told
answer_to s x = pick (eqb (refused_by s x) 0) (given (stepped s (carried s x)).answer) (refused (refused_by s x))
