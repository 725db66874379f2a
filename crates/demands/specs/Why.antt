-- REQUEST f. Document 02 f), ""Why is it forty?"": "For any session and sample, a tool names which standing limit sets S (the first in the order vmax,
-- T, BTS speed, main, stop staying alongside, crossing, limit, where several are equal), its value and age (0 for the first three), and for a braked
-- desk the cause and how many samples ago the brake came on. The reason must be the true one: the named limit stands, equals S, and no limit earlier in
-- the order does. The session gains the age of the brake, stopping at 30,000. The printed ride may carry the reason, 1..7, as a fifth column when asked.
-- Refusals: as for the sample itself."
--
-- The look-up is defined in crate `step` (specs/Reason.antt), the brake's age in `desk` (specs/Brake.antt), what is told in `session` (specs/Why.antt).
-- Here it is said what it comes to: the limits in plain facts (step_laws, specs/Reason.antt), the brake's age from the samples alone. (f1 to f9 are 02's
-- readings.)
use Rattle.std.specs.Prelude.{ℕ, min, ◌≤◌, ◌<◌, Bool, true, false, List, [], ◌∷◌, ◌++◌, ◌≡◌, length, take, Ok, Err}
use Rattle.leaf.specs.Answers.{Answer, given, refused, refused_at, numbered_refusal}
use Rattle.card.specs.declared.Card.{Card}
use Rattle.card.specs.Card.{Same}
use Rattle.card.specs.Reading.{card_in}
use Rattle.card.specs.CardA.{card_a}
use Rattle.step.specs.declared.Answer.{Answer as Answered}
use Rattle.step.specs.declared.speed.Reason.{Reason}
use Rattle.step.specs.declared.speed.Reason.TheVariants as reason
use Rattle.step.specs.Reason.{reason_number}
use Rattle.session.specs.declared.Sample.{Sample}
use Rattle.session.specs.declared.Session.{Session}
use Rattle.session.specs.Session.{open_session, sample_of}
use Rattle.session.specs.Runs.{after}
use Rattle.step_laws.specs.Reason.{reason_place, Names}
use Rattle.laws.specs.Unanswered.{top_of}
use Rattle.session.specs.declared.Why.{Why}
use Rattle.session.specs.Why.{Told}
use Rattle.session.specs.declared.Asked.{Asked}
use Rattle.session.specs.Why.{why_now, asked_of}
use Rattle.printed.specs.Printed.{printed_as}
use Rattle.printed.specs.declared.Form.{Form}
use Rattle.printed_why.specs.PrintedWhy.{printed_why}
use Rattle.printed_why.specs.declared.Telling.{Telling}
use Rattle.demands.specs.Demand1.{Exactly, refusal_by, SampledAs}
use Rattle.demands.specs.Speaks.{until_speaks}
use Rattle.demands.specs.Demand3.{SameSpeaking, SameWithout}
use Rattle.demands.specs.Standing.{accepted_of, Braked}
use Rattle.demands.specs.Examples.{conv, bts, times, card_of_a, card_of_a_with}

-- ---- of a session and a sample

-- "The reason must be the true one": of the answer's S, in the session after the sample, with T of its train type; a reason by its place in the
-- order, in which the paired limits of 02 g come last: so "of equal ones the single is named"
abbrev pub Reasons : Session → ℕ → ℕ → ℕ → Type 0
Reasons t speed place age = Names t.card.settings (top_of t) t.desk speed place age

-- what is told beside an answer
pub record WhyMet (t : Session) (a : Answered) (w : Why) : Type 0 where
  -- "its value": "The value is S." (f1)
  pub value : w.speed ≡ a.speed
  -- "the named limit stands, equals S, and no limit earlier in the order does"; its age is that limit's
  pub true_one : Reasons t a.speed (reason_place w.reason) w.age
  -- "for a braked desk the cause", which the answer has, 0 for none,
  pub cause : w.cause ≡ a.cause
  -- "and how many samples ago the brake came on", which the session after the sample has
  pub since : w.since ≡ t.desk.brake.age

-- "Refusals: as for the sample itself.": what is refused is the sample, by its numbers in their order, and the session is as it was; else the next
-- session is beside answer and reason
pub data AskedAs (s : Session) (x : Sample) : Asked → Type 0 where
  refused_with : (n : ℕ) → SampledAs s x (refusal_by n s) → AskedAs s x (record { session = s; told = Err (numbered_refusal n) })
  reasoned : (t : Session) (a : Answered) (w : Why) → SampledAs s x (record { session = t; outcome = Ok a }) → WhyMet t a w
      → AskedAs s x (record { session = t; told = Ok (record { answer = a; why = w }) })

-- what is asked of a session and a sample
abbrev pub Asker : Type 0
Asker = Session → Sample → Asked

-- it tells exactly that, of every session and every sample
abbrev pub AsksExactly : Asker → Type 0
AsksExactly ask = (s : Session) (x : Sample) → Exactly (ask s x) (AskedAs s x)

-- ---- the age of the brake, from the samples

-- braked now, and after each of these samples
abbrev pub BrakedOn : Session → List Sample → Type 0
BrakedOn s [] = Braked s
BrakedOn s (x ∷ xs) = Braked s × BrakedOn (sample_of s x).session xs

-- of the accepted samples since opening, so many came behind the one at which the present braking began: before that one the desk was not
-- braked, with it and behind it it was
pub data BrakedFor (s : Session) (xs : List Sample) : ℕ → Type 0 where
  since : (before : List Sample) (at : Sample) (behind : List Sample) → accepted_of s xs ≡ before ++ (at ∷ behind)
      → (after s before).desk.brake.cause ≡ 0 → BrakedOn (sample_of (after s before) at).session behind → BrakedFor s xs (length behind)

-- what says how many samples ago the brake came on, over any samples from an opened session on
abbrev pub Since : Type 0
Since = Session → List Sample → ℕ

-- braked: "the lesser of 30,000 and the accepted samples since the one at which the present braking began"; not braked: 0
pub record Sinces (f : Since) : Type 0 where
  pub braked : (card : Card) (train : ℕ) (s : Session) (xs : List Sample) (n : ℕ) → open_session card train ≡ given s
      → BrakedFor s xs n → f s xs ≡ min 30000 n
  pub not_braked : (card : Card) (train : ℕ) (s : Session) (xs : List Sample) → open_session card train ≡ given s
      → (after s xs).desk.brake.cause ≡ 0 → f s xs ≡ 0

-- ---- what is told of a ride

-- of each of these samples
unfoldable pub asks : Session → List Sample → List Told
asks s [] = []
asks s (x ∷ xs) = (asked_of s x).told ∷ asks (asked_of s x).session xs

abbrev pub told_from : Answer Session → List Sample → Answer (List Told)
told_from (given s) xs = given (asks s xs)
told_from (refused n) xs = refused n
told_from (refused_at n place) xs = refused_at n place

-- of a card, a train type and a list of samples
abbrev pub told : Card → ℕ → List Sample → Answer (List Told)
told card train xs = told_from (open_session card train) xs

-- the first n of it
abbrev pub first_told : ℕ → Answer (List Told) → Answer (List Told)
first_told n (given ts) = given (take n ts)
first_told n (refused number) = refused number
first_told n (refused_at number place) = refused_at number place

-- ---- the request

pub record WhyLaws : Type 0 where
  -- 1. Of every session and every sample, exactly that is told, and nothing else is.
  pub asked : AsksExactly asked_of
  -- Its number is one of 1..7; "3 stands in BTS only" and 4 not under clear (f2) by what a limit is.
  pub numbered : (t : Session) (speed age : ℕ) (why : Reason) → Reasons t speed (reason_place why) age → (1 ≤ reason_number why) × (reason_number why ≤ 7)
  -- 2. How many samples ago the brake came on, after any list of samples, accepted or refused; and a braked desk has such a number.
  pub since : Sinces (λ s xs. (why_now (after s xs)).since)
  pub began : (card : Card) (train : ℕ) (s : Session) (xs : List Sample) → open_session card train ≡ given s
      → Braked (after s xs) → (n : ℕ) × BrakedFor s xs n
  -- "every session we make is inside", the brake's age included; one that is handed in with more is refused.
  pub age_inside : (card : Card) (train : ℕ) (s : Session) (xs : List Sample) → open_session card train ≡ given s
      → (after s xs).desk.brake.age ≤ 30000
  pub age_outside : (s : Session) (x : Sample) → 30000 < s.desk.brake.age → asked_of s x ≡ record { session = s; told = Err (numbered_refusal 8) }
  -- 3. "Old bytes stay silent": two areas with the same speaking bytes are read as the same card (`silent_bytes`), so that the same is told, and print
  -- the same, with the reason as a fifth column too, and the same reasons in numbers and in words.
  pub silent_column : (form : Form) (a b recording : List ℕ) → SameSpeaking a b → printed_as form a recording ≡ printed_as form b recording
  pub silent_why : (telling : Telling) (a b recording : List ℕ) → SameSpeaking a b → printed_why telling a recording ≡ printed_why telling b recording
  -- "version 1 answers like version 2 with all later functions off": the same is told of every list of samples,
  pub versions_told : (a b : List ℕ) (h g : ℕ) (s t : Card) → card_in a h ≡ given s → card_in b g ≡ given t → SameWithout a b
      → (train : ℕ) (xs : List Sample) → told s train xs ≡ told t train xs
  -- and of "two cards that differ only in later functions" "up to, not including, the first accepted sample at which a differing function speaks"
  pub functions_told : (a b : List ℕ) (h g : ℕ) (s t : Card) → card_in a h ≡ given s → card_in b g ≡ given t → Same a b 3 39
      → (train : ℕ) (xs : List Sample) → first_told (until_speaks s t train xs) (told s train xs) ≡ first_told (until_speaks s t train xs) (told t train xs)

-- ---- both sides of each line, type 6 where no other is said

-- the last of them alone
abbrev pub last_of : List Told → List Told
last_of [] = []
last_of (t ∷ []) = t ∷ []
last_of (t ∷ u ∷ rest) = last_of (u ∷ rest)

abbrev pub last_told : Answer (List Told) → Answer (List Told)
last_told (given ts) = given (last_of ts)
last_told (refused n) = refused n
last_told (refused_at n place) = refused_at n place

-- reason, S, its age, cause and how many samples ago; the answer's lamps, icon and limit
abbrev pub because : Reason → ℕ → ℕ → ℕ → ℕ → ℕ → ℕ → Bool → Told
because why speed age cause ago lamps icon limit =
    Ok
    (record {
      answer = record { speed = speed; lamps = lamps; cause = cause; icon = icon; limit = limit };
      why = record { reason = why; speed = speed; age = age; cause = cause; since = ago };
    })

-- card A with function 0, which a protected crossing needs; with 100 km/h as its limit row, as its start row has it; and with 60 km/h there
abbrev pub crossings : Card
crossings = card_of_a_with 100 1 card_a.limit

abbrev pub level : Card
level = card_of_a_with 100 0 (record { initial = 100; last = 100; delay = 0; drop = 1 })

abbrev pub low : Card
low = card_of_a_with 100 0 (record { initial = 60; last = 60; delay = 0; drop = 1 })

pub record WhyExamples : Type 0 where
  -- document 01's ride: "start 1 in the first sample" (f3)
  pub paper_ride : told card_of_a 6 (conv 0 0 0 ∷ conv 100 7 0 ∷ conv 100 0 16 ∷ [])
      ≡ given (because reason.Main 10000 1 0 0 0 0 false ∷ because reason.Main 8000 0 0 0 16 0 false ∷ because reason.Main 8000 1 0 0 0 0 false ∷ [])
  -- "where several are equal" the first: start and limit both at 100 km/h
  pub equal_ones : told level 6 (conv 50 10 0 ∷ []) ≡ given (because reason.Main 10000 1 0 0 64 0 true ∷ [])
  -- "vmax is named only when T = vmax" (f2): under clear, with T at vmax and below it
  pub clear_vmax : told card_of_a 6 (conv 0 3 0 ∷ []) ≡ given (because reason.Vmax 16000 0 0 0 0 0 false ∷ [])
  pub clear_train : told card_of_a 5 (conv 0 3 0 ∷ []) ≡ given (because reason.Train 14000 0 0 0 0 0 false ∷ [])
  -- entering and leaving BTS: 3, then "0 in the leaving one" (f3)
  pub through_bts : told card_of_a 6 (bts 0 0 0 ∷ conv 0 0 0 ∷ conv 0 0 0 ∷ [])
      ≡ given (because reason.Bts 8000 0 0 0 0 0 false ∷ because reason.Main 10000 0 0 0 0 0 false ∷ because reason.Main 10000 1 0 0 0 0 false ∷ [])
  -- "Alongside has its own age, 0 in the sample of the taking over (R27), not the stop's." (f4): 50/8, 50/3, 5 × 0 ends with 5 4000 5
  pub alongside_age : last_told (told card_of_a 6 (conv 50 8 0 ∷ conv 50 3 0 ∷ times 5 (conv 0 0 0) [])) ≡ given (because reason.Alongside 4000 5 4 6 0 0 false ∷ [])
  pub alongside_fresh : last_told (told card_of_a 6 (conv 50 8 0 ∷ conv 50 0 0 ∷ conv 50 3 0 ∷ [])) ≡ given (because reason.Alongside 4000 0 4 2 0 0 false ∷ [])
  -- "an answered 3 the 3's (R36): C 270, 270/3, 9×270, 270/0/32 is 6 15500 10" (f5)
  pub crossing_age : last_told (told crossings 6 (conv 270 0 0 ∷ conv 270 3 0 ∷ times 9 (conv 270 0 0) (conv 270 0 32 ∷ [])))
      ≡ given (because reason.Crossing 15500 10 0 0 0 1 false ∷ [])
  -- "Controls set by an answer, miss or displacement keep the reading's age": a 9 that a 10 displaces (f5)
  pub displaced_age : last_told (told card_of_a 6 (conv 0 3 0 ∷ conv 0 9 0 ∷ conv 0 0 0 ∷ conv 0 10 0 ∷ []))
      ≡ given (because reason.Crossing 15500 2 0 0 64 2 true ∷ [])
  -- "Limit: its row's age; repeat, steps, an answered 10 do not touch it." (f6)
  pub limit_age : last_told (told low 6 (conv 50 3 0 ∷ conv 50 10 0 ∷ conv 50 0 64 ∷ conv 50 11 0 ∷ [])) ≡ given (because reason.Limit 6000 2 0 0 64 0 true ∷ [])
  pub stepped_age : last_told (told low 6 (conv 50 3 0 ∷ conv 50 10 0 ∷ conv 50 0 64 ∷ conv 50 11 0 ∷ conv 50 0 256 ∷ []))
      ≡ given (because reason.Limit 8000 3 0 0 64 0 true ∷ [])
  -- "later causes do not restart it" (f7): 300, 0/8, 0 is cause 5, 2 ago
  pub later_cause : told card_of_a 6 (conv 300 0 0 ∷ conv 0 8 0 ∷ conv 0 0 0 ∷ [])
      ≡ given (because reason.Main 10000 1 5 0 0 0 false ∷ because reason.Main 4000 0 5 1 256 0 false ∷ because reason.Main 4000 1 5 2 256 0 false ∷ [])
  -- it "advances with the others" (f8), mode changes included: 0/8, then BTS, is cause 4, 1 ago
  pub mode_change : told card_of_a 6 (conv 0 8 0 ∷ bts 0 0 0 ∷ []) ≡ given (because reason.Main 4000 0 4 0 1280 0 false ∷ because reason.Bts 8000 0 4 1 1024 0 false ∷ [])
  -- "Unbraked, the rearm's sample included: 0, 0." (f7); the next braking begins at 0
  pub rearmed : told card_of_a 6 (conv 0 8 0 ∷ conv 0 0 0 ∷ conv 0 0 1024 ∷ conv 0 12 0 ∷ [])
      ≡ given (because reason.Main 4000 0 4 0 1280 0 false ∷ because reason.Main 4000 1 4 1 1280 0 false ∷ because reason.Main 4000 2 0 0 256 0 false ∷ because reason.Main 4000 3 6 0 3328 0 false ∷ [])
  -- a fresh cause in the rearm's sample: the brake stays on, and its age goes on
  pub not_rearmed : told card_of_a 6 (conv 0 8 0 ∷ conv 0 12 1024 ∷ [])
      ≡ given (because reason.Main 4000 0 4 0 1280 0 false ∷ because reason.Main 4000 1 4 1 3328 0 false ∷ [])
  -- "Refusals: as for the sample itself.": beacon 13 is 9, and the next sample finds the session as it was
  pub refused_between : told card_of_a 6 (conv 0 8 0 ∷ conv 0 13 0 ∷ conv 0 0 0 ∷ [])
      ≡ given (because reason.Main 4000 0 4 0 1280 0 false ∷ Err (numbered_refusal 9) ∷ because reason.Main 4000 1 4 1 1280 0 false ∷ [])
