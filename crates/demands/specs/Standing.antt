-- REQUEST b. Document 02 b), "Crawling is not standing": "With a ten-centimetre tick a train at 1 km/h has samples without pulses, and pupils
-- rearm while rolling. Document 01 is wrong: standstill is ten accepted samples running without pulses, this one included; a newly opened
-- session counts as standing. Rearm, its lamp and the mode change all use it. The session gains a count. Refusals: 11 now reads "while not at
-- standstill"."
--
-- Count and standstill are defined in crate `desk` (specs/Brake.antt). Here it is said what the count is, from the samples alone, and what
-- standstill comes to, in plain facts. (b1 to b8 are 02's readings.)
use Rattle.std.specs.Prelude.{ℕ, ◌+◌, ◌*◌, ◌^◌, min, ◌≤◌, ◌<◌, Bool, true, false, List, [], ◌∷◌, ◌++◌, ◌↔◌, ◌≡◌, length, Ok, Err}
use Rattle.leaf.specs.Answers.{Answer, given, numbered_refusal}
use Rattle.leaf.specs.Numbers.{bit_of}
use Rattle.leaf.specs.Buttons.{rearm_button}
use Rattle.card.specs.declared.Card.{Card}
use Rattle.desk.specs.declared.brake.Brake.{Brake}
use Rattle.desk.specs.State.{with_brake}
use Rattle.step.specs.declared.Answer.{Answer as Told}
use Rattle.session.specs.declared.Sample.{Sample}
use Rattle.session.specs.declared.Session.{Session}
use Rattle.session.specs.Session.{Outcome}
use Rattle.session.specs.Session.{with_desk, open_session, carried, stepped, sample_of}
use Rattle.session.specs.Runs.{accepted, after}
use Rattle.step_laws.specs.Brake.{AtStandstill}
use Rattle.laws.specs.Ranges.{Inside}
use Rattle.laws.specs.Refusals.{CodesMet, mode_of, Accepted}
use Rattle.demands.specs.Demand1.{refusal_by}
use Rattle.demands.specs.Runs.{run_from}
use Rattle.demands.specs.Examples.{conv, bts, times, shows, repeated, card_of_a}

-- ---- the count, from the samples

-- x before others, or they alone
abbrev pub kept_if : Bool → Sample → List Sample → List Sample
kept_if true x xs = x ∷ xs
kept_if false x xs = xs

-- "accepted samples": of a list those that are accepted, in their order, each by the session that the ones before it left
unfoldable pub accepted_of : Session → List Sample → List Sample
accepted_of s [] = []
accepted_of s (x ∷ xs) = kept_if (accepted s x) x (accepted_of (sample_of s x).session xs)

-- "without pulses": each of them
abbrev pub NoPulses : List Sample → Type 0
NoPulses [] = Unit
NoPulses (x ∷ xs) = (x.pulses ≡ 0) × NoPulses xs

-- how many samples running, at the end of a list that begins with the opening, are without pulses
pub data StoodFor (xs : List Sample) : ℕ → Type 0 where
  -- those behind the last one with pulses
  since : (before : List Sample) (last : Sample) (behind : List Sample)
      → xs ≡ before ++ (last ∷ behind) → 1 ≤ last.pulses → NoPulses behind → StoodFor xs (length behind)
  -- none had pulses: "a newly opened session counts as standing", as if ten had gone before
  never_moved : NoPulses xs → StoodFor xs (10 + length xs)

abbrev pub count_of : Session → ℕ
count_of s = s.desk.brake.stood

-- what counts, over any samples from an opened session on
abbrev pub Counter : Type 0
Counter = Session → List Sample → ℕ

-- it gives the lesser of 30,000 and the number of accepted samples running without pulses, over any list of samples from opening, accepted or
-- refused
abbrev pub Counts : Counter → Type 0
Counts f = (card : Card) (train : ℕ) (s : Session) (xs : List Sample) (n : ℕ) → open_session card train ≡ given s
    → StoodFor (accepted_of s xs) n → f s xs ≡ min 30000 n

-- ---- standstill, rearm, lamp

-- "standstill is ten accepted samples running without pulses, this one included": pulses 0, and a count of 9 or more before
abbrev pub Still : Session → Sample → Type 0
Still s x = AtStandstill x.pulses s.desk.brake

abbrev pub Braked : Session → Type 0
Braked s = s.desk.brake.cause ≡ 0 → ⊥

-- no cause arises in the sample
abbrev pub NoCause : Session → Sample → Type 0
NoCause s x = (stepped s (carried s x)).arose ≡ 0

abbrev pub Pressed : Sample → Type 0
Pressed x = bit_of x.buttons rearm_button ≡ true

-- what standstill comes to, of a session and a sample
pub record StandstillLaws (s : Session) (x : Sample) : Type 0 where
  -- "Refusals: 11 now reads "while not at standstill"": 8 to 10 are not due, the mode changes, and it is not standstill
  pub refused_11 : (sample_of s x ≡ refusal_by 11 s)
      ↔ (Inside s × (CodesMet x × ((x.pulses * s.card.settings.tick ≤ 100000) × ((x.mode ≡ mode_of s → ⊥) × (Still s x → ⊥)))))
  -- a rearm takes effect, which is to say that the brake goes off: on before, standstill, the press, no cause
  pub rearmed : Accepted s x → (Braked s × ((sample_of s x).session.desk.brake.cause ≡ 0)) ↔ (Braked s × (Still s x × (Pressed x × NoCause s x)))
  -- lamp 10 of the answer: braked after the sample, "also with a fresh cause" (b7), and standstill
  pub lamp_10 : (a : Told) → (sample_of s x).outcome ≡ Ok a
      → (bit_of a.lamps rearm_button ≡ true) ↔ ((a.cause ≡ 0 → ⊥) × Still s x)
  -- the cause told is the one that stands after the sample
  pub cause_told : (a : Told) → (sample_of s x).outcome ≡ Ok a → (sample_of s x).session.desk.brake.cause ≡ a.cause

-- the session with another count
abbrev pub with_count : ℕ → Session → Session
with_count n s = with_desk (with_brake (record { cause = s.desk.brake.cause; stood = n; age = s.desk.brake.age }) s.desk) s

-- what a sample leaves and is answered with, of two sessions: alike but for the brake's part and lamp 10, and the cause where rearm is pressed
pub record AlikeBut10 (s t : Session) (x : Sample) (a b : Told) : Type 0 where
  -- whatever brake is put into both, they are one desk
  pub desk : (c : Brake) → with_brake c (sample_of s x).session.desk ≡ with_brake c (sample_of t x).session.desk
  pub speed : a.speed ≡ b.speed
  pub icon : a.icon ≡ b.icon
  pub limit : a.limit ≡ b.limit
  pub cause : (Pressed x → ⊥) → a.cause ≡ b.cause
  pub lamps : (k : ℕ) → (k ≡ 10 → ⊥) → bit_of a.lamps (2 ^ k) ≡ bit_of b.lamps (2 ^ k)

pub record Standing : Type 0 where
  -- 1. The session's count is that number, after any list of samples; and there is such a number for every list.
  pub count : Counts (λ s xs. count_of (after s xs))
  pub counted : (xs : List Sample) → (n : ℕ) × StoodFor xs n
  -- 2. Refusal 11, a rearm that takes effect and lamp 10, each exactly when, of every session and every sample.
  pub standstill : (s : Session) (x : Sample) → StandstillLaws s x
  -- "Only rearm, lamp 10 and refusal 11 use it." (b6): a session with another count, where both accept the sample.
  pub nothing_else : (s : Session) (n : ℕ) (x : Sample) (a b : Told) → (sample_of s x).outcome ≡ Ok a → (sample_of (with_count n s) x).outcome ≡ Ok b
      → AlikeBut10 s (with_count n s) x a b
  -- 3. "every session we make is inside", the count included; one that is handed in with more is refused.
  pub count_inside : (card : Card) (train : ℕ) (s : Session) (xs : List Sample) → open_session card train ≡ given s
      → count_of (after s xs) ≤ 30000
  pub count_outside : (s : Session) (x : Sample) → 30000 < count_of s → sample_of s x ≡ refusal_by 8 s

-- ---- both sides of each line, on card A (tick length 100, BTS speed 80), train type 6

abbrev pub ride : List Sample → Answer (List Outcome)
ride xs = run_from (open_session card_of_a 6) xs

abbrev pub by : ℕ → Outcome
by n = Err (numbered_refusal n)

-- 108 km/h, over S + 500: cause 5
abbrev pub fast : Sample
fast = conv 300 0 0

abbrev pub rearm : Sample
rearm = conv 0 0 1024

pub record StandingExamples : Type 0 where
  -- "It opens at 10, so a desk that never moved stands: first sample 0/0/0/2 is accepted, 1/0/0/2 is 11; 0/8, 0/0/1024 is rearmed." (b2)
  pub opened_stands : ride (bts 0 0 0 ∷ []) ≡ given (shows 8000 0 0 ∷ [])
  pub opened_moves : ride (bts 1 0 0 ∷ []) ≡ given (by 11 ∷ [])
  pub opened_rearms : ride (conv 0 8 0 ∷ rearm ∷ []) ≡ given (shows 4000 1280 4 ∷ shows 4000 256 0 ∷ [])
  -- "1, 9×0, 0/0/0/2 is accepted, with 8×0 it is 11." (b3)
  pub mode_at_10 : ride (conv 1 0 0 ∷ times 9 (conv 0 0 0) (bts 0 0 0 ∷ [])) ≡ given (repeated 10 (shows 10000 0 0) (shows 8000 0 0 ∷ []))
  pub mode_at_9 : ride (conv 1 0 0 ∷ times 8 (conv 0 0 0) (bts 0 0 0 ∷ [])) ≡ given (repeated 9 (shows 10000 0 0) (by 11 ∷ []))
  -- "300 (cause 5), 9×0, 0/0/1024 is rearmed, with 8×0 not. Lamp 10 is dark in the ninth 0, lit in the tenth." (b3)
  pub rearm_at_10 : ride (fast ∷ times 9 (conv 0 0 0) (rearm ∷ [])) ≡ given (repeated 10 (shows 10000 0 5) (shows 10000 0 0 ∷ []))
  pub rearm_at_9 : ride (fast ∷ times 8 (conv 0 0 0) (rearm ∷ [])) ≡ given (repeated 10 (shows 10000 0 5) [])
  pub lamp_at_10 : ride (fast ∷ times 10 (conv 0 0 0) []) ≡ given (repeated 10 (shows 10000 0 5) (shows 10000 1024 5 ∷ []))
  -- "A refused sample neither counts nor breaks the run." (b4): 100.1 m/s in the run is 10
  pub refused_within : ride (fast ∷ times 5 (conv 0 0 0) (conv 1001 0 0 ∷ times 4 (conv 0 0 0) (rearm ∷ [])))
      ≡ given (repeated 6 (shows 10000 0 5) (by 10 ∷ repeated 4 (shows 10000 0 5) (shows 10000 0 0 ∷ [])))
  pub refused_uncounted : ride (fast ∷ times 5 (conv 0 0 0) (conv 1001 0 0 ∷ times 3 (conv 0 0 0) (rearm ∷ [])))
      ≡ given (repeated 6 (shows 10000 0 5) (by 10 ∷ repeated 4 (shows 10000 0 5) []))
  -- "Both modes count; a mode change leaves the count alone." (b4)
  pub mode_counts_on : ride (conv 1 0 0 ∷ times 9 (conv 0 0 0) (bts 0 0 0 ∷ conv 0 0 0 ∷ []))
      ≡ given (repeated 10 (shows 10000 0 0) (shows 8000 0 0 ∷ shows 10000 0 0 ∷ []))
  pub bts_counts : ride (bts 0 0 0 ∷ bts 1 0 0 ∷ times 9 (bts 0 0 0) (conv 0 0 0 ∷ [])) ≡ given (repeated 11 (shows 8000 0 0) (shows 10000 0 0 ∷ []))
  pub bts_counts_9 : ride (bts 0 0 0 ∷ bts 1 0 0 ∷ times 8 (bts 0 0 0) (conv 0 0 0 ∷ [])) ≡ given (repeated 10 (shows 8000 0 0) (by 11 ∷ []))
