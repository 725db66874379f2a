-- REQUEST g. "Limit beacons in pairs." "Document 001 pairs limit beacons, giving 30, 40, 50 or 70 km/h; document 01 knows single ones, which is wrong. Card
-- version 3 is version 2 with bytes 44–47, the speeds for pairs 10-10, 10-11, 11-10, 11-11, each one of those four, and byte 48, the pair distance 1..50 m;
-- length 49. .. Proved once over the four speeds. Refusals: 3 as the reader's highest allows; 5 at 44 to 48; 2 and 6 now allow 3."
--
-- What a card of version 3 is and when it is accepted is demand 1's (`cards`, `writes`, over every version), that it is read back demand 2's, what
-- stays silent demand 3's; the opening, "2, then 5", then 7, is in Opening. Here is what a sample does, of every session, and what versions 1 and 2 answer.
use Rattle.std.specs.Prelude.{ℕ, ◌≡◌, true, false, List, [], ◌∷◌}
use Rattle.leaf.specs.Answers.{Answer, given}
use Rattle.card.specs.declared.Card.{Card}
use Rattle.sides.specs.Pairs.{nothing_paired}
use Rattle.session.specs.declared.Sample.{Sample}
use Rattle.session.specs.declared.Session.{Session}
use Rattle.session.specs.Session.{Outcome}
use Rattle.session.specs.Session.{open_session, refused_by, carried, sample_of}
use Rattle.session.specs.Runs.{accepted, after, outcomes}
use Rattle.step.specs.Step.{step_of}
use Rattle.step_laws.specs.Pairs.{PairLaws}
use Rattle.laws.specs.Ranges.{Inside}
use Rattle.laws.specs.Unanswered.{top_of}
use Rattle.demands.specs.Runs.{ride_of}
use Rattle.demands.specs.Speaks.{meets_limit, meets_second}
use Rattle.demands.specs.Unpaired.{outcomes01}
use Rattle.demands.specs.Examples.{conv, bts, times, answer, shows, repeated}
use Rattle.demands.specs.Demand3.{C, CF}

-- no beacon 10 or 11 is read at an accepted sample of these
abbrev pub NoneRead : Session → List Sample → Type 0
NoneRead s [] = Unit
NoneRead s (x ∷ xs) = (accepted s x ≡ true → meets_limit s x ≡ false) × NoneRead (sample_of s x).session xs

pub record PairsRequest : Type 0 where
  -- 1. Of every session and every accepted sample, once over the four speeds: when a paired limit is set, its value, its age, when it may go, which
  -- one button 6 takes off and that it takes off no other; what becomes of the first and of its single limit; which limits step; that a mode change
  -- parts (step_laws, Pairs). The desk of which they speak is that of the session after the sample.
  pub sample_laws : (s : Session) (x : Sample) → PairLaws s.card (top_of s) (carried s x) s.desk
  pub its_desk : (s : Session) (x : Sample) → refused_by s x ≡ 0 → (sample_of s x).session.desk ≡ (step_of s.card (top_of s) (carried s x) s.desk).desk
  -- 2. "On version 1 and 2 cards all stays": from opening, over every list of samples, refused ones among them, every answer is that of the sample before
  -- this request, and no pair ever stands.
  pub as_before : (card : Card) (train : ℕ) (s : Session) (xs : List Sample) → open_session card train ≡ given s → (card.version ≡ 3 → ⊥)
      → outcomes s xs ≡ outcomes01 s xs
  pub none_stands : (card : Card) (train : ℕ) (s : Session) (xs : List Sample) → open_session card train ≡ given s → (card.version ≡ 3 → ⊥)
      → (after s xs).desk.beside.paired ≡ nothing_paired
  -- 3. "every session we make is inside", the paired ages and the first's distance included.
  pub always_inside : (card : Card) (train : ℕ) (s : Session) (xs : List Sample) → open_session card train ≡ given s → Inside (after s xs)
  -- 4. "bytes 44 to 48 at the second": as demand 3 has it they never speak sooner. From opening, where no 10 or 11 has been read, refused samples among
  -- those before it, a 10 or 11 is no second, whatever sample comes.
  pub not_before_second : (card : Card) (train : ℕ) (s : Session) (xs : List Sample) → open_session card train ≡ given s → NoneRead s xs
      → (x : Sample) → meets_second (after s xs) x ≡ false

-- ---- both sides of each line, on cards C and CF of the readings, train type 6

-- card C as it is, its pair 10-11 at 40 km/h
abbrev pub ride : List Sample → Answer (List Outcome)
ride xs = ride_of (C 0x28) 3 6 xs

-- two with the limit standing, and the answers of so many samples of 100 pulses before the ninth, all of the first's limit
abbrev pub limited : ℕ → ℕ → ℕ → Outcome
limited speed lamps cause = answer speed lamps cause 0 true

pub record PairsExamples : Type 0 where
  -- "C: 100/10, 9×100, 100/10 is a pair, with 101/10 none; 0 m is one." (g9)
  pub at_the_distance : ride (conv 100 10 0 ∷ times 9 (conv 100 0 0) (conv 100 10 0 ∷ []))
      ≡ given (limited 10000 64 0 ∷ repeated 9 (limited 10000 64 0) (limited 3000 64 5 ∷ []))
  pub beyond_it : ride (conv 100 10 0 ∷ times 9 (conv 100 0 0) (conv 101 10 0 ∷ []))
      ≡ given (limited 10000 64 0 ∷ repeated 9 (limited 10000 64 0) (limited 10000 64 0 ∷ []))
  -- "The second sets its speed's paired limit, in S in that very sample: C 277/10, 277/11 is 4000 and cause 5." (g13)
  pub in_that_sample : ride (conv 277 10 0 ∷ conv 277 11 0 ∷ []) ≡ given (limited 10000 64 0 ∷ limited 4000 64 5 ∷ [])
  -- "11, 10, 11 is a 50 and a new first" (g10)
  pub one_pair_only : ride (conv 50 11 0 ∷ conv 50 10 0 ∷ conv 50 11 0 ∷ []) ≡ given (limited 10000 64 0 ∷ limited 5000 64 0 ∷ limited 5000 64 0 ∷ [])
  -- the first's limit is dropped: the window answered, then the paired one taken off, nothing stands (g15)
  pub nothing_left : ride (conv 50 10 0 ∷ conv 50 11 0 ∷ conv 50 0 64 ∷ conv 50 0 64 ∷ [])
      ≡ given (limited 10000 64 0 ∷ limited 4000 64 0 ∷ limited 4000 64 0 ∷ shows 10000 0 0 ∷ [])
  -- "CF 50/10, 50/9, 50/0/64, 50/11 keeps 60 beside 40." (g16): set since by an answered 9
  pub set_since : ride_of CF 3 6 (conv 50 10 0 ∷ conv 50 9 0 ∷ conv 50 0 64 ∷ conv 50 11 0 ∷ conv 50 0 64 ∷ conv 50 0 64 ∷ [])
      ≡ given (limited 6000 64 0 ∷ limited 6000 96 0 ∷ limited 6000 64 0 ∷ limited 4000 64 0 ∷ limited 4000 64 0 ∷ limited 6000 64 0 ∷ [])
  -- "a mode change parts them", either way (g11), and drops paired limits (g28)
  pub parted : ride (conv 0 10 0 ∷ bts 0 0 0 ∷ bts 0 11 0 ∷ []) ≡ given (limited 10000 64 0 ∷ shows 8000 0 0 ∷ limited 8000 64 0 ∷ [])
