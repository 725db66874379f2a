-- REQUEST c. Document 02 c), "When the pickup goes quiet": "A broken pickup and a quiet track look the same to the desk. The classifier's answer
-- "nothing" becomes code 12 and no longer code 0, and everything that takes a code is amended. Each sample with code 12 lights lamp bit 11, the
-- alarm, and outside BTS raises cause 6 as well. Code 12 is no beacon, yet the code after it counts as changed. Demand 3 is untouched, since no
-- function bit governs it. Old recordings hold no 12 and answer as before. Refusals: 9 from code 13."
--
-- Code, alarm and cause are defined in crates `leaf`, `tone`, `beacons` and `step`. Here it is said what they come to, in plain facts, of every
-- session and every sample, and against the desk as it was before this request. (c1 to c8 are 02's readings.)
use Rattle.std.specs.Prelude.{ℕ, ◌*◌, ◌^◌, ◌≤◌, Bool, true, false, ◌&&◌, ◌||◌, List, [], ◌∷◌, ◌⊎◌, ◌↔◌, ◌≡◌, leb, eqb, Float, Ok, Err}
use Rattle.leaf.specs.Choosing.{pick}
use Rattle.leaf.specs.Numbers.{bit_of, buttons_top}
use Rattle.leaf.specs.Checks.{Check, first_bad}
use Rattle.leaf.specs.Answers.{Answer, given, numbered_refusal}
use Rattle.tone.specs.declared.Reading.{Reading}
use Rattle.tone.specs.declared.Reading.TheVariants.{Permanent, Nothing}
use Rattle.tone.specs.Tones.{classify_of, code_of}
use Rattle.card.specs.Card.{reads_in_bts_bit}
use Rattle.desk.specs.declared.brake.Brake.{Brake}
use Rattle.desk.specs.Brake.{standstill}
use Rattle.desk.specs.State.{with_brake, with_code}
use Rattle.desk.specs.Clock.{same_mode}
use Rattle.beacons.specs.Beacons.{is_side}
use Rattle.step.specs.declared.Answer.{Answer as Told}
use Rattle.step.specs.declared.Stepped.{Stepped}
use Rattle.session.specs.declared.Sample.{Sample}
use Rattle.session.specs.declared.Session.{Session}
use Rattle.session.specs.declared.Sampled.{Sampled}
use Rattle.session.specs.Session.{Outcome}
use Rattle.session.specs.Session.{with_desk, open_session, inside_of, in_bts, refused_by, carried, sampled_as, stepped, sample_of}
use Rattle.step_laws.specs.Unanswered.{reads}
use Rattle.step_laws.specs.Quiet.{step_before}
use Rattle.laws.specs.Ranges.{Inside}
use Rattle.laws.specs.Refusals.{Accepted}
use Rattle.laws.specs.Unanswered.{top_of}
use Rattle.demands.specs.Demand1.{refusal_by}
use Rattle.demands.specs.Runs.{run_from, ride_of}
use Rattle.demands.specs.Examples.{conv, bts, times, shows, repeated, card_of_a, card_r}

-- ---- the desk before this request: codes 0..11, causes 0..5, no alarm (step_laws' specs/Quiet.antt has the step)

-- what was inside then is inside now, and no higher
abbrev pub inside_before : Session → Bool
inside_before s = inside_of s && leb s.desk.code 11 && leb s.desk.brake.cause 5

abbrev pub checks_before : Session → Sample → List Check
checks_before s x =
    (8, inside_before s)
    ∷ (9, leb x.beacon 11 && leb x.buttons buttons_top && leb 1 x.mode && leb x.mode 2)
    ∷ (10, leb (x.pulses * s.card.settings.tick) 100000)
    ∷ (11, same_mode s.desk.bts (in_bts x.mode) || standstill x.pulses s.desk.brake)
    ∷ []

unfoldable pub refused_before : Session → Sample → ℕ
refused_before s x = first_bad 0 (checks_before s x)

abbrev pub stepped_before : Session → Sample → Stepped
stepped_before s x = step_before s.card (top_of s) (carried s x) s.desk

unfoldable pub sample_before : Session → Sample → Sampled
sample_before s x =
    pick (eqb (refused_before s x) 0) (sampled_as s (stepped_before s x)) (record { session = s; outcome = Err (numbered_refusal (refused_before s x)) })

-- a list of samples, each with the session that it leaves and its outcome, by either desk
unfoldable pub sampled_by : (Session → Sample → Sampled) → Session → List Sample → List Sampled
sampled_by desk s [] = []
sampled_by desk s (x ∷ xs) = desk s x ∷ sampled_by desk (desk s x).session xs

-- "Old recordings hold no 12"
abbrev pub No12 : List Sample → Type 0
No12 [] = Unit
No12 (x ∷ xs) = (x.beacon ≡ 12 → ⊥) × No12 xs

-- ---- a sample that is accepted

-- the cause that arises, where `before` arises without this rule (0 is none): "The lowest cause of a sample stands" (c6), and 6, the last of all,
-- is raised in a sample that raises it
pub data Arisen (before : ℕ) (Raises : Type 0) : ℕ → Type 0 where
  lower : (before ≡ 0 → ⊥) → Arisen before Raises before
  six : before ≡ 0 → Raises → Arisen before Raises 6
  none : before ≡ 0 → (Raises → ⊥) → Arisen before Raises 0

-- what raises causes: of a session and a sample the one that arises
abbrev pub Raiser : Type 0
Raiser = Session → Sample → ℕ

-- "and outside BTS raises cause 6 as well.": each sample with 12, "not only the first" (c2); "the mode after the mode step", the sample's, decides
-- (c4)
abbrev pub Raises : Raiser → Type 0
Raises f = (s : Session) (x : Sample) → Accepted s x → Arisen (stepped_before s x).arose ((x.beacon ≡ 12) × (x.mode ≡ 1)) (f s x)

pub record Alarm (s : Session) (x : Sample) (a : Told) : Type 0 where
  -- "Each sample with code 12 lights lamp bit 11, the alarm,": exactly these, in both modes (c3)
  pub lamp_11 : (bit_of a.lamps 2048 ≡ true) ↔ (x.beacon ≡ 12)
  -- "Code 12 is no beacon": it is never read;
  pub unread : x.beacon ≡ 12 → reads s.card (carried s x) s.desk ≡ false
  -- "12 becomes the last code in either mode" (c5), as every code does,
  pub remembered : (sample_of s x).session.desk.code ≡ x.beacon
  -- "yet the code after it counts as changed": a beacon is read, in BTS exactly where function 3 reads it
  pub read_after : s.desk.code ≡ 12 → 1 ≤ x.beacon → x.beacon ≤ 11
      → (reads s.card (carried s x) s.desk ≡ true) ↔ ((x.mode ≡ 1) ⊎ ((is_side x.beacon ≡ true) × (reads_in_bts_bit s.card.settings.functions ≡ true)))

-- ---- a session with another last code, or another cause

abbrev pub with_last : ℕ → Session → Session
with_last code s = with_desk (with_code code s.desk) s

abbrev pub with_cause : ℕ → Session → Session
with_cause cause s = with_desk (with_brake (record { cause = cause; stood = s.desk.brake.stood; age = s.desk.brake.age }) s.desk) s

-- ---- 12 in place of 0, which is no beacon either

abbrev pub coded : ℕ → Sample → Sample
coded code x = record { pulses = x.pulses; beacon = code; buttons = x.buttons; mode = x.mode }

-- what the two leave and are answered with: alike but for the last code, the cause, and lamps 10 and 11. "Else it reads, sets, displaces, ends,
-- parts and speaks nothing." (c5)
pub record AlikeButAlarm (s : Session) (x : Sample) (a b : Told) : Type 0 where
  -- whatever code and brake are put into both, they are one desk
  pub desk : (code : ℕ) (brake : Brake)
      → with_code code (with_brake brake (sample_of s (coded 12 x)).session.desk) ≡ with_code code (with_brake brake (sample_of s (coded 0 x)).session.desk)
  pub stood : (sample_of s (coded 12 x)).session.desk.brake.stood ≡ (sample_of s (coded 0 x)).session.desk.brake.stood
  pub speed : a.speed ≡ b.speed
  pub icon : a.icon ≡ b.icon
  pub limit : a.limit ≡ b.limit
  pub lamps : (k : ℕ) → (k ≡ 10 → ⊥) → (k ≡ 11 → ⊥) → bit_of a.lamps (2 ^ k) ≡ bit_of b.lamps (2 ^ k)
  -- without this rule the same cause arises; and in BTS the same cause stands, with it
  pub arose : (stepped_before s (coded 12 x)).arose ≡ (stepped_before s (coded 0 x)).arose
  pub cause : x.mode ≡ 2 → a.cause ≡ b.cause

pub record Quiet : Type 0 where
  -- 1. "The classifier's answer "nothing" becomes code 12 and no longer code 0": that answer, exactly; and "of permanent 0" (c1).
  pub nothing_12 : (area : List ℕ) (tone : Float) (reading : Reading) → classify_of area tone ≡ given reading
      → (code_of reading ≡ 12) ↔ (reading ≡ Nothing)
  pub permanent_0 : (area : List ℕ) (tone : Float) (reading : Reading) → classify_of area tone ≡ given reading
      → (code_of reading ≡ 0) ↔ ((offset : Float) × (reading ≡ Permanent offset))
  -- 2. Cause, lamp and last code, of every session and every accepted sample; without this rule no cause is above 5.
  pub causes : Raises (λ s x. (stepped s (carried s x)).arose)
  pub before_high : (s : Session) (x : Sample) → (stepped_before s x).arose ≤ 5
  pub alarm : (s : Session) (x : Sample) (a : Told) → (sample_of s x).outcome ≡ Ok a → Alarm s x a
  -- 3. "Code 12 is no beacon": nothing else comes of it, and it is refused where 0 is.
  pub nothing_else : (s : Session) (x : Sample) (a b : Told) → (sample_of s (coded 12 x)).outcome ≡ Ok a → (sample_of s (coded 0 x)).outcome ≡ Ok b
      → AlikeButAlarm s x a b
  pub refused_alike : (s : Session) (x : Sample) → refused_by s (coded 12 x) ≡ refused_by s (coded 0 x)
  -- 4. "yet the code after it counts as changed.": a beacon behind a 12 leaves the session and is answered as behind a 0.
  pub counts_changed : (s : Session) (x : Sample) (a : Told) → 1 ≤ x.beacon → x.beacon ≤ 11 → (sample_of (with_last 12 s) x).outcome ≡ Ok a
      → sample_of (with_last 12 s) x ≡ sample_of (with_last 0 s) x
  -- 5. "Refusals: 9 from code 13."; "buttons above 2047 stay 9" (c7); "code 0..12, cause 0..6" of the session (c7, c8): 12 is in its range where 0 is,
  -- 6 where 5 is.
  pub last_12 : (s : Session) (x : Sample) → refused_by (with_last 12 s) x ≡ refused_by (with_last 0 s) x
  pub cause_6 : (s : Session) (x : Sample) → refused_by (with_cause 6 s) x ≡ refused_by (with_cause 5 s) x
  pub code_13 : (s : Session) (x : Sample) → Inside s → 13 ≤ x.beacon → sample_of s x ≡ refusal_by 9 s
  pub button_11 : (s : Session) (x : Sample) → Inside s → 2048 ≤ x.buttons → sample_of s x ≡ refusal_by 9 s
  pub code_outside : (s : Session) (x : Sample) → 13 ≤ s.desk.code → sample_of s x ≡ refusal_by 8 s
  pub cause_outside : (s : Session) (x : Sample) → 7 ≤ s.desk.brake.cause → sample_of s x ≡ refusal_by 8 s
  -- 6. "Old recordings hold no 12 and answer as before.": every list without a 12, refused samples among them, on every session that the desk
  -- before could hold, sample by sample.
  pub as_before : (s : Session) (xs : List Sample) → s.desk.code ≤ 11 → s.desk.brake.cause ≤ 5 → No12 xs
      → sampled_by sample_of s xs ≡ sampled_by sample_before s xs

-- ---- both sides of each line, on card A (tick length 100, BTS speed 80) and card R, train type 6

abbrev pub ride : List Sample → Answer (List Outcome)
ride xs = run_from (open_session card_of_a 6) xs

-- card R has all four functions, X 200 m and Y 500 m
abbrev pub ride_r : List Sample → Answer (List Outcome)
ride_r xs = ride_of (card_r (0x0F ∷ 0x00 ∷ 0xC8 ∷ 0x01 ∷ 0xF4 ∷ [])) 2 6 xs

abbrev pub by : ℕ → Outcome
by n = Err (numbered_refusal n)

pub record QuietExamples : Type 0 where
  -- "0/12, 0/12/1024, 0/0/1024 have causes 6, 6, 0." (c2); "0/12 at standstill has lamps 3072" (c7)
  pub tone_back : ride (conv 0 12 0 ∷ conv 0 12 1024 ∷ conv 0 0 1024 ∷ [])
      ≡ given (shows 10000 3072 6 ∷ shows 10000 3072 6 ∷ shows 10000 0 0 ∷ [])
  -- "The lamp lights in both modes and is dark in the next sample without 12." (c3); in BTS without a cause
  pub ride_in_bts : ride (bts 0 0 0 ∷ bts 50 12 0 ∷ bts 50 0 0 ∷ []) ≡ given (shows 8000 0 0 ∷ shows 8000 2048 0 ∷ shows 8000 0 0 ∷ [])
  pub in_conv : ride (conv 50 12 0 ∷ conv 50 0 0 ∷ []) ≡ given (shows 10000 2048 6 ∷ shows 10000 0 6 ∷ [])
  -- "entering BTS with 12 raises nothing, leaving with 12 raises 6." (c4)
  pub entering : ride (bts 0 12 0 ∷ []) ≡ given (shows 8000 2048 0 ∷ [])
  pub leaving : ride (bts 0 0 0 ∷ bts 0 12 0 ∷ conv 0 12 0 ∷ []) ≡ given (shows 8000 0 0 ∷ shows 8000 2048 0 ∷ shows 10000 3072 6 ∷ [])
  -- "7, 12, 7 reads both 7s." (c5): under 80 m the second is the stop zone's; the first's window goes on through the 12
  pub both_read : ride_r (conv 50 7 0 ∷ conv 50 12 0 ∷ conv 50 7 0 ∷ []) ≡ given (shows 5000 16 0 ∷ shows 5000 2064 6 ∷ shows 1000 0 6 ∷ [])
  pub one_read : ride_r (conv 50 7 0 ∷ conv 50 7 0 ∷ conv 50 7 0 ∷ []) ≡ given (shows 5000 16 0 ∷ shows 5000 16 0 ∷ shows 5000 16 0 ∷ [])
  -- standstill is the tenth without pulses, with 12 or without
  pub standing : ride (conv 1 0 0 ∷ times 10 (conv 0 12 0) []) ≡ given (shows 10000 0 0 ∷ repeated 9 (shows 10000 2048 6) (shows 10000 3072 6 ∷ []))
  -- "The lowest cause of a sample stands: 300/12 is 5." (c6): 292 pulses, 105.12 km/h, are the first that do
  pub too_fast : ride (conv 300 12 0 ∷ []) ≡ given (shows 10000 2048 5 ∷ [])
  pub just_over : ride (conv 292 12 0 ∷ []) ≡ given (shows 10000 2048 5 ∷ [])
  pub just_under : ride (conv 291 12 0 ∷ []) ≡ given (shows 10000 2048 6 ∷ [])
  -- "9 from code 13"; "No button 11" (c7)
  pub thirteen : ride (conv 0 13 0 ∷ conv 0 12 0 ∷ []) ≡ given (by 9 ∷ shows 10000 3072 6 ∷ [])
  pub no_button : ride (conv 0 0 2048 ∷ conv 0 12 1024 ∷ []) ≡ given (by 9 ∷ shows 10000 3072 6 ∷ [])
