-- DEMAND 1. "Every input gets an answer. A bad card, sheet, ride, sample or session is refused by its number in document 01; the session
-- handed in comes back unchanged, no lent byte is altered."
--
-- Document 01: "A refusal returns its number (and place for 5, 12), is given in no other case, and leaves buffers and the handed-in
-- session unchanged." For each kind of input it is written down what it is answered as, case by case in document 01's order, in plain facts:
-- `≡`, `≤` and `<` on bytes and fields (of card and writer: `ReadAs` and `WrittenAs`, card's specs/Plain.antt). The demand: the answer
-- is exactly that. So no other function meets it (`only_one`).
use Rattle.std.specs.Prelude.{ℕ, ◌*◌, ◌≤◌, ◌<◌, List, [], ◌∷◌, ◌↔◌, ◌≡◌, length, Float, Ok, Err}
use Rattle.leaf.specs.Answers.{Answer, given, refused, refused_at, numbered_refusal}
use Rattle.card.specs.declared.Card.{Card}
use Rattle.card.specs.declared.Settings.{Settings}
use Rattle.card.specs.Plain.{ReadAs, WrittenAs}
use Rattle.card.specs.Reading.{read_card}
use Rattle.card.specs.Writing.{write_card, written, leaves}
use Rattle.tone.specs.Facts as sheet
use Rattle.tone.specs.declared.Sheet.{Sheet}
use Rattle.tone.specs.declared.Reading.{Reading}
use Rattle.tone.specs.Tones.{rows_of, sheet_of, read_sheet, read_from, classify_of}
use Rattle.step.specs.declared.Answer.{Answer as Told}
use Rattle.session.specs.declared.Sample.{Sample}
use Rattle.session.specs.declared.Session.{Session}
use Rattle.session.specs.declared.Sampled.{Sampled}
use Rattle.session.specs.Session.{ran_of, sample_of}
use Rattle.rides.specs.Recording.{RecordingMet, train_of, samples_of}
use Rattle.rides.specs.Ride.{whole_ride}
use Rattle.laws.specs.Ranges.{Inside}
use Rattle.laws.specs.Refusals.{CodesMet, ModeMet}
use Rattle.demands.specs.Opening.{OpenedAs, OpensExactly}

-- the answer is as said, and nothing else is
abbrev pub Exactly : {A : Type 0} → A → (A → Type 0) → Type 0
Exactly {A} answer As = (a : A) → (answer ≡ a) ↔ As a

-- ---- a tone sheet, and a tone: "12 | tone sheet bad, with place"

pub data SheetReadAs (area : List ℕ) : Answer Sheet → Type 0 where
  refused_12 : (place : ℕ) → sheet.FirstFault area place → SheetReadAs area (refused_at 12 place)
  read : sheet.Accepted area → SheetReadAs area (given (sheet_of area))

-- "in that order, from the classifier too"
pub data ClassifiedAs (area : List ℕ) (tone : Float) : Answer Reading → Type 0 where
  refused_12 : (place : ℕ) → sheet.FirstFault area place → ClassifiedAs area tone (refused_at 12 place)
  reads : sheet.Accepted area → ClassifiedAs area tone (given (read_from 0 (rows_of area 12) tone))

-- ---- a version, settings and a train type: "2, 5, 7" (g4), in Opening.antt (`OpenedAs`)

-- ---- a session and a sample: "sample 8, 9, 10, 11"

-- ".. and leaves .. the handed-in session unchanged"
abbrev pub refusal_by : ℕ → Session → Sampled
refusal_by n s = record { session = s; outcome = Err (numbered_refusal n) }

pub data SampledAs (s : Session) (x : Sample) : Sampled → Type 0 where
  -- "session out of its ranges"
  refused_8 : (Inside s → ⊥) → SampledAs s x (refusal_by 8 s)
  -- "beacon, buttons or mode out of range"
  refused_9 : Inside s → (CodesMet x → ⊥) → SampledAs s x (refusal_by 9 s)
  -- "pulses × tick length above 100,000"
  refused_10 : Inside s → CodesMet x → 100000 < x.pulses * s.card.settings.tick → SampledAs s x (refusal_by 10 s)
  -- "mode changed", 02 b: "while not at standstill"
  refused_11 : Inside s → CodesMet x → x.pulses * s.card.settings.tick ≤ 100000 → (ModeMet s x → ⊥) → SampledAs s x (refusal_by 11 s)
  answered : Inside s → CodesMet x → x.pulses * s.card.settings.tick ≤ 100000 → ModeMet s x → SampledAs s x (ran_of s x)

-- ---- a card and a recording: "a ride 14, 7, its samples"; 02 g: what the opening says of the card, 2 or 5, stands before 7

-- its samples: each that is accepted is answered, the first that is refused ends the ride, and what came before stays
pub data ShownAs : Session → List Sample → List (Answer Told) → Type 0 where
  none : {s : Session} → ShownAs s [] []
  answered : {s after : Session} {x : Sample} {a : Told} {xs : List Sample} {rest : List (Answer Told)}
      → SampledAs s x (record { session = after; outcome = Ok a }) → ShownAs after xs rest → ShownAs s (x ∷ xs) (given a ∷ rest)
  ended : {s : Session} {x : Sample} {n : ℕ} {xs : List Sample} → SampledAs s x (refusal_by n s) → ShownAs s (x ∷ xs) (refused n ∷ [])

pub data RiddenAs (card : Card) (recording : List ℕ) : Answer (List (Answer Told)) → Type 0 where
  -- "recording not exactly as long as stated, length not 6 + 6n with n ≤ 10,000, or version not 1"
  refused_14 : ((n : ℕ) → RecordingMet recording n → ⊥) → RiddenAs card recording (refused 14)
  -- a version that is none, or settings out of range beside it, which no card that was read has
  refused_2 : {n : ℕ} → RecordingMet recording n → OpenedAs card (train_of recording) (refused 2) → RiddenAs card recording (refused 2)
  refused_5 : {n at : ℕ} → RecordingMet recording n → OpenedAs card (train_of recording) (refused_at 5 at) → RiddenAs card recording (refused_at 5 at)
  refused_7 : {n : ℕ} → RecordingMet recording n → OpenedAs card (train_of recording) (refused 7) → RiddenAs card recording (refused 7)
  ridden : {n : ℕ} {s : Session} {shown : List (Answer Told)} → RecordingMet recording n → OpenedAs card (train_of recording) (given s)
      → ShownAs s (samples_of recording) shown → RiddenAs card recording (given shown)

-- ---- the demand

pub record Demand1 : Type 0 where
  pub cards : (area : List ℕ) (highest : ℕ) → Exactly (read_card area highest) (ReadAs area highest)
  pub writes : (version : ℕ) (s : Settings) (room : ℕ) → Exactly (write_card version s room) (WrittenAs version s room)
  -- "leaves buffers .. unchanged"
  pub unwritten : (version : ℕ) (s : Settings) (buffer : List ℕ) → (write_card version s (length buffer) ≡ given written → ⊥)
      → leaves (write_card version s (length buffer)) version s buffer ≡ buffer
  pub sheets : (area : List ℕ) → Exactly (read_sheet area) (SheetReadAs area)
  pub tones : (area : List ℕ) (tone : Float) → Exactly (classify_of area tone) (ClassifiedAs area tone)
  -- of the opening from loose settings (Opening.antt)
  pub openings : OpensExactly
  pub samples : (s : Session) (x : Sample) → Exactly (sample_of s x) (SampledAs s x)
  pub rides : (card : Card) (recording : List ℕ) → Exactly (whole_ride card recording) (RiddenAs card recording)
