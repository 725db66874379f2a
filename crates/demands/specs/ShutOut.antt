-- Document 01: "Shut out by name: a logic that refuses everything (demand 1); one that answers one speed for ever, returns the session
-- untouched, or obeys the first sample and then repeats itself (demand 2); an invented place or printed sample number (demands 1 and 2)."
-- One that equals document 01's definitions, as our functions do, is none of these.
use Rattle.std.specs.Prelude.{ℕ, suc, false, List, [], ◌∷◌, ◌++◌, map, ◌≡◌, length, Float, Ok, Err}
use Rattle.leaf.specs.Bytes.{byte}
use Rattle.leaf.specs.Answers.{Answer, given, refused_at, is_given}
use Rattle.card.specs.declared.Card.{Card}
use Rattle.card.specs.declared.Settings.{Settings}
use Rattle.card.specs.Card.{base_kind}
use Rattle.card.specs.Plain.{FirstOut}
use Rattle.card.specs.Reading.{settings_of, read_card, card_in}
use Rattle.card.specs.Writing.{write_card}
use Rattle.tone.specs.Facts as sheet
use Rattle.tone.specs.Tones.{read_sheet, classify_of}
use Rattle.step.specs.declared.Answer.{Answer as Told}
use Rattle.session.specs.declared.Sample.{Sample}
use Rattle.session.specs.declared.Session.{Session}
use Rattle.session.specs.declared.Sampled.{Sampled}
use Rattle.session.specs.Session.{Outcome}
use Rattle.session.specs.Session.{open_session, sample_of}
use Rattle.text.specs.Decimal.{line}
use Rattle.rides.specs.Ride.{start_ride}
use Rattle.printed.specs.declared.Columns.{Columns}
use Rattle.printed.specs.Printed.{columns_of, highest, printed_ride, ride_on}
use Rattle.demands.specs.Demand3.{first_lines}
use Rattle.demands.specs.Opening.{SomeOpening, NotInventedOpening}
use Rattle.demands.specs.Runs.{run_from}

-- ---- a logic

-- whatever it remembers: what it answers to a list of samples, one after the other, from its opening on
abbrev pub Logic : Type 0
Logic = Card → ℕ → List Sample → Answer (List Outcome)

-- document 01's: a session is opened, and the samples are run
abbrev pub document01 : Logic
document01 card train xs = run_from (open_session card train) xs

abbrev pub Equals : Logic → Type 0
Equals f = (card : Card) (train : ℕ) (xs : List Sample) → f card train xs ≡ document01 card train xs

-- the answers to accepted samples among its outcomes
abbrev pub answers_in : List Outcome → List Told
answers_in [] = []
answers_in (Ok a ∷ rest) = a ∷ answers_in rest
answers_in (Err why ∷ rest) = answers_in rest

-- each of them is a
abbrev pub All : {A : Type 0} → A → List A → Type 0
All a [] = Unit
All a (b ∷ rest) = (b ≡ a) × All a rest

-- ---- the kinds

-- "refuses everything": the opening, or each sample
abbrev pub RefusesAll : Logic → Type 0
RefusesAll f = (card : Card) (train : ℕ) (xs : List Sample) (os : List Outcome) → f card train xs ≡ given os → answers_in os ≡ []

-- "answers one speed for ever": one for each opening, whatever samples are accepted
abbrev pub OneSpeed : Logic → Type 0
OneSpeed f = (card : Card) (train : ℕ)
    → (speed : ℕ) × ((xs : List Sample) (os : List Outcome) → f card train xs ≡ given os → All speed (map (λ a. a.speed) (answers_in os)))

-- "obeys the first sample and then repeats itself": every answer to a later accepted sample is the first one
abbrev pub Repeated : List Told → Type 0
Repeated [] = Unit
Repeated (a ∷ rest) = All a rest

abbrev pub Repeats : Logic → Type 0
Repeats f = (card : Card) (train : ℕ) (xs : List Sample) (os : List Outcome) → f card train xs ≡ given os → Repeated (answers_in os)

-- a sample that is accepted is answered the same after any others: the logic forgets
abbrev pub Forgets : Logic → Type 0
Forgets f = (card : Card) (train : ℕ) (x : Sample) (xs ys : List Sample) (os ps : List Outcome) (a b : Told)
    → f card train (xs ++ x ∷ []) ≡ given (os ++ Ok a ∷ []) → f card train (ys ++ x ∷ []) ≡ given (ps ++ Ok b ∷ []) → a ≡ b

-- "returns the session untouched": a logic of one sample, where it answers
abbrev pub Untouched : (Session → Sample → Sampled) → Type 0
Untouched f = (s : Session) (x : Sample) (a : Told) → (f s x).outcome ≡ Ok a → (f s x).session ≡ s

-- ---- the statement

pub record ShutOut : Type 0 where
  pub not_all_refused : (f : Logic) → Equals f → RefusesAll f → ⊥
  pub not_one_speed : (f : Logic) → Equals f → OneSpeed f → ⊥
  pub not_untouched : (f : Session → Sample → Sampled) → ((s : Session) (x : Sample) → f s x ≡ sample_of s x) → Untouched f → ⊥
  pub not_repeated : (f : Logic) → Equals f → Repeats f → ⊥
  pub not_forgetful : (f : Logic) → Equals f → Forgets f → ⊥
  -- "refuses everything", of reader, writer, sheet, classifier, opening (Opening.antt) and recording too
  pub some_card : ((area : List ℕ) (highest : ℕ) → is_given (read_card area highest) ≡ false) → ⊥
  pub some_write : ((version : ℕ) (s : Settings) (room : ℕ) → is_given (write_card version s room) ≡ false) → ⊥
  pub some_sheet : ((area : List ℕ) → is_given (read_sheet area) ≡ false) → ⊥
  pub some_tone : ((area : List ℕ) (tone : Float) → is_given (classify_of area tone) ≡ false) → ⊥
  pub some_opening : SomeOpening
  pub some_recording : ((card : Card) (recording : List ℕ) → is_given (start_ride card recording) ≡ false) → ⊥
  -- "an invented place": a place given by the reader, the writer, opening or the sheet is that of the first fault there is
  pub not_invented_read : (area : List ℕ) (highest n at : ℕ) → read_card area highest ≡ refused_at n at
      → (n ≡ 5) × FirstOut base_kind (byte area 2) (settings_of area) at
  pub not_invented_write : (version : ℕ) (s : Settings) (room n at : ℕ) → write_card version s room ≡ refused_at n at → (n ≡ 5) × FirstOut base_kind version s at
  pub not_invented_opening : NotInventedOpening
  pub not_invented_sheet : (area : List ℕ) (n place : ℕ) → read_sheet area ≡ refused_at n place → (n ≡ 12) × sheet.FirstFault area place
  -- "an invented .. printed sample number": where the ride on a card answers a to its k-th sample, the line below the first k, the heading
  -- among them, is that answer's, numbered k
  pub not_invented_number : (columns : Columns) (card recording : List ℕ) (before rest : List (Answer Told)) (a : Told)
      → ride_on (card_in card highest) recording ≡ given (before ++ given a ∷ rest)
      → (let k = suc (length before) in
      first_lines (printed_ride columns card recording) (suc k) ≡ first_lines (printed_ride columns card recording) k ++ line k (columns_of columns a))
