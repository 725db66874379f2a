-- None of what is shut out by name equals the definitions: samples on which S and the session differ, and inputs that are accepted.
use Prim.Native.Nat.{ℕ}
use native.Mathlib.Omega.{arith}
use mathlib.Core.Bool.{true, false≢true}
use mathlib.Core.List.{List, [], ◌∷◌, ◌++◌}
use mathlib.Core.Path.{◌≡◌, refl, ap, sym, ◌∙◌}
use lib.Ieee.{nan, of_bits, of_int, le, mul, sub}
use Rattle.leaf.specs.Bytes.{byte, long}
use Rattle.leaf.specs.Answers.{given, refused_at, is_given}
use Rattle.card.specs.declared.Settings.{Settings}
use Rattle.card.specs.Card.{base_kind}
use Rattle.card.specs.Plain.{FirstOut, ReadAs, WrittenAs}
use Rattle.card.specs.Plain as plain
use Rattle.card.specs.Reading.{settings_of, read_card}
use Rattle.card.specs.Writing.{write_card}
use Rattle.card.specs.CardA.{card_a}
use Rattle.tone.specs.Facts as facts
use Rattle.tone.specs.Tones.{row_ok, shares_earlier, good_at, fault_of, rows_of, sheet_of, read_sheet, read_from, classify_of}
use Rattle.step.specs.declared.Answer.{Answer as Told}
use Rattle.session.specs.declared.Sample.{Sample}
use Rattle.session.specs.declared.Session.{Session}
use Rattle.session.specs.declared.Sampled.{Sampled}
use Rattle.session.specs.Session.{Outcome}
use Rattle.session.specs.Session.{fresh_session, sample_of}
use Rattle.rides.specs.Recording.{good_recording}
use Rattle.rides.specs.Ride.{start_ride}
use Rattle.printed.proofs.Examples.{ride_a}
use Rattle.demands.specs.Examples.{conv, shows, card_of_a, card_p}
use Rattle.demands.specs.ShutOut.{Logic, document01, Equals, RefusesAll, OneSpeed, Repeats, Forgets, Untouched, ShutOut}
use Rattle.demands.specs.Demand1.{SheetReadAs}
use Rattle.demands.specs.Demand1 as paper
use Rattle.demands.proofs.Computes.{definitions}
use Rattle.demands.proofs.Openings.{some_opening, not_invented_opening}
use Rattle.demands.proofs.Demand1.{demand_1}
use Rattle.demands.proofs.Lines.{numbered}

-- ---- three samples of card A, train type 6: one without pulses; beacon 7 at 108 km/h, over S; one without pulses again

abbrev standing : Sample
standing = conv 0 0 0

abbrev before_red : Sample
before_red = conv 300 7 0

abbrev told : List Outcome
told = shows 10000 0 0 ∷ shows 8000 16 5 ∷ shows 8000 16 5 ∷ []

rides : document01 card_of_a 6 (standing ∷ before_red ∷ standing ∷ []) ≡ given told
unfolding definitions
rides = refl

first_told : document01 card_of_a 6 (standing ∷ []) ≡ given (shows 10000 0 0 ∷ [])
unfolding definitions
first_told = refl

-- what the first of them leaves: the start row's age is 1
record Moved : Type 0 where
  answers : (sample_of (fresh_session card_of_a 6) standing).outcome ≡ shows 10000 0 0
  age : (sample_of (fresh_session card_of_a 6) standing).session.desk.main.age ≡ 1

moved : Moved
unfolding definitions
moved = record { answers = refl; age = refl }

-- ---- the kinds

module _ (f : Logic) (equals : Equals f) where
  f_rides : f card_of_a 6 (standing ∷ before_red ∷ standing ∷ []) ≡ given told
  f_rides = equals card_of_a 6 (standing ∷ before_red ∷ standing ∷ []) ∙ rides

  not_refusing : RefusesAll f → ⊥
  not_refusing h = let z = h card_of_a 6 _ _ f_rides in let e : ◌≡◌ {A = ℕ} 0 1 = cc in omega arith

  not_one_speed : OneSpeed f → ⊥
  not_one_speed h = let speeds = (h card_of_a 6).1 _ _ f_rides in let a = speeds.0 in let b = speeds.1.0 in omega arith

  not_repeating : Repeats f → ⊥
  not_repeating h = let z = ap (λ (a : Told). a.speed) (h card_of_a 6 _ _ f_rides).0 in omega arith

  not_forgetting : Forgets f → ⊥
  not_forgetting h =
      let same =
      h card_of_a 6 standing [] (standing ∷ before_red ∷ []) [] (shows 10000 0 0 ∷ shows 8000 16 5 ∷ []) _ _
      (equals card_of_a 6 (standing ∷ []) ∙ first_told) f_rides in
      let z = ap (λ (a : Told). a.speed) same in
      omega arith

module _ (f : Session → Sample → Sampled) (equals : (s : Session) (x : Sample) → f s x ≡ sample_of s x) where
  touched : Untouched f → ⊥
  touched h =
      let fresh = fresh_session card_of_a 6 in
      let e = equals fresh standing in
      let same = h fresh standing _ (ap (λ (r : Sampled). r.outcome) e ∙ moved.answers) in
      let z : ◌≡◌ {A = ℕ} 1 0 = sym moved.age ∙ ap (λ (r : Sampled). r.session.desk.main.age) (sym e) ∙ ap (λ (s : Session). s.desk.main.age) same in
      omega arith

-- ---- inputs that are accepted

-- a sheet of twelve single tones, 32, 40 .. 120 kHz
abbrev four : ℕ → List ℕ
four b = 0x42 ∷ b ∷ 0x00 ∷ 0x00 ∷ []

abbrev rows : List ℕ → List ℕ
rows [] = []
rows (b ∷ rest) = four b ++ four b ++ four b ++ rows rest

abbrev sheet : List ℕ
sheet = 0 ∷ 147 ∷ 1 ∷ rows (0x00 ∷ 0x20 ∷ 0x40 ∷ 0x60 ∷ 0x80 ∷ 0x90 ∷ 0xA0 ∷ 0xB0 ∷ 0xC0 ∷ 0xD0 ∷ 0xE0 ∷ 0xF0 ∷ [])

record Accepts : Type 0 where
  card : is_given (read_card card_p 1) ≡ true
  write : is_given (write_card 1 card_a 39) ≡ true
  read : is_given (read_sheet sheet) ≡ true
  tone : is_given (classify_of sheet nan) ≡ true
  recording : is_given (start_ride card_of_a ride_a) ≡ true

accepts : Accepts
unfolding definitions write_card classify_of read_sheet sheet_of fault_of rows_of row_ok good_at shares_earlier read_from long of_bits of_int le mul sub good_recording start_ride
accepts = record { card = refl; write = refl; read = refl; tone = refl; recording = refl }

-- ---- places

read_at : {area : List ℕ} {highest n at : ℕ} → ReadAs area highest (refused_at n at) → (n ≡ 5) × FirstOut base_kind (byte area 2) (settings_of area) at
read_at (plain.ReadAs.out_of_range header at f) = (refl, f)

written_at : {version : ℕ} {s : Settings} {room n at : ℕ} → WrittenAs version s room (refused_at n at) → (n ≡ 5) × FirstOut base_kind version s at
written_at (plain.WrittenAs.out_of_range known at f) = (refl, f)

sheet_at : {area : List ℕ} {n place : ℕ} → SheetReadAs area (refused_at n place) → (n ≡ 12) × facts.FirstFault area place
sheet_at (paper.SheetReadAs.refused_12 place f) = (refl, f)

pub shut_out : ShutOut
shut_out =
    record {
      not_all_refused = not_refusing;
      not_one_speed = not_one_speed;
      not_untouched = touched;
      not_repeated = not_repeating;
      not_forgetful = not_forgetting;
      some_card = λ h. false≢true (sym (h card_p 1) ∙ accepts.card);
      some_write = λ h. false≢true (sym (h 1 card_a 39) ∙ accepts.write);
      some_sheet = λ h. false≢true (sym (h sheet) ∙ accepts.read);
      some_tone = λ h. false≢true (sym (h sheet nan) ∙ accepts.tone);
      some_opening = some_opening;
      some_recording = λ h. false≢true (sym (h card_of_a ride_a) ∙ accepts.recording);
      not_invented_read = λ area highest n at e. read_at ((demand_1.cards area highest (refused_at n at)).0 e);
      not_invented_write = λ version s room n at e. written_at ((demand_1.writes version s room (refused_at n at)).0 e);
      not_invented_opening = not_invented_opening;
      not_invented_sheet = λ area n place e. sheet_at ((demand_1.sheets area (refused_at n place)).0 e);
      not_invented_number = numbered;
    }
