-- Laws of the card's definitions, for this crate's proofs and for others'.
use Rattle.std.specs.Prelude.{ℕ, ◌≤◌, ◌≡◌, refl, Bool, true, false, List, ◌++◌, eqb, length, drop}
use Rattle.std.proofs.Common.{arith, lit≤, leb-true, eqb-true}
use Rattle.std.proofs.lemmas.Bool.{eqb-false}
use Rattle.leaf.specs.Choosing.{pick}
use Rattle.leaf.specs.Bytes.{over, over_whole}
use Rattle.leaf.specs.Checks.{Fine, none_bad}
use Rattle.leaf.specs.Answers.{given, refused, refused_at, refusal_of}
use Rattle.leaf.specs.declared.refusal.Refusal.{Refusal}
use Rattle.leaf.specs.declared.refusal.Refusal.TheVariants.{AreaTooShort, NoSuchVersion, VersionTooNew, WrongLength, OutOfRange, NoSuchReader, WrongTrain, SessionOutOfRange, SampleOutOfRange, TooFast, ModeWhileMoving, BadSheet, NoRoom, BadRecording}
use Rattle.card.specs.Card.{length_of}
use Rattle.card.specs.Reading.{answer_by}
use Rattle.card.specs.Writing.{bytes_of, record_of, record_checks, write_card, written, leaves}
use Rattle.card.specs.declared.Settings.{Settings}

-- ---- what an answer says of the number by which it was given

-- what is asked for is given where the number is 0, and is what stands there
pub given_by : {A : Type 0} (n p : ℕ) (a b : A) → answer_by n p a ≡ given b → (n ≡ 0) × (a ≡ b)
unfolding answer_by
given_by n p a b h = cases (eqb n 0) refl (eqb n 5) h
  where
    cases : (t : Bool) → eqb n 0 ≡ t → (u : Bool) → pick t (given a) (pick u (refused_at 5 p) (refused n)) ≡ given b → (n ≡ 0) × (a ≡ b)
    cases true e u h = (eqb-true n 0 e, cc)
    cases false e true h = let z : ◌≡◌ {A = ℕ} 0 1 = cc in absurd (omega arith)
    cases false e false h = let z : ◌≡◌ {A = ℕ} 0 1 = cc in absurd (omega arith)

-- a place is given with 5 alone, and is the one that stands there
pub placed_by : {A : Type 0} (n p : ℕ) (a : A) (m q : ℕ) → answer_by n p a ≡ refused_at m q → (n ≡ 5) × (m ≡ 5) × (q ≡ p)
unfolding answer_by
placed_by n p a m q h = cases (eqb n 0) (eqb n 5) refl h
  where
    cases : (t u : Bool) → eqb n 5 ≡ u → pick t (given a) (pick u (refused_at 5 p) (refused n)) ≡ refused_at m q → (n ≡ 5) × (m ≡ 5) × (q ≡ p)
    cases true u e h = let z : ◌≡◌ {A = ℕ} 0 1 = cc in absurd (omega arith)
    cases false true e h = (eqb-true n 5 e, cc, cc)
    cases false false e h = let z : ◌≡◌ {A = ℕ} 0 1 = cc in absurd (omega arith)

-- a number given without a place is the one that was due
pub numbered_by : {A : Type 0} (n p : ℕ) (a : A) (m : ℕ) → answer_by n p a ≡ refused m → (n ≡ m) × (n ≡ 0 → ⊥)
unfolding answer_by
numbered_by n p a m h = cases (eqb n 0) refl (eqb n 5) h
  where
    cases : (t : Bool) → eqb n 0 ≡ t → (u : Bool) → pick t (given a) (pick u (refused_at 5 p) (refused n)) ≡ refused m → (n ≡ m) × (n ≡ 0 → ⊥)
    cases true e u h = let z : ◌≡◌ {A = ℕ} 0 1 = cc in absurd (omega arith)
    cases false e true h = let z : ◌≡◌ {A = ℕ} 0 1 = cc in absurd (omega arith)
    cases false e false h = (cc, eqb-false n 0 e)

-- ---- the writer's buffer

lengths : (b c : Bool) → pick b 39 (pick c 44 49) ≤ 49
lengths true c = lit≤ tt
lengths false true = lit≤ tt
lengths false false = lit≤ tt

pub length_of-le : (v : ℕ) → length_of v ≤ 49
length_of-le v = lengths (eqb v 1) (eqb v 2)

pub length-bytes_of : (v : ℕ) (s : Settings) → length (bytes_of v s) ≡ 49
unfolding bytes_of
length-bytes_of v s = refl

-- where the writer is done, its version, the settings and the room passed
pub done_checks : (v : ℕ) (s : Settings) (room : ℕ) → write_card v s room ≡ given written → Fine (record_checks v s room)
unfolding write_card
done_checks v s room h = (none_bad 0 (record_checks v s room) tt (given_by _ _ _ _ h).0).1

-- a record that the writer is done with was put whole over the buffer's first bytes
pub put_whole : (v : ℕ) (s : Settings) (buffer : List ℕ) → write_card v s (length buffer) ≡ given written
    → over (length_of v) (bytes_of v s) buffer ≡ record_of v s ++ drop (length_of v) buffer
unfolding record_of
put_whole v s buffer h =
    let fits : length_of v ≤ length buffer = leb-true _ _ (done_checks v s (length buffer) h).1.1.0 in
    over_whole (length_of v) (bytes_of v s) buffer (rw length-bytes_of (length_of-le v)) fits

-- "A refusal .. leaves buffers .. unchanged."
pub refusal-leaves : (why : Refusal) (v : ℕ) (s : Settings) (buffer : List ℕ) → leaves (refusal_of why) v s buffer ≡ buffer
refusal-leaves AreaTooShort v s buffer = refl
refusal-leaves NoSuchVersion v s buffer = refl
refusal-leaves VersionTooNew v s buffer = refl
refusal-leaves WrongLength v s buffer = refl
refusal-leaves (OutOfRange place) v s buffer = refl
refusal-leaves NoSuchReader v s buffer = refl
refusal-leaves WrongTrain v s buffer = refl
refusal-leaves SessionOutOfRange v s buffer = refl
refusal-leaves SampleOutOfRange v s buffer = refl
refusal-leaves TooFast v s buffer = refl
refusal-leaves ModeWhileMoving v s buffer = refl
refusal-leaves (BadSheet place) v s buffer = refl
refusal-leaves NoRoom v s buffer = refl
refusal-leaves BadRecording v s buffer = refl
