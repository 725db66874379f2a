-- What is the same on paper is the same: a refusal, and a result whose error is a refusal.
use Prim.Native.Nat.{ℕ}
use mathlib.Core.Path.{◌≡◌, refl, sym, ap, ◌∙◌}
use lib.Dec.{eqb}
use Rattle.std.specs.Prelude.{Result, Ok, Err}
use Rattle.leaf.specs.Choosing.{pick}
use Rattle.leaf.specs.Answers.{Answer, given, refused, refused_at, refusal_of, on_paper, numbered_refusal}
use Rattle.leaf.specs.declared.refusal.Refusal.{Refusal}
use Rattle.leaf.specs.declared.refusal.Refusal.TheVariants.{AreaTooShort, NoSuchVersion, VersionTooNew, WrongLength, OutOfRange, NoSuchReader, WrongTrain, SessionOutOfRange, SampleOutOfRange, TooFast, ModeWhileMoving, BadSheet, NoRoom, BadRecording}

-- an answer that is on paper, as the result that it is of
abbrev off_paper : {A : Type 0} → Answer A → Result A Refusal
off_paper (given a) = Ok a
off_paper (refused n) = Err (numbered_refusal n)
off_paper (refused_at n place) = Err (pick (eqb n 5) (OutOfRange place) (BadSheet place))

refusal_back : {A : Type 0} (r : Refusal) → off_paper {A = A} (refusal_of r) ≡ Err r
unfolding numbered_refusal
refusal_back AreaTooShort = refl
refusal_back NoSuchVersion = refl
refusal_back VersionTooNew = refl
refusal_back WrongLength = refl
refusal_back (OutOfRange place) = refl
refusal_back NoSuchReader = refl
refusal_back WrongTrain = refl
refusal_back SessionOutOfRange = refl
refusal_back SampleOutOfRange = refl
refusal_back TooFast = refl
refusal_back ModeWhileMoving = refl
refusal_back (BadSheet place) = refl
refusal_back NoRoom = refl
refusal_back BadRecording = refl

back : {A : Type 0} (r : Result A Refusal) → off_paper (on_paper r) ≡ r
back (Ok a) = refl
back (Err why) = refusal_back why

-- two results that are the same on paper are the same
pub result_one : {A : Type 0} (a b : Result A Refusal) → on_paper a ≡ on_paper b → a ≡ b
result_one a b h = sym (back a) ∙ ap off_paper h ∙ back b

-- so are two refusals
pub refusal_one : {A : Type 0} (r t : Refusal) → refusal_of {A = A} r ≡ refusal_of t → r ≡ t
refusal_one {A} r t h = let e = result_one {A = A} (Err r) (Err t) h in cc

-- 5 with a place is a setting out of range there, whatever was asked for
pub out_of_range_one : {A : Type 0} (r : Refusal) (place : ℕ) → refusal_of {A = A} r ≡ refused_at 5 place → r ≡ OutOfRange place
out_of_range_one r place h = refusal_one r (OutOfRange place) h
