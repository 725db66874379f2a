-- What is said of every refused answer is said of every refusal: by its number alone, or by its number and place. And which number a refusal
-- is named by.
use Prim.Native.Nat.{ℕ}
use mathlib.Core.Path.{◌≡◌, refl, sym, ap, ◌∙◌}
use mathlib.Core.Bool.{Bool, true, false}
use mathlib.Core.Logic.{◌⊎◌, inl, inr}
use lib.Dec.{eqb}
use borrow.Author.Tests.{eqb-true}
use Rattle.std.specs.Prelude.{Option, Some, None}
use Rattle.leaf.specs.Choosing.{pick}
use Rattle.leaf.specs.Answers.{Answer, refused, refused_at, number_of, place_of, refusal_of, numbered_refusal}
use Rattle.leaf.specs.declared.refusal.Refusal.{Refusal}
use Rattle.leaf.specs.declared.refusal.Refusal.TheVariants.{AreaTooShort, NoSuchVersion, VersionTooNew, WrongLength, OutOfRange, NoSuchReader, WrongTrain, SessionOutOfRange, SampleOutOfRange, TooFast, ModeWhileMoving, BadSheet, NoRoom, BadRecording}

-- what is made of a refused answer by its number and its place, where it has one
pub by_place : {A B : Type 0} (f : Answer A → B) (g : ℕ → Option ℕ → B) → ((n : ℕ) → f (refused n) ≡ g n None)
    → ((n place : ℕ) → f (refused_at n place) ≡ g n (Some place)) → (why : Refusal) → f (refusal_of why) ≡ g (number_of why) (place_of why)
by_place f g a b AreaTooShort = a 1
by_place f g a b NoSuchVersion = a 2
by_place f g a b VersionTooNew = a 3
by_place f g a b WrongLength = a 4
by_place f g a b (OutOfRange place) = b 5 place
by_place f g a b NoSuchReader = a 6
by_place f g a b WrongTrain = a 7
by_place f g a b SessionOutOfRange = a 8
by_place f g a b SampleOutOfRange = a 9
by_place f g a b TooFast = a 10
by_place f g a b ModeWhileMoving = a 11
by_place f g a b (BadSheet place) = b 12 place
by_place f g a b NoRoom = a 13
by_place f g a b BadRecording = a 14

-- by its number, whatever its place
pub by_number : {A B : Type 0} (f : Answer A → B) (g : ℕ → B) → ((n : ℕ) → f (refused n) ≡ g n) → ((n place : ℕ) → f (refused_at n place) ≡ g n)
    → (why : Refusal) → f (refusal_of why) ≡ g (number_of why)
by_number f g a b why = by_place f (λ n place. g n) a b why

-- what keeps a refused answer
pub as_it_is : {A B : Type 0} (f : Answer A → Answer B) → ((n : ℕ) → f (refused n) ≡ refused n) → ((n place : ℕ) → f (refused_at n place) ≡ refused_at n place)
    → (why : Refusal) → f (refusal_of why) ≡ refusal_of why
as_it_is f a b AreaTooShort = a 1
as_it_is f a b NoSuchVersion = a 2
as_it_is f a b VersionTooNew = a 3
as_it_is f a b WrongLength = a 4
as_it_is f a b (OutOfRange place) = b 5 place
as_it_is f a b NoSuchReader = a 6
as_it_is f a b WrongTrain = a 7
as_it_is f a b SessionOutOfRange = a 8
as_it_is f a b SampleOutOfRange = a 9
as_it_is f a b TooFast = a 10
as_it_is f a b ModeWhileMoving = a 11
as_it_is f a b (BadSheet place) = b 12 place
as_it_is f a b NoRoom = a 13
as_it_is f a b BadRecording = a 14

-- ---- the refusal of a number is named by that number, or is the one that stands for all other numbers

module _ (m : ℕ) where
  abbrev Named : Refusal → Type 0
  Named why = (number_of why ≡ m) ⊎ (why ≡ BadRecording)

  named : (n : ℕ) (why rest : Refusal) → number_of why ≡ n → Named rest → Named (pick (eqb m n) why rest)
  named n why rest e k = cases (eqb m n) refl
    where
      cases : (t : Bool) → eqb m n ≡ t → Named (pick t why rest)
      cases true h = inl (e ∙ sym (eqb-true m n h))
      cases false h = k

  numbered : Named (numbered_refusal m)
  unfolding numbered_refusal
  numbered =
      named 1 AreaTooShort _ refl
      (named 2 NoSuchVersion _ refl
      (named 3 VersionTooNew _ refl
      (named 4 WrongLength _ refl
      (named 6 NoSuchReader _ refl
      (named 7 WrongTrain _ refl
      (named 8 SessionOutOfRange _ refl
      (named 9 SampleOutOfRange _ refl
      (named 10 TooFast _ refl (named 11 ModeWhileMoving _ refl (named 13 NoRoom _ refl (inr refl)))))))))))

-- so a refusal that is named by its number, and is not that one, is of no other number
pub numbered_is : (m n : ℕ) → number_of (numbered_refusal n) ≡ n → (n ≡ 14 → ⊥) → numbered_refusal m ≡ numbered_refusal n → m ≡ n
numbered_is m n e other h = cases (numbered m)
  where
    cases : (number_of (numbered_refusal m) ≡ m) ⊎ (numbered_refusal m ≡ BadRecording) → m ≡ n
    cases (inl own) = sym own ∙ ap number_of h ∙ e
    cases (inr bad) = absurd (other (sym e ∙ ap number_of (sym h ∙ bad)))
