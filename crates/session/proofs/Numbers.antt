-- A sample is refused by 8, 9, 10 or 11: the numbers of refusals that have no place beside them, so that each tells which refusal it is.
use Prim.Native.Nat.{ℕ, ◌*◌, ◌≤◌}
use native.Mathlib.Omega.{arith}
use mathlib.Core.Path.{◌≡◌, refl, sym}
use mathlib.Core.Bool.{Bool, true, false, false≢true}
use mathlib.Core.List.{[], ◌∷◌}
use lib.Dec.{eqb, leb}
use Rattle.std.specs.Prelude.{Result, Ok, Err}
use Rattle.leaf.specs.Choosing.{pick}
use Rattle.leaf.specs.Checks.{first_bad, or_fault}
use Rattle.leaf.specs.Answers.{Answer, refused, number_of, refusal_of, ensured, numbered_refusal}
use Rattle.leaf.specs.declared.refusal.Refusal.{Refusal}
use Rattle.leaf.specs.declared.refusal.Refusal.TheVariants.{SessionOutOfRange, SampleOutOfRange, TooFast, ModeWhileMoving}
use Rattle.leaf.proofs.ByNumber.{numbered_is}
use Rattle.session.specs.declared.Sample.{Sample}
use Rattle.session.specs.declared.Session.{Session}
use Rattle.session.specs.Session.{inside_of, codes_fit, mode_fits, refused_by, accepted_as}
use Rattle.session.specs.Runs.{accepted}

-- the first of four tests that fails gives its number
abbrev pub verdict : Bool → Bool → Bool → Bool → ℕ
verdict a b c e = pick a (pick b (pick c (pick e 0 11) 10) 9) 8

four : (a b c e : Bool) → first_bad 0 ((8, a) ∷ (9, b) ∷ (10, c) ∷ (11, e) ∷ []) ≡ verdict a b c e
unfolding or_fault
four false b c e = refl
four true false c e = refl
four true true false e = refl
four true true true false = refl
four true true true true = refl

-- that number is on paper its refusal
verdict_number : (a b c e : Bool) → eqb (verdict a b c e) 0 ≡ false → number_of (numbered_refusal (verdict a b c e)) ≡ verdict a b c e
unfolding numbered_refusal
verdict_number false b c e h = refl
verdict_number true false c e h = refl
verdict_number true true false e h = refl
verdict_number true true true false h = refl
verdict_number true true true true h = absurd (false≢true (sym h))

verdict_paper : {A : Type 0} (a b c e : Bool) → eqb (verdict a b c e) 0 ≡ false → refusal_of {A = A} (numbered_refusal (verdict a b c e)) ≡ refused (verdict a b c e)
unfolding numbered_refusal
verdict_paper false b c e h = refl
verdict_paper true false c e h = refl
verdict_paper true true false e h = refl
verdict_paper true true true false h = refl
verdict_paper true true true true h = absurd (false≢true (sym h))

verdict_range : (a b c e : Bool) → eqb (verdict a b c e) 0 ≡ false → (8 ≤ verdict a b c e) × (verdict a b c e ≤ 11)
verdict_range false b c e h = (omega arith, omega arith)
verdict_range true false c e h = (omega arith, omega arith)
verdict_range true true false e h = (omega arith, omega arith)
verdict_range true true true false h = (omega arith, omega arith)
verdict_range true true true true h = absurd (false≢true (sym h))

module _ (s : Session) (x : Sample) where
  -- the four tests
  abbrev a : Bool
  a = inside_of s

  abbrev b : Bool
  b = codes_fit x

  abbrev c : Bool
  c = leb (x.pulses * s.card.settings.tick) 100000

  abbrev e : Bool
  e = mode_fits s x

  pub by_tests : refused_by s x ≡ verdict a b c e
  unfolding refused_by
  by_tests = four a b c e

  -- the number of the refusal that a refused sample is given is its number,
  pub refused_number : accepted s x ≡ false → number_of (numbered_refusal (refused_by s x)) ≡ refused_by s x
  refused_number h = rw by_tests (verdict_number a b c e (rw by_tests at h))

  -- and that refusal on paper is the number alone
  pub refused_paper : {A : Type 0} → accepted s x ≡ false → refusal_of {A = A} (numbered_refusal (refused_by s x)) ≡ refused (refused_by s x)
  refused_paper h = rw by_tests (verdict_paper a b c e (rw by_tests at h))

  -- which is 8, 9, 10 or 11
  pub refused_range : accepted s x ≡ false → (8 ≤ refused_by s x) × (refused_by s x ≤ 11)
  refused_range h = rw by_tests (verdict_range a b c e (rw by_tests at h))

  -- so no other number names that refusal
  pub refused_is : (n : ℕ) → accepted s x ≡ false → numbered_refusal n ≡ numbered_refusal (refused_by s x) → n ≡ refused_by s x
  refused_is n h same =
      let r = refused_range h in
      numbered_is n (refused_by s x) (refused_number h) (λ z. omega arith) same

  -- how the code comes to it: a test and its refusal, one behind the other
  pub accepted_chain : accepted_as s x
      ≡ pick a (pick b (pick c (ensured e ModeWhileMoving) (Err TooFast)) (Err SampleOutOfRange)) (Err SessionOutOfRange)
  unfolding accepted_as numbered_refusal
  accepted_chain = rw by_tests (cases a b c e)
    where
      cases : (a b c e : Bool) → pick (eqb (verdict a b c e) 0) (Ok tt) (Err (numbered_refusal (verdict a b c e)))
          ≡ pick a (pick b (pick c (ensured e ModeWhileMoving) (Err TooFast)) (Err SampleOutOfRange)) (Err SessionOutOfRange)
      cases false b c e = refl
      cases true false c e = refl
      cases true true false e = refl
      cases true true true false = refl
      cases true true true true = refl
