-- Request f, how many samples ago the brake came on: the brake's age along the accepted samples.
use Prim.Native.Nat.{ℕ, ◌+◌, min, ◌≤◌, ◌<◌}
use native.Mathlib.Omega.{arith}
use mathlib.Core.Bool.{Bool, true, false, ◌&&◌, not}
use mathlib.Core.List.{List, [], ◌∷◌, ◌++◌}
use mathlib.Core.Logic.{◌⊎◌, inl, inr}
use mathlib.Core.Path.{◌≡◌, refl, sym, ap, ◌∙◌}
use lib.Dec.{eqb}
use lib.ListN.{length}
use borrow.Author.Tests.{eqb-true, eqb-false, ne_eqb}
use Rattle.std.specs.Prelude.{Err}
use Rattle.leaf.specs.Choosing.{pick, and_split}
use Rattle.leaf.specs.Numbers.{aged_of}
use Rattle.leaf.specs.Answers.{given, numbered_refusal}
use Rattle.card.specs.declared.Card.{Card}
use Rattle.desk.specs.Brake.{brake_age}
use Rattle.step.specs.Brake.{stays_on}
use Rattle.session.specs.declared.Sample.{Sample}
use Rattle.session.specs.declared.Session.{Session}
use Rattle.session.specs.declared.Sampled.{Sampled}
use Rattle.session.specs.Session.{open_session, carried, ran_of, sample_of}
use Rattle.session.specs.Runs.{accepted, after, all_accepted}
use Rattle.session.proofs.Opening.{opening_fresh}
use Rattle.session.proofs.Runs.{accepted_runs, refused_stays}
use Rattle.step_laws.proofs.Brake.{brake_laws}
use Rattle.laws.specs.Unanswered.{top_of}
use Rattle.laws.proofs.Ranges.{inside_only}
use Rattle.laws.proofs.Refusals.{refusal_laws}
use Rattle.laws.proofs.Inside.{inside_laws}
use Rattle.session.specs.Why.{why_now, explained_of, asked_of}
use Rattle.demands.specs.Standing.{kept_if, accepted_of, Braked}
use Rattle.demands.specs.Why.{BrakedOn, BrakedFor, Sinces}
use Rattle.demands.specs.Why as paper

abbrev cause_of : Session → ℕ
cause_of s = s.desk.brake.cause

abbrev age_of : Session → ℕ
age_of s = s.desk.brake.age

-- ---- the accepted samples of a list

-- they leave the session that all of them leave
after_accepted : (s : Session) (xs : List Sample) → after s (accepted_of s xs) ≡ after s xs
unfolding after accepted_of
after_accepted s [] = refl
after_accepted s (x ∷ xs) = cases (accepted s x) refl (after_accepted (sample_of s x).session xs)
  where
    cases : (t : Bool) → accepted s x ≡ t → after (sample_of s x).session (accepted_of (sample_of s x).session xs) ≡ after (sample_of s x).session xs
        → after s (kept_if t x (accepted_of (sample_of s x).session xs)) ≡ after (sample_of s x).session xs
    cases true e rest = rest
    cases false e rest = ap (λ (u : Session). after u (accepted_of (sample_of s x).session xs)) (sym (ap (λ (r : Sampled). r.session) (refused_stays s x e))) ∙ rest

-- and each of them is accepted in its turn
all_accepted_lem : (s : Session) (xs : List Sample) → all_accepted s (accepted_of s xs) ≡ true
unfolding all_accepted accepted_of
all_accepted_lem s [] = refl
all_accepted_lem s (x ∷ xs) = cases (accepted s x) refl (all_accepted_lem (sample_of s x).session xs)
  where
    cases : (t : Bool) → accepted s x ≡ t → all_accepted (sample_of s x).session (accepted_of (sample_of s x).session xs) ≡ true
        → all_accepted s (kept_if t x (accepted_of (sample_of s x).session xs)) ≡ true
    cases true e rest = rw (e, rest)
    cases false e rest =
        ap (λ (u : Session). all_accepted u (accepted_of (sample_of s x).session xs)) (sym (ap (λ (r : Sampled). r.session) (refused_stays s x e))) ∙ rest

-- one behind others, and those behind it
after_split : (s : Session) (before : List Sample) (x : Sample) (behind : List Sample)
    → after s (before ++ (x ∷ behind)) ≡ after (sample_of (after s before) x).session behind
unfolding after
after_split s [] x behind = refl
after_split s (y ∷ before) x behind = after_split (sample_of s y).session before x behind

accepted_split : (s : Session) (before : List Sample) (x : Sample) (behind : List Sample) → all_accepted s (before ++ (x ∷ behind)) ≡ true
    → (accepted (after s before) x ≡ true) × (all_accepted (sample_of (after s before) x).session behind ≡ true)
unfolding after all_accepted
accepted_split s [] x behind h = and_split (accepted s x) (all_accepted (sample_of s x).session behind) h
accepted_split s (y ∷ before) x behind h =
    accepted_split (sample_of s y).session before x behind (and_split (accepted s y) (all_accepted (sample_of s y).session (before ++ (x ∷ behind))) h).1

-- ---- the age along them

-- of the cause before a sample and the one after it
abbrev age_from : ℕ → ℕ → ℕ → ℕ
age_from before after age = brake_age (stays_on before after) age

module _ (s : Session) (x : Sample) where
  age_after : accepted s x ≡ true → age_of (sample_of s x).session ≡ age_from (cause_of s) (cause_of (sample_of s x).session) (age_of s)
  unfolding ran_of
  age_after h =
      let runs = accepted_runs s x h in
      ap (λ (r : Sampled). age_of r.session) runs
      ∙ (brake_laws s.card (top_of s) (carried s x) s.desk).age_then_lem
      ∙ ap (λ (r : Sampled). age_from (cause_of s) (cause_of r.session) (age_of s)) (sym runs)

-- not braked before a sample, or not after it, it is 0; braked before and after, it goes on
age_from_off : (after age : ℕ) → age_from 0 after age ≡ 0
unfolding brake_age
age_from_off after age = refl

age_to_off : (before age : ℕ) → age_from before 0 age ≡ 0
unfolding brake_age
age_to_off before age = cases (eqb before 0)
  where
    cases : (t : Bool) → pick (not t && false) (aged_of age) 0 ≡ 0
    cases true = refl
    cases false = refl

age_goes_on : (before after age : ℕ) → (before ≡ 0 → ⊥) → (after ≡ 0 → ⊥) → age_from before after age ≡ aged_of age
unfolding brake_age
age_goes_on before after age p q = rw (ne_eqb before 0 p, ne_eqb after 0 q)

braked_now : (s : Session) (xs : List Sample) → BrakedOn s xs → Braked s
braked_now s [] h = h
braked_now s (x ∷ xs) h = h.0

aged_on : (s : Session) (xs : List Sample) → age_of s ≤ 30000 → all_accepted s xs ≡ true → BrakedOn s xs → age_of (after s xs) ≡ min 30000 (age_of s + length xs)
unfolding after all_accepted
aged_on s [] low all on = omega arith
aged_on s (x ∷ xs) low all on =
    let split = and_split (accepted s x) (all_accepted (sample_of s x).session xs) all in
    let next = (sample_of s x).session in
    let one : age_of next ≡ aged_of (age_of s) = age_after s x split.0 ∙ age_goes_on (cause_of s) (cause_of next) (age_of s) on.0 (braked_now next xs on.1) in
    let rest = aged_on next xs (omega arith) split.1 on.1 in
    omega arith

braked_for : (s : Session) (xs : List Sample) (n : ℕ) → BrakedFor s xs n → age_of (after s xs) ≡ min 30000 n
braked_for s xs n (paper.BrakedFor.since before at behind e off on) =
    let split = accepted_split s before at behind (ap (all_accepted s) (sym e) ∙ all_accepted_lem s xs) in
    let first = (sample_of (after s before) at).session in
    let zero_age : age_of first ≡ 0 =
    age_after (after s before) at split.0 ∙ ap (λ (c : ℕ). age_from c (cause_of first) (age_of (after s before))) off ∙ age_from_off (cause_of first) (age_of (after s before)) in
    let rest = aged_on first behind (omega arith) split.1 on in
    ap age_of (sym (after_accepted s xs) ∙ ap (after s) e ∙ after_split s before at behind) ∙ (omega arith)

-- not braked, it is 0
off_zero : (s : Session) (xs : List Sample) → (cause_of s ≡ 0 → age_of s ≡ 0) → cause_of (after s xs) ≡ 0 → age_of (after s xs) ≡ 0
unfolding after
off_zero s [] h off = h off
off_zero s (x ∷ xs) h off = off_zero (sample_of s x).session xs (cases (accepted s x) refl) off
  where
    cases : (t : Bool) → accepted s x ≡ t → cause_of (sample_of s x).session ≡ 0 → age_of (sample_of s x).session ≡ 0
    cases true e z = age_after s x e ∙ ap (λ (c : ℕ). age_from (cause_of s) c (age_of s)) z ∙ age_to_off (cause_of s) (age_of s)
    cases false e z =
        let same = ap (λ (r : Sampled). r.session) (refused_stays s x e) in
        ap age_of same ∙ h (sym (ap cause_of same) ∙ z)

module _ (card : Card) (train : ℕ) (s : Session) (h : open_session card train ≡ given s) where
  opens_off : cause_of s ≡ 0
  opens_off = ap cause_of (opening_fresh card train s h)

  opens_at_zero : age_of s ≡ 0
  opens_at_zero = ap age_of (opening_fresh card train s h)

pub since : Sinces (λ s xs. (why_now (after s xs)).since)
unfolding why_now
since =
    record {
      braked = λ card train s xs n h for. braked_for s xs n for;
      not_braked = λ card train s xs h off. off_zero s xs (λ z. opens_at_zero card train s h) off;
    }

-- ---- a braked desk has such a number

-- it has been braked all along, or since one of the samples
began_in : (s : Session) (xs : List Sample) → Braked (after s xs)
    → BrakedOn s xs ⊎ ((before : List Sample) × ((at : Sample) × ((behind : List Sample)
    × ((xs ≡ before ++ (at ∷ behind)) × ((cause_of (after s before) ≡ 0) × BrakedOn (sample_of (after s before) at).session behind)))))
unfolding after
began_in s [] h = inl h
began_in s (x ∷ xs) h = cases (eqb (cause_of s) 0) refl (began_in (sample_of s x).session xs h)
  where
    next : Session
    next = (sample_of s x).session

    cases : (t : Bool) → eqb (cause_of s) 0 ≡ t
        → BrakedOn next xs ⊎ ((before : List Sample) × ((at : Sample) × ((behind : List Sample)
        × ((xs ≡ before ++ (at ∷ behind)) × ((cause_of (after next before) ≡ 0) × BrakedOn (sample_of (after next before) at).session behind)))))
        → BrakedOn s (x ∷ xs) ⊎ ((before : List Sample) × ((at : Sample) × ((behind : List Sample)
        × ((x ∷ xs ≡ before ++ (at ∷ behind)) × ((cause_of (after s before) ≡ 0) × BrakedOn (sample_of (after s before) at).session behind)))))
    cases t e (inr (before, (at, (behind, (same, rest))))) = inr (x ∷ before, (at, (behind, (ap (λ (l : List Sample). x ∷ l) same, rest))))
    cases true e (inl on) = inr ([], (x, (xs, (refl, (eqb-true (cause_of s) 0 e, on)))))
    cases false e (inl on) = inl (eqb-false (cause_of s) 0 e, on)

pub began : (card : Card) (train : ℕ) (s : Session) (xs : List Sample) → open_session card train ≡ given s
    → Braked (after s xs) → (n : ℕ) × BrakedFor s xs n
began card train s xs h braked = cases (began_in s (accepted_of s xs) (λ z. braked (ap cause_of (sym (after_accepted s xs)) ∙ z)))
  where
    cases : BrakedOn s (accepted_of s xs) ⊎ ((before : List Sample) × ((at : Sample) × ((behind : List Sample)
        × ((accepted_of s xs ≡ before ++ (at ∷ behind)) × ((cause_of (after s before) ≡ 0) × BrakedOn (sample_of (after s before) at).session behind)))))
        → (n : ℕ) × BrakedFor s xs n
    cases (inl on) = absurd (braked_now s (accepted_of s xs) on (opens_off card train s h))
    cases (inr (before, (at, (behind, (same, (off, on)))))) = (length behind, paper.BrakedFor.since before at behind same off on)

-- ---- the ranges

pub age_inside : (card : Card) (train : ℕ) (s : Session) (xs : List Sample) → open_session card train ≡ given s → age_of (after s xs) ≤ 30000
age_inside card train s xs h = (inside_only _ (inside_laws.always_inside card train s xs h)).desk.brake.age

pub age_outside : (s : Session) (x : Sample) → 30000 < age_of s → asked_of s x ≡ record { session = s; told = Err (numbered_refusal 8) }
unfolding asked_of
age_outside s x high =
    let e = (refusal_laws s x).refused_as 8 ((refusal_laws s x).refused_8.1 (λ i. let low = i.desk.brake.age in omega arith)) (λ z. omega arith) in
    ap (λ (r : Sampled). explained_of r.session r.outcome) e
