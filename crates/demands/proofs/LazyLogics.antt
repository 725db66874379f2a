-- The lazy logics are of the kinds that are shut out, and said of all samples the kinds would not have them.
use Prim.Native.Nat.{ℕ}
use native.Mathlib.Omega.{arith}
use mathlib.Core.List.{List, [], ◌∷◌, map}
use mathlib.Core.Path.{◌≡◌, refl, ap, sym, ◌∙◌}
use Rattle.std.specs.Prelude.{Ok, Err}
use Rattle.leaf.specs.Answers.{Answer, given, refused, refused_at, numbered_refusal}
use Rattle.step.specs.declared.Answer.{Answer as Told}
use Rattle.session.specs.declared.Sample.{Sample}
use Rattle.session.specs.declared.Session.{Session}
use Rattle.session.specs.declared.Sampled.{Sampled}
use Rattle.session.specs.Session.{Outcome}
use Rattle.session.specs.Session.{fresh_session, sample_of}
use Rattle.demands.specs.Examples.{conv, shows, card_of_a}
use Rattle.demands.specs.Demand1.{SampledAs}
use Rattle.demands.specs.Demand1 as paper
use Rattle.demands.specs.ShutOut.{document01, answers_in, All, OneSpeed, Repeated, Repeats}
use Rattle.demands.specs.Lazy.{mapped, verdict, at8000, eight_thousand, again, first_again, repeater, LogicsOut, LogicsMissed}
use Rattle.demands.proofs.Computes.{definitions}
use Rattle.demands.proofs.Demand1.{demand_1}
use Rattle.demands.proofs.ShutOut.{shut_out}

-- ---- logics

-- what is changed of what was given: a fact of the answers, and one of the verdicts
changed : (f : List Outcome → List Outcome) (P : List Outcome → Type 0) → ((os : List Outcome) → P (f os))
    → (a : Answer (List Outcome)) (os : List Outcome) → mapped f a ≡ given os → P os
changed f P h (given ps) os e = let same : f ps ≡ os = cc in rw same at (h ps)
changed f P h (refused n) os e = let z : ◌≡◌ {A = ℕ} 0 1 = cc in absurd (omega arith)
changed f P h (refused_at n place) os e = let z : ◌≡◌ {A = ℕ} 0 1 = cc in absurd (omega arith)

unchanged : (f : List Outcome → List Outcome) → ((os : List Outcome) → map verdict (f os) ≡ map verdict os)
    → (a : Answer (List Outcome)) → mapped (map verdict) (mapped f a) ≡ mapped (map verdict) a
unchanged f h (given os) = ap given (h os)
unchanged f h (refused n) = refl
unchanged f h (refused_at n place) = refl

constant_verdicts : (os : List Outcome) → map verdict (map at8000 os) ≡ map verdict os
constant_verdicts [] = refl
constant_verdicts (Ok a ∷ rest) = rw (constant_verdicts rest)
constant_verdicts (Err why ∷ rest) = rw (constant_verdicts rest)

constant_speeds : (os : List Outcome) → All 8000 (map (λ a. a.speed) (answers_in (map at8000 os)))
constant_speeds [] = tt
constant_speeds (Ok a ∷ rest) = (refl, constant_speeds rest)
constant_speeds (Err why ∷ rest) = constant_speeds rest

again_verdicts : (a : Told) (os : List Outcome) → map verdict (again a os) ≡ map verdict os
again_verdicts a [] = refl
again_verdicts a (Ok b ∷ rest) = rw (again_verdicts a rest)
again_verdicts a (Err why ∷ rest) = rw (again_verdicts a rest)

repeater_verdicts : (os : List Outcome) → map verdict (first_again os) ≡ map verdict os
repeater_verdicts [] = refl
repeater_verdicts (Ok a ∷ rest) = rw (again_verdicts a rest)
repeater_verdicts (Err why ∷ rest) = rw (repeater_verdicts rest)

again_answers : (a : Told) (os : List Outcome) → All a (answers_in (again a os))
again_answers a [] = tt
again_answers a (Ok b ∷ rest) = (refl, again_answers a rest)
again_answers a (Err why ∷ rest) = again_answers a rest

repeater_answers : (os : List Outcome) → Repeated (answers_in (first_again os))
repeater_answers [] = tt
repeater_answers (Ok a ∷ rest) = again_answers a rest
repeater_answers (Err why ∷ rest) = repeater_answers rest

constant : OneSpeed eight_thousand
constant s train = (8000, λ xs. changed (map at8000) (λ os. All 8000 (map (λ a. a.speed) (answers_in os))) constant_speeds (document01 s train xs))

repeating : Repeats repeater
repeating s train xs = changed first_again (λ os. Repeated (answers_in os)) repeater_answers (document01 s train xs)

pub logics_out : LogicsOut
logics_out =
    record {
      constant_refuses = λ s train xs. unchanged (map at8000) constant_verdicts (document01 s train xs);
      constant_is = constant;
      constant_out = λ e. shut_out.not_one_speed eight_thousand e constant;
      repeater_refuses = λ s train xs. unchanged first_again repeater_verdicts (document01 s train xs);
      repeater_is = repeating;
      repeater_out = λ e. shut_out.not_repeated repeater e repeating;
    }

-- a sample that is accepted, and one that no session accepts
abbrev fresh : Session
fresh = fresh_session card_of_a 6

abbrev standing : Sample
standing = conv 0 0 0

abbrev beacon_13 : Sample
beacon_13 = conv 0 13 0

accepts : (sample_of fresh standing).outcome ≡ shows 10000 0 0
unfolding definitions
accepts = refl

refuses : (sample_of fresh beacon_13).outcome ≡ Err (numbered_refusal 9)
unfolding definitions
refuses = refl

always_refused : (s : Session) → verdict (sample_of s beacon_13).outcome ≡ given tt → ⊥
unfolding numbered_refusal
always_refused s h = cases (sample_of s beacon_13) ((demand_1.samples s beacon_13 _).0 refl) h
  where
    cases : (r : Sampled) → SampledAs s beacon_13 r → verdict r.outcome ≡ given tt → ⊥
    cases r (paper.SampledAs.refused_8 out) h = let z : ◌≡◌ {A = ℕ} 0 1 = cc in omega arith
    cases r (paper.SampledAs.refused_9 i c) h = let z : ◌≡◌ {A = ℕ} 0 1 = cc in omega arith
    cases r (paper.SampledAs.refused_10 i c f) h = let z : ◌≡◌ {A = ℕ} 0 1 = cc in omega arith
    cases r (paper.SampledAs.refused_11 i c f m) h = let z : ◌≡◌ {A = ℕ} 0 1 = cc in omega arith
    cases r (paper.SampledAs.answered i c f m) h = omega (arith, c.beacon_high)

pub logics_missed : LogicsMissed
logics_missed =
    record {
      constant_missed = λ h.
          let a : ◌≡◌ {A = ℕ} 8000 h.0 = rw accepts at (h.1 fresh standing) in
          let b : ◌≡◌ {A = ℕ} 0 h.0 = rw refuses at (h.1 fresh beacon_13) in
          omega arith;
      repeater_missed = λ f alike h.
          let first : verdict (f fresh standing).outcome ≡ given tt = rw accepts at (alike fresh standing) in
          always_refused (f fresh standing).session (sym (alike (f fresh standing).session beacon_13) ∙ rw (h fresh standing beacon_13) first);
    }
