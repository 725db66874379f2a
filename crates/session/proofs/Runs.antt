-- A sample is run, or refused.
use Prim.Native.Nat.{ℕ}
use mathlib.Core.Path.{◌≡◌, refl, sym, ap, ◌∙◌}
use mathlib.Core.Bool.{Bool, true, false}
use Rattle.std.specs.Prelude.{Err}
use Rattle.leaf.specs.Answers.{numbered_refusal}
use Rattle.session.specs.declared.Sample.{Sample}
use Rattle.session.specs.declared.Session.{Session}
use Rattle.session.specs.declared.Sampled.{Sampled}
use Rattle.session.specs.Session.{Outcome, refused_by, ran_of, sample_of}
use Rattle.session.specs.Runs.{accepted}
use Rattle.session.proofs.Numbers.{refused_is}

pub accepted_runs : (s : Session) (x : Sample) → accepted s x ≡ true → sample_of s x ≡ ran_of s x
unfolding sample_of
accepted_runs s x h = rw h

pub refused_stays : (s : Session) (x : Sample) → accepted s x ≡ false → sample_of s x ≡ record { session = s; outcome = Err (numbered_refusal (refused_by s x)) }
unfolding sample_of
refused_stays s x h = rw h

-- a sample that is refused with a number is refused by that number
pub number_given : (s : Session) (x : Sample) (n : ℕ) → sample_of s x ≡ record { session = s; outcome = Err (numbered_refusal n) }
    → (accepted s x ≡ false) × (n ≡ refused_by s x)
unfolding ran_of
number_given s x n h = cases (accepted s x) refl
  where
    given : (sample_of s x).outcome ≡ Err (numbered_refusal n)
    given = ap (λ (r : Sampled). r.outcome) h

    cases : (t : Bool) → accepted s x ≡ t → (accepted s x ≡ false) × (n ≡ refused_by s x)
    cases true e = let ran = sym (ap (λ (r : Sampled). r.outcome) (accepted_runs s x e)) ∙ given in cc
    cases false e =
        let same : ◌≡◌ {A = Outcome} (Err (numbered_refusal n)) (Err (numbered_refusal (refused_by s x))) =
        sym given ∙ ap (λ (r : Sampled). r.outcome) (refused_stays s x e) in
        (e, refused_is s x n e cc)
