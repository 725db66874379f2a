-- A sample's outcome on paper: the answer of its step, or the number of its refusal.
use mathlib.Core.Path.{◌≡◌, refl}
use mathlib.Core.Bool.{Bool, true, false}
use lib.Dec.{eqb}
use Rattle.leaf.specs.Choosing.{pick}
use Rattle.std.specs.Prelude.{Err}
use Rattle.leaf.specs.Answers.{given, refused, numbered_refusal}
use Rattle.session.specs.declared.Sample.{Sample}
use Rattle.session.specs.declared.Session.{Session}
use Rattle.session.specs.declared.Sampled.{Sampled}
use Rattle.session.specs.Session.{refused_by, carried, stepped, ran_of, sample_of, outcome_of, answer_to}
use Rattle.session.specs.Runs.{accepted}
use Rattle.session.proofs.Numbers.{refused_paper}

pub sample_paper : (s : Session) (x : Sample) → outcome_of (sample_of s x).outcome ≡ answer_to s x
unfolding ran_of sample_of answer_to
sample_paper s x = cases (eqb (refused_by s x) 0) refl
  where
    cases : (t : Bool) → accepted s x ≡ t
        → outcome_of (pick t (ran_of s x) (record { session = s; outcome = Err (numbered_refusal (refused_by s x)) })).outcome
        ≡ pick t (given (stepped s (carried s x)).answer) (refused (refused_by s x))
    cases true e = refl
    cases false e = refused_paper s x e

-- so a result that is the definition's has the definition's outcome on paper
pub on_paper : (s : Session) (x : Sample) (r : Sampled) → r ≡ sample_of s x → (r ≡ sample_of s x) × (outcome_of r.outcome ≡ answer_to s x)
on_paper s x r e = (e, rw e (sample_paper s x))
