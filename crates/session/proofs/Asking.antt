-- What is told of a sample: by its step where it is accepted, and as the sample is answered.
use mathlib.Core.Path.{◌≡◌, refl}
use mathlib.Core.Bool.{true, false}
use Prim.Native.Nat.{ℕ}
use Rattle.card.specs.declared.Card.{Card}
use Rattle.desk.specs.declared.state.Desk.{Desk}
use Rattle.step.specs.declared.Input.{Input}
use Rattle.std.specs.Prelude.{Ok, Err}
use Rattle.leaf.specs.Answers.{numbered_refusal}
use Rattle.step.specs.Brake.{braked}
use Rattle.step.specs.Speed.{supervised_of}
use Rattle.step.specs.Reason.{reason_of}
use Rattle.step.specs.Step.{judged_of, step_of}
use Rattle.session.specs.declared.Sample.{Sample}
use Rattle.session.specs.declared.Session.{Session}
use Rattle.session.specs.Session.{Outcome, refused_by, carried, stepped, ran_of, sample_of}
use Rattle.session.specs.Runs.{accepted}
use Rattle.session.specs.Why.{why_now, explained_of, asked_of, asked_from, sampled_from}
use Rattle.session.proofs.Runs.{accepted_runs, refused_stays}

-- the limit that a step names is that of the desk at the sample's end: the brake's step changes no limit
named_after : (card : Card) (top : ℕ) (x : Input) (d : Desk) → (step_of card top x d).named ≡ reason_of card.settings top (step_of card top x d).desk
unfolding step_of judged_of braked supervised_of reason_of
named_after card top x d = refl

module _ (s : Session) (x : Sample) where
  pub asked_accepted : accepted s x ≡ true → asked_from s (stepped s (carried s x)) ≡ asked_of s x
  unfolding asked_of ran_of why_now
  asked_accepted h = rw (accepted_runs s x h, named_after)

  pub asked_refused : accepted s x ≡ false → record { session = s; told = Err (numbered_refusal (refused_by s x)) } ≡ asked_of s x
  unfolding asked_of
  asked_refused h = rw (refused_stays s x h)

  -- without the reason it is what the sample is answered with
  pub asked_sampled : sampled_from (asked_of s x).session (asked_of s x).told ≡ sample_of s x
  unfolding asked_of
  asked_sampled = cases (sample_of s x).session (sample_of s x).outcome
    where
      cases : (t : Session) (o : Outcome) → sampled_from (explained_of t o).session (explained_of t o).told ≡ record { session = t; outcome = o }
      cases t (Ok a) = refl
      cases t (Err why) = refl
