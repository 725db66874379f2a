-- Request g holds, and its examples.
use Prim.Native.Nat.{ℕ}
use mathlib.Core.Path.{◌≡◌, refl}
use mathlib.Core.Bool.{false}
use mathlib.Core.List.{List}
use borrow.Author.Tests.{ne_eqb}
use Rattle.leaf.specs.Answers.{given}
use Rattle.card.specs.declared.Card.{Card}
use Rattle.sides.specs.Pairs.{nothing_paired}
use Rattle.session.specs.declared.Sample.{Sample}
use Rattle.session.specs.declared.Session.{Session}
use Rattle.session.specs.Session.{fresh_session, open_session, refused_by, carried, ran_of, sample_of}
use Rattle.session.specs.Runs.{after, outcomes}
use Rattle.session.proofs.Opening.{opening_fresh}
use Rattle.step.specs.Step.{has_pairs, step_of}
use Rattle.step_laws.proofs.Pairs.{pair_laws}
use Rattle.laws.specs.Unanswered.{top_of}
use Rattle.laws.proofs.Refusals.{refusal_laws}
use Rattle.laws.proofs.Ranges.{inside_only}
use Rattle.laws.proofs.Inside.{inside_laws}
use Rattle.demands.specs.Unpaired.{outcomes01}
use Rattle.demands.specs.Pairs.{PairsRequest, PairsExamples}
use Rattle.demands.proofs.Firstless.{not_before_second}
use Rattle.demands.proofs.Unpaired.{Unpaired, never_paired, as_before}
use Rattle.demands.proofs.Computes.{definitions}

its_desk : (s : Session) (x : Sample) → refused_by s x ≡ 0 → (sample_of s x).session.desk ≡ (step_of s.card (top_of s) (carried s x) s.desk).desk
unfolding ran_of
its_desk s x h = rw ((refusal_laws s x).accepted_as h)

module _ (card : Card) (train : ℕ) (s : Session) (xs : List Sample) (opened : open_session card train ≡ given s) (older : card.version ≡ 3 → ⊥) where
  is_fresh : s ≡ fresh_session card train
  is_fresh = opening_fresh card train s opened

  without : has_pairs s.card.version ≡ false
  without = rw is_fresh (ne_eqb card.version 3 older)

  none : Unpaired s.desk
  none = rw is_fresh

  before : outcomes s xs ≡ outcomes01 s xs
  before = as_before s xs without none

  stands : (after s xs).desk.beside.paired ≡ nothing_paired
  stands = never_paired s xs without none

pub pairs_request : PairsRequest
pairs_request =
    record {
      sample_laws = λ s x. pair_laws s.card (top_of s) (carried s x) s.desk;
      its_desk = its_desk;
      as_before = before;
      none_stands = stands;
      always_inside = λ card train s xs h. inside_only (after s xs) (inside_laws.always_inside card train s xs h);
      not_before_second = not_before_second;
    }

pub pairs_examples : PairsExamples
unfolding definitions
pairs_examples =
    record {
      at_the_distance = refl;
      beyond_it = refl;
      in_that_sample = refl;
      one_pair_only = refl;
      nothing_left = refl;
      set_since = refl;
      parted = refl;
    }
