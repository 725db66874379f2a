-- Request f holds, and its examples.
use mathlib.Core.Path.{refl}
use Rattle.step.specs.Reason.{reason_of}
use Rattle.session.specs.Why.{why_now, asked_of}
use Rattle.printed.proofs.Silence.{print_silence}
use Rattle.printed_why.proofs.Silence.{why_silence}
use Rattle.demands.specs.Why.{WhyLaws, WhyExamples, asks}
use Rattle.demands.proofs.Computes.{definitions}
use Rattle.demands.proofs.WhyAsked.{asked_exactly, numbered}
use Rattle.demands.proofs.WhyAlike.{told_alike, told_same}
use Rattle.demands.proofs.WhySince.{since, began, age_inside, age_outside}

pub why_laws : WhyLaws
why_laws =
    record {
      asked = asked_exactly;
      numbered = numbered;
      since = since;
      began = began;
      age_inside = age_inside;
      age_outside = age_outside;
      silent_column = λ form a b recording m. print_silence form a b recording m.whole_a m.whole_b m.same;
      silent_why = λ telling a b recording m. why_silence telling a b recording m.whole_a m.whole_b m.same;
      versions_told = told_same;
      functions_told = told_alike;
    }

pub why_examples : WhyExamples
unfolding definitions reason_of why_now asked_of asks
why_examples =
    record {
      paper_ride = refl;
      equal_ones = refl;
      clear_vmax = refl;
      clear_train = refl;
      through_bts = refl;
      alongside_age = refl;
      alongside_fresh = refl;
      crossing_age = refl;
      displaced_age = refl;
      limit_age = refl;
      stepped_age = refl;
      later_cause = refl;
      mode_change = refl;
      rearmed = refl;
      not_rearmed = refl;
      refused_between = refl;
    }
