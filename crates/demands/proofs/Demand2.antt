-- Demand 2 holds.
use Rattle.card.proofs.Accepted.{accepted_when, accepted_only}
use Rattle.card.proofs.RoundTrip.{round_trip}
use Rattle.session.specs.Session.{ran_of}
use Rattle.session.proofs.Opening.{opening_fresh}
use Rattle.laws.proofs.Ranges.{inside_only}
use Rattle.laws.proofs.Refusals.{refusal_laws}
use Rattle.laws.proofs.Inside.{inside_laws}
use Rattle.demands.specs.Demand2.{Demand2}

pub demand_2 : Demand2
unfolding ran_of
demand_2 =
    record {
      opened = λ card train u h. (opening_fresh card train u h, inside_only u (inside_laws.opened_inside card train u h));
      always_inside = λ card train u xs h. inside_only _ (inside_laws.always_inside card train u xs h);
      answered = λ s x m. (refusal_laws s x).accepted_as ((refusal_laws s x).accepted.1 m);
      card_accepted = λ area highest s. (accepted_only area highest s, λ m. rw m.1 (accepted_when area highest m.0));
      reads_back = λ version highest s buffer met above known. round_trip version highest s buffer met above known.1;
    }
