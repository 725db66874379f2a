-- A turn that is asked why is the turn, beside the reason of what it shows.
use mathlib.Core.Path.{◌≡◌, refl}
use mathlib.Core.Bool.{true, false}
use lib.Dec.{eqb}
use Rattle.std.specs.Prelude.{Ok, Err}
use Rattle.session.specs.declared.Sample.{Sample}
use Rattle.session.specs.declared.Session.{Session}
use Rattle.session.specs.Session.{Outcome, sample_of}
use Rattle.session.specs.Why as session
use Rattle.rides.specs.Ride.{told_of, turn_of}
use Rattle.rides.specs.Why.{no_why, why_shown, explained_of, explained_by}
use Rattle.rides.specs.declared.ride.Ride.{Ride}
use Rattle.rides.specs.declared.ride.Shown.TheVariants as shown

module _ (r : Ride) (x : Sample) where
  pub asked_going : eqb r.ended 0 ≡ true → explained_by (session.asked_of r.session x).session (session.asked_of r.session x).told ≡ explained_of r x
  unfolding turn_of told_of session.asked_of
  asked_going going = rw going (cases (sample_of r.session x).session (sample_of r.session x).outcome)
    where
      cases : (s : Session) (o : Outcome)
          → explained_by (session.explained_of s o).session (session.explained_of s o).told
          ≡ record { turned = told_of s o; why = why_shown (told_of s o).ride.session (told_of s o).shown }
      cases s (Ok a) = refl
      cases s (Err why) = refl

  pub asked_ended : eqb r.ended 0 ≡ false → record { turned = record { ride = r; shown = shown.Nothing }; why = no_why } ≡ explained_of r x
  unfolding turn_of
  asked_ended ended = rw ended
