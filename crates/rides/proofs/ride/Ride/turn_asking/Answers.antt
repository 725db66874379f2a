use Rattle.std.proofs.lemmas.Bool.{ne_eqb}
use Rattle.rides.proofs.Whys.{asked_ended}
use Rattle.rides.proofs.ride.Ride.turn_asking.Goals as goal

pub returns : goal.returns
returns c = rw c.no_why.ensures (asked_ended _ _ (ne_eqb _ _ c.if-self-eq0.false))
