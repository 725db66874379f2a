-- The definitions that examples compute through: those up to the answer of a sample, runs of samples, and functions that speak.
use Rattle.session.specs.Runs.{after, outcomes}
use Rattle.printed.proofs.Computes.{answers}
use Rattle.demands.specs.Speaks.{meets_zone, meets_reminder, meets_limit, meets_second, differing_speaks, silent_for}

unfoldable pub definitions : Unit {0}
unfolding answers outcomes after meets_zone meets_reminder meets_limit meets_second differing_speaks silent_for
definitions = tt
