-- The starred lines hold, by computation.
use mathlib.Core.Path.{refl}
use Rattle.demands.specs.Starred.{Starred}
use Rattle.demands.proofs.Computes.{definitions}

pub starred : Starred
unfolding definitions
starred = (refl, (refl, (refl, (refl, (refl, (refl, (refl, (refl, (refl, (refl, (refl, (refl, (refl, (refl, (refl, (refl, (refl, tt)))))))))))))))))
