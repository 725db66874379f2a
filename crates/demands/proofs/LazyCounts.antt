-- A count that heeds refused samples passes where all are accepted, and not where one is refused.
use Prim.Native.Nat.{ℕ}
use native.Mathlib.Omega.{arith}
use mathlib.Core.List.{List, [], ◌∷◌}
use mathlib.Core.Path.{◌≡◌, refl}
use lib.Dec.{lit≤}
use Rattle.session.specs.declared.Sample.{Sample}
use Rattle.session.specs.Session.{fresh_session}
use Rattle.demands.specs.Examples.{conv, times, card_of_a}
use Rattle.demands.specs.Standing.{accepted_of, StoodFor, Counts}
use Rattle.demands.specs.Standing as paper
use Rattle.demands.specs.Lazy.{CountsAccepted, heeds_refused, CountsOut}
use Rattle.demands.proofs.Computes.{definitions}
use Rattle.demands.proofs.Standing.{along_as}

heeds_passes : CountsAccepted heeds_refused
heeds_passes card train s xs n opens all stood = along_as xs n stood

-- card A, type 6: at 108 km/h, five samples without pulses, and one of 100.1 m/s, which is refused
abbrev run : List Sample
run = conv 300 0 0 ∷ times 5 (conv 0 0 0) (conv 1001 0 0 ∷ [])

taken : accepted_of (fresh_session card_of_a 6) run ≡ conv 300 0 0 ∷ times 5 (conv 0 0 0) []
unfolding definitions accepted_of
taken = refl

heeds_out : Counts heeds_refused → ⊥
unfolding definitions
heeds_out f =
    let five : StoodFor (accepted_of (fresh_session card_of_a 6) run) 5 =
    paper.StoodFor.since [] (conv 300 0 0) (times 5 (conv 0 0 0) []) taken (lit≤ tt) (refl, (refl, (refl, (refl, (refl, tt))))) in
    let z : ◌≡◌ {A = ℕ} 0 5 = f card_of_a 6 (fresh_session card_of_a 6) run 5 refl five in
    omega arith

pub counts_out : CountsOut
counts_out = record { heeds_passes = heeds_passes; heeds_out = heeds_out }
