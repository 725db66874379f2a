-- The promise of `start` determines its result: any two results that it allows are equal.
use Prim.Native.Nat.{ℕ}
use mathlib.Core.Path.{◌≡◌, sym, ◌∙◌}
use mathlib.Core.List.{List}
use Rattle.card.specs.declared.Card.{Card}
use Rattle.std.specs.Prelude.{Result}
use Rattle.leaf.specs.declared.refusal.Refusal.{Refusal}
use Rattle.session.specs.declared.Session.{Session}
use Rattle.session.specs.Session.{opened_of}
use Rattle.session.proofs.Determined.{opened_one}
use Rattle.rides.specs.Ride.{start_ride}

pub start_determined : (card : Card) (recording : List ℕ) (a b : Result Session Refusal) → opened_of a ≡ start_ride card recording
    → opened_of b ≡ start_ride card recording → a ≡ b
start_determined card recording a b pa pb = opened_one a b (pa ∙ sym pb)
