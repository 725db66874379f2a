-- The lazy rides pass where only a ride's start is asked after, and not where its samples are.
use Prim.Native.Nat.{ℕ}
use native.Mathlib.Omega.{arith}
use mathlib.Core.Bool.{false}
use mathlib.Core.List.{List, [], ◌∷◌}
use mathlib.Core.Path.{◌≡◌, refl, sym, ◌∙◌}
use Rattle.leaf.specs.Bytes.{long}
use Rattle.leaf.specs.Answers.{Answer, given, refused}
use Rattle.step.specs.declared.Answer.{Answer as Told}
use Rattle.session.specs.Session.{answer_to}
use Rattle.rides.specs.Recording.{good_recording, samples_from}
use Rattle.rides.specs.Ride.{start_ride, told_of, turn_of, turn_shows, shown_by, whole_ride}
use Rattle.demands.specs.Examples.{card_of_a}
use Rattle.demands.specs.Lazy.{Rider, Starts, goes_on, wipes, RidesExactly, RidesOut}
use Rattle.demands.proofs.Computes.{definitions}
use Rattle.demands.proofs.Answered.{only_one}
use Rattle.demands.proofs.Ridden.{good, none_good}
use Rattle.demands.proofs.Demand1.{demand_1}

-- ---- a ride that starts as ours does

on_passes : Starts goes_on
on_passes =
    record {
      bad = λ s recording none. rw (none_good s recording none);
      unopened = λ s recording n m met e. rw (good s recording n met, e);
    }

wipes_passes : Starts wipes
wipes_passes =
    record {
      bad = λ s recording none. rw (none_good s recording none);
      unopened = λ s recording n m met e. rw (good s recording n met, e);
    }

-- ---- document 01's ride on card A, with beacon 13 in its second sample

abbrev ride_13 : List ℕ
ride_13 =
    0x00 ∷ 0x00 ∷ 0x00 ∷ 0x18 ∷ 0x01 ∷ 0x06 ∷ 0x00 ∷ 0x00 ∷ 0x00 ∷ 0x00 ∷ 0x00 ∷ 0x01 ∷ 0x00 ∷ 0x64 ∷ 0x0D ∷ 0x00 ∷ 0x00 ∷ 0x01 ∷ 0x00 ∷
    0x64 ∷ 0x00 ∷ 0x00 ∷ 0x10 ∷ 0x01 ∷ []

abbrev at100 : Answer Told
at100 = given (record { speed = 10000; lamps = 0; cause = 0; icon = 0; limit = false })

record Rides : Type 0 where
  ours : whole_ride card_of_a ride_13 ≡ given (at100 ∷ refused 9 ∷ [])
  going : goes_on card_of_a ride_13 ≡ given (at100 ∷ refused 9 ∷ at100 ∷ [])
  wiping : wipes card_of_a ride_13 ≡ given (refused 9 ∷ [])

rides : Rides
unfolding definitions whole_ride start_ride good_recording long shown_by turn_shows turn_of told_of answer_to samples_from
rides = record { ours = refl; going = refl; wiping = refl }

as_ours : (ride : Rider) → RidesExactly ride → ride card_of_a ride_13 ≡ given (at100 ∷ refused 9 ∷ [])
as_ours ride exact = only_one (exact card_of_a ride_13) (demand_1.rides card_of_a ride_13) ∙ rides.ours

pub rides_out : RidesOut
rides_out =
    record {
      on_passes = on_passes;
      on_out = λ x. let e = sym rides.going ∙ as_ours goes_on x in let z : ◌≡◌ {A = ℕ} 0 1 = cc in omega arith;
      wipes_passes = wipes_passes;
      wipes_out = λ x. let e = sym rides.wiping ∙ as_ours wipes x in let z : ◌≡◌ {A = ℕ} 0 1 = cc in omega arith;
    }
