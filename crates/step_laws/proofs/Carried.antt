-- What a sample carries through its steps: the mode from the mode's step on, the code up to the beacon's, the brake up to its own.
use Prim.Native.Nat.{ℕ}
use mathlib.Core.Path.{◌≡◌, refl, sym}
use mathlib.Core.Bool.{Bool, true, false}
use lib.Dec.{eqb}
use Rattle.leaf.specs.Choosing.{pick}
use Rattle.step_laws.proofs.Choosing.{pick_has}
use Rattle.card.specs.declared.Card.{Card}
use Rattle.signals.specs.declared.control.MainKind.TheVariants.{Announcement}
use Rattle.signals.specs.Windows.{asks_of}
use Rattle.signals.specs.MainControl.{near_of}
use Rattle.desk.specs.declared.state.Desk.{Desk}
use Rattle.desk.specs.State.{with_code, with_limit, taken_over, crossing_set, limit_now, mode_changed}
use Rattle.desk.specs.Clock.{same_mode, desk_older, reminded, main_counts}
use Rattle.buttons.specs.Buttons.{option_used, limit_removed, paired_removed, reminder_answered, override_armed, stop_increased, limit_stepped, hide_pressed}
use Rattle.beacons.specs.Beacons.{main_opened, side_opened, option_offered, reading4, zone_met, stopped, first_kept, drops_single, single_dropped, pair_set}
use Rattle.sides.specs.Limit.{no_limit}
use Rattle.step.specs.declared.Input.{Input}
use Rattle.step.specs.Speed.{crossing_turned}
use Rattle.step.specs.Brake.{braked}
use Rattle.step.specs.Step.{moved_of, judged_of, step_of}
use Rattle.step_laws.specs.Walk.{at_beacon, Sets, ToBeacon, OfBeacon, CarriedLaws}
use Rattle.step_laws.proofs.Walk.{AnyReading, sets_any, at_beacon_lem, after_beacon}

pub same_is : (a b : Bool) → same_mode a b ≡ true → a ≡ b
same_is true true h = refl
same_is true false h = sym h
same_is false true h = h
same_is false false h = refl

pub same_mode_lem : (a b : Bool) → a ≡ b → same_mode a b ≡ true
same_mode_lem true b e = rw (← e)
same_mode_lem false b e = rw (← e)

-- the code that the desk keeps is no part of the stop-zone rule
pub zone_code : (code : ℕ) (d : Desk) → zone_met (with_code code d) ≡ zone_met d
unfolding zone_met main_counts taken_over
zone_code code d = cases (asks_of d.window.waits)
  where
    cases : (t : Bool)
        → near_of (pick t (taken_over Announcement d.window.age d.window.distance (with_code code d)) (with_code code d)).main
        ≡ near_of (pick t (taken_over Announcement d.window.age d.window.distance d) d).main
    cases true = refl
    cases false = refl

module _ (card : Card) (top : ℕ) (x : Input) (d : Desk) where
  -- the sample's mode, this code, and the brake as it was
  abbrev Carries : ℕ → Desk → Type 0
  Carries code e = (e.bts ≡ x.bts) × (e.code ≡ code) × (e.brake ≡ d.brake)

  sets_carry : (code : ℕ) → Sets (Carries code) AnyReading
  unfolding taken_over crossing_set limit_now
  sets_carry code = sets_any (λ kind age distance e h. h) (λ age distance e h. h) (λ age e h. h)

  to_beacon_carry : ToBeacon card top x d (Carries d.code)
  unfolding mode_changed desk_older reminded option_used limit_removed paired_removed reminder_answered override_armed stop_increased limit_stepped hide_pressed
  to_beacon_carry =
      record {
        changed = λ e. (refl, refl, refl);
        advanced = λ e. (same_is d.bts x.bts e, refl, refl);
        main_closed = λ e h. h;
        side_closed = λ e h. h;
        option = λ e h. h;
        removed = λ e h. h;
        paired_removed_lem = λ speed e h. pick_has (Carries d.code) (eqb speed 0) h h;
        answered = λ e h. h;
        armed = λ e h. h;
        increased = λ e h. h;
        stepped = λ e h. h;
        hidden = λ e h. h;
      }

  of_beacon_carry : OfBeacon card top x d (Carries x.beacon) (Carries x.beacon)
  unfolding main_opened side_opened stopped reading4 option_offered limit_now first_kept pair_set single_dropped
  of_beacon_carry =
      record {
        unread = λ e h. h;
        main_opened_lem = λ w e o h. h;
        side_opened_lem = λ w e o h. h;
        zone_opened = λ e r c z h. h;
        shut = λ e r c h. h;
        stop = λ e r c h. h;
        protected = λ e h. h;
        single = λ e r h. h;
        first = λ code own e three r h. h;
        pair = λ speed e three r h. pick_has (Carries x.beacon) (drops_single e.beside.paired.first e.beside.limit) {x = with_limit no_limit e} {y = e} h h;
        offered = λ e h. h;
      }

  at_carries : Carries d.code (at_beacon card top x d)
  at_carries = at_beacon_lem (sets_carry d.code) to_beacon_carry

  pub moved_carries : Carries x.beacon (moved_of card top x d).desk
  moved_carries = let h = at_carries in after_beacon (sets_carry x.beacon) of_beacon_carry (h.0, refl, h.2)

  mode_after : (step_of card top x d).desk.bts ≡ x.bts
  unfolding step_of judged_of crossing_turned braked
  mode_after = moved_carries.0

  code_after : (step_of card top x d).desk.code ≡ x.beacon
  unfolding step_of judged_of crossing_turned braked
  code_after = moved_carries.1

  pub carried_laws : CarriedLaws card top x d
  carried_laws =
      record { at_mode = at_carries.0; at_code = at_carries.1; mode_after = mode_after; code_after = code_after; to_brake = moved_carries.2 }
