-- A reminder that is off, or due and not yet lit, stays so through a sample in which its first lighting does not come: by the walk through the
-- steps of a sample.
use Prim.Native.Nat.{ℕ}
use mathlib.Core.Bool.{Bool, true, false, ◌&&◌}
use mathlib.Core.Path.{◌≡◌, refl, sym}
use Rattle.card.specs.declared.Card.{Card}
use Rattle.card.specs.Card.{reminds}
use Rattle.signals.specs.declared.control.Main.{Main}
use Rattle.signals.specs.declared.stop.Phase.{Phase}
use Rattle.signals.specs.declared.stop.Phase.TheVariants.{Off, Due, First, Pressed, Second}
use Rattle.signals.specs.declared.stop.Reminder.{Reminder}
use Rattle.signals.specs.Stop.{is_lit, is_pressed, pressed_of, reminder_older, first_met, reminder_missed, second_met, reminded_of}
use Rattle.desk.specs.declared.state.Desk.{Desk}
use Rattle.desk.specs.State.{with_limit, taken_over, crossing_set, limit_now, mode_changed}
use Rattle.desk.specs.Clock.{same_mode, desk_older, reminded}
use Rattle.buttons.specs.Buttons.{option_used, limit_removed, paired_removed, reminder_answered, override_armed, stop_increased, limit_stepped, hide_pressed}
use Rattle.beacons.specs.Beacons.{main_opened, side_opened, option_offered, reading4, reminded_after, stopped, first_kept, drops_single, single_dropped, pair_set}
use Rattle.sides.specs.Limit.{no_limit}
use Rattle.step.specs.declared.Input.{Input}
use Rattle.step.specs.Speed.{crossing_turned}
use Rattle.step.specs.Brake.{braked}
use Rattle.step.specs.Step.{judged_of, step_of}
use Rattle.step_laws.specs.Walk.{Sets, ToBeacon, OfBeacon}
use lib.Dec.{eqb}
use Rattle.step_laws.proofs.Choosing.{pick_has}
use Rattle.step_laws.proofs.Walk.{AnyReading, sets_any, at_beacon_lem, after_beacon}

-- a reminder whose settings are not looked at: off, or due and not yet lit
abbrev pub calm : Phase → Bool
calm Off = true
calm Due = true
calm First = false
calm Pressed = false
calm Second = false

unlit : (p : Phase) → calm p ≡ true → is_lit p ≡ false
unlit Off h = refl
unlit Due h = refl
unlit First h = sym h
unlit Pressed h = refl
unlit Second h = sym h

unpressed : (p : Phase) → calm p ≡ true → is_pressed p ≡ false
unpressed Off h = refl
unpressed Due h = refl
unpressed First h = refl
unpressed Pressed h = sym h
unpressed Second h = refl

-- a press leaves it calm
press_calm : (p : Phase) → calm p ≡ true → calm (pressed_of p).phase ≡ true
press_calm Off h = refl
press_calm Due h = refl
press_calm First h = h
press_calm Pressed h = h
press_calm Second h = refl

-- where its first lighting does not come, a calm reminder stays as it is, whatever X and Y are
pub stays_calm : (c : Main) (on : Bool) (x y : ℕ) (r : Reminder) → calm r.phase ≡ true → first_met c r ≡ false
    → reminded_of c on x y r ≡ r
unfolding reminded_of reminder_missed second_met
stays_calm c on x y r h e = rw (unlit r.phase h, unpressed r.phase h, e)

-- ---- through a sample

abbrev Calm : Desk → Type 0
Calm e = calm e.reminder.phase ≡ true

-- the reminder of a stop is off, or due
after_8 : (t : Bool) → calm (reminded_after t).phase ≡ true
after_8 true = refl
after_8 false = refl

sets-calm : Sets Calm AnyReading
unfolding taken_over crossing_set limit_now
sets-calm = sets_any (λ kind age distance e h. refl) (λ age distance e h. h) (λ age e h. h)

module _ (card : Card) (top : ℕ) (x : Input) (d : Desk)
    (quiet : calm d.reminder.phase ≡ true)
    (dark : (same_mode d.bts x.bts && first_met (desk_older x.m d).main (desk_older x.m d).reminder) ≡ false) where
  advanced_calm : same_mode d.bts x.bts ≡ true → Calm (reminded (reminds card.settings.functions) card.settings.x card.settings.y (desk_older x.m d))
  unfolding reminded desk_older reminder_older
  advanced_calm e =
      let old : Desk = desk_older x.m d in
      rw (stays_calm old.main (reminds card.settings.functions) card.settings.x card.settings.y old.reminder quiet (rw e at dark)) quiet

  to_beacon-calm : ToBeacon card top x d Calm
  unfolding mode_changed option_used limit_removed paired_removed reminder_answered override_armed stop_increased limit_stepped hide_pressed
  to_beacon-calm =
      record {
        changed = λ e. refl;
        advanced = advanced_calm;
        main_closed = λ e h. h;
        side_closed = λ e h. h;
        option = λ e h. h;
        removed = λ e h. h;
        paired_removed_lem = λ speed e h. pick_has Calm (eqb speed 0) h h;
        answered = λ e h. press_calm e.reminder.phase h;
        armed = λ e h. h;
        increased = λ e h. h;
        stepped = λ e h. h;
        hidden = λ e h. h;
      }

  of_beacon-calm : OfBeacon card top x d Calm Calm
  unfolding main_opened side_opened stopped reading4 option_offered limit_now first_kept pair_set single_dropped
  of_beacon-calm =
      record {
        unread = λ e h. h;
        main_opened_lem = λ w e o h. h;
        side_opened_lem = λ w e o h. h;
        zone_opened = λ e r c z h. h;
        shut = λ e r c h. h;
        stop = λ e r c h. after_8 e.armed.armed;
        protected = λ e h. h;
        single = λ e r h. h;
        first = λ code own e three r h. h;
        pair = λ speed e three r h. pick_has Calm (drops_single e.beside.paired.first e.beside.limit) {x = with_limit no_limit e} {y = e} h h;
        offered = λ e h. h;
      }

  -- the reminder after the sample
  pub calm_after : calm (step_of card top x d).desk.reminder.phase ≡ true
  unfolding step_of judged_of crossing_turned braked
  calm_after = after_beacon sets-calm of_beacon-calm (at_beacon_lem sets-calm to_beacon-calm)
