-- A limit that no beacon 10 or 11 set was set by an answer, and stays so through a sample in which none is read: by the walk through the steps
-- of a sample.
use Prim.Native.Nat.{ℕ}
use mathlib.Core.Bool.{Bool, true, false, ◌||◌, not, false≢true}
use mathlib.Core.Path.{◌≡◌, refl, sym, ◌∙◌}
use lib.Dec.{eqb}
use Rattle.card.specs.declared.Card.{Card}
use Rattle.card.specs.Card.{reminds}
use Rattle.desk.specs.declared.state.Desk.{Desk}
use Rattle.desk.specs.State.{taken_over, crossing_set, limit_now, mode_changed}
use Rattle.desk.specs.Beside.{beside_older}
use Rattle.desk.specs.Clock.{desk_older, reminded, begun}
use Rattle.sides.specs.Limit.{limit_set}
use Rattle.buttons.specs.Buttons.{option_used, limit_removed, paired_removed, reminder_answered, override_armed, stop_increased, limit_stepped, hide_pressed}
use Rattle.beacons.specs.Beacons.{main_opened, side_opened, option_offered, reading4, stopped}
use Rattle.step.specs.declared.Input.{Input}
use Rattle.step.specs.Speed.{crossing_turned}
use Rattle.step.specs.Brake.{braked}
use Rattle.step.specs.Step.{judged_of, step_of}
use Rattle.step_laws.specs.Walk.{at_beacon, reads_limit, Sets, ToBeacon, OfBeacon}
use Rattle.step_laws.proofs.Choosing.{pick_has}
use Rattle.step_laws.proofs.Walk.{AnyReading, sets_any, at_increase, at_increase_lem, at_beacon_lem, after_beacon}

-- the limit, where it stands, was last set by an answer
abbrev pub by_answer : Desk → Bool
by_answer d = not d.beside.limit.on || d.beside.limit.answered

abbrev By : Desk → Type 0
By e = by_answer e ≡ true

sets-by : Sets By AnyReading
unfolding taken_over crossing_set limit_now limit_set
sets-by = sets_any (λ kind age distance e h. h) (λ age distance e h. h) (λ age e h. refl)

module _ (card : Card) (top : ℕ) (x : Input) (d : Desk) (quiet : by_answer d ≡ true) where
  to_beacon-by : ToBeacon card top x d By
  unfolding mode_changed reminded desk_older beside_older option_used limit_removed paired_removed reminder_answered override_armed stop_increased limit_stepped hide_pressed
  to_beacon-by =
      record {
        changed = λ e. refl;
        advanced = λ e. quiet;
        main_closed = λ e h. h;
        side_closed = λ e h. h;
        option = λ e h. h;
        removed = λ e h. refl;
        paired_removed_lem = λ speed e h. pick_has By (eqb speed 0) h h;
        answered = λ e h. h;
        armed = λ e h. h;
        increased = λ e h. h;
        stepped = λ e h. h;
        hidden = λ e h. h;
      }

  -- where increase is looked at
  pub by_increase :
      by_answer
      (at_increase x.buttons x.m card.settings.limit top
      (begun x.bts x.m (reminds card.settings.functions) card.settings.x card.settings.y d).desk)
      ≡ true
  by_increase = at_increase_lem sets-by to_beacon-by

  module _ (unread : reads_limit card x (at_beacon card top x d) ≡ false) where
    of_beacon-by : OfBeacon card top x d By By
    unfolding main_opened side_opened stopped reading4 option_offered
    of_beacon-by =
        record {
          unread = λ e h. h;
          main_opened_lem = λ w e o h. h;
          side_opened_lem = λ w e o h. h;
          zone_opened = λ e r c z h. h;
          shut = λ e r c h. h;
          stop = λ e r c h. h;
          protected = λ e h. h;
          single = λ e r h. absurd (false≢true (sym unread ∙ r));
          first = λ code own e three r h. absurd (false≢true (sym unread ∙ r));
          pair = λ speed e three r h. absurd (false≢true (sym unread ∙ r));
          offered = λ e h. h;
        }

    -- after the sample
    pub by_after : by_answer (step_of card top x d).desk ≡ true
    unfolding step_of judged_of crossing_turned braked
    by_after = after_beacon sets-by of_beacon-by (at_beacon_lem sets-by to_beacon-by)
