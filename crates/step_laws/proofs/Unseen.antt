-- No step of a sample before the brake's own looks at the brake, and none before the beacon's at the last code.
use Prim.Native.Nat.{ℕ, ◌^◌}
use mathlib.Core.Path.{◌≡◌, refl, sym, ap, ◌∙◌}
use mathlib.Core.Bool.{Bool, true, false, ◌&&◌, not}
use lib.Dec.{eqb}
use Rattle.leaf.specs.Choosing.{pick}
use Rattle.leaf.specs.Numbers.{bit_of}
use Rattle.leaf.specs.Buttons.{announcement_button, preannouncement_button, caution_button, crossing_button, limit_button}
use Rattle.card.specs.declared.Row.{Row}
use Rattle.card.specs.declared.Card.{Card}
use Rattle.card.specs.declared.Pairs.{Pairs}
use Rattle.card.specs.Card.{protects, zones, reminds, reads_in_bts_bit}
use Rattle.signals.specs.declared.window.Waits.{Waits}
use Rattle.signals.specs.declared.window.Waits.TheVariants as waits
use Rattle.signals.specs.declared.window.Window.{Window}
use Rattle.signals.specs.declared.control.MainKind.{MainKind}
use Rattle.signals.specs.declared.control.MainKind.TheVariants as main
use Rattle.signals.specs.Windows.{closed, asks_of}
use Rattle.signals.specs.MainControl.{near_of}
use Rattle.sides.specs.Limit.{no_limit}
use Rattle.sides.specs.Pairs.{no_first, is_second, lowest_to_go, paired_now, four_with}
use Rattle.desk.specs.declared.brake.Brake.{Brake}
use Rattle.desk.specs.declared.state.Desk.{Desk}
use Rattle.desk.specs.declared.clock.Turn.{Turn}
use Rattle.desk.specs.State.{with_brake, with_code, with_window, with_side, with_limit, with_paired, taken_over, crossing_set, limit_now, mode_changed}
use Rattle.desk.specs.Clock.{same_mode, desk_older, reminded, main_counts, side_counts, main_missed, side_missed, advanced, begun}
use Rattle.buttons.specs.Buttons.{chosen, answered_by, main_answered, side_answered, pressed, free_for, option_used, limit_removed, paired_removed, single_first, lowest_removed, reminder_answered, override_armed, stop_increased, limit_stepped, crossing_pressed, limit_pressed, override_pressed, increase_pressed, hide_pressed, window_presses, all_presses, presses_of}
use Rattle.beacons.specs.Beacons.{main_opened, side_opened, reading1, reading_row, option_offered, reading3, reading4, zone_or, zone_met, reading7, stopped, reading8, reading9, reading_single, speed_of_pair, first_kept, reading_first, drops_single, single_dropped, pair_set, reading_second, reading_paired, reading_limit, reading_of, reads_of, read_if, beacon_taken}
use Rattle.step.specs.declared.Input.{Input}
use Rattle.step.specs.declared.Stepped.{Stepped}
use Rattle.step.specs.Speed.{crossing_turned, supervised_of}
use Rattle.step.specs.Brake.{lowest, braked}
use Rattle.step.specs.Step.{has_pairs, limit_goes, moved_of, answer_of, judged_of, step_of}
use Rattle.step_laws.specs.Walk.{at_beacon}
use Rattle.step_laws.specs.Unseen.{BrakeUnseen}
use Rattle.step_laws.proofs.Lamps.{lamps_else}

-- what a desk gets in place of its own: another brake, or another last code
pub data Other : Type 0 where
  other_brake : Brake → Other
  other_code : ℕ → Other

abbrev brake_or : Other → Brake → Brake
brake_or (other_brake c) b = c
brake_or (other_code n) b = b

abbrev code_or : Other → ℕ → ℕ
code_or (other_brake c) n = n
code_or (other_code m) n = m

module _ (o : Other) where
  abbrev pub swapped : Desk → Desk
  swapped d = with_brake (brake_or o d.brake) (with_code (code_or o d.code) d)

  -- of a desk with the other in place of its own f gives what it gives of the desk, with `put` done to that
  pub record Unseen {A : Type 0} (put : A → A) (f : Desk → A) : Type 0 where
    pub at : (d : Desk) → f (swapped d) ≡ put (f d)

  -- a step that does not look at it, and leaves it as it is
  abbrev pub Blind : (Desk → Desk) → Type 0
  Blind f = Unseen swapped f

  -- a turn, with the other on its desk
  abbrev pub turn_with : Turn → Turn
  turn_with t = record { desk = swapped t.desk; cause = t.cause }

  -- ---- nothing, one step after another, and a choice

  same : Blind (λ d. d)
  same = record { at = λ d. refl }

  infixl 5 ◌then◌
  ◌then◌ : {A : Type 0} {put : A → A} {f : Desk → Desk} {g : Desk → A} → Blind f → Unseen put g → Unseen put (λ d. g (f d))
  ◌then◌ {f} {g} p q = record { at = λ d. ap g (p.at d) ∙ q.at (f d) }

  either : {A : Type 0} {put : A → A} (t : Bool) {f g : Desk → A} → Unseen put f → Unseen put g → Unseen put (λ d. pick t (f d) (g d))
  either true p q = record { at = p.at }
  either false p q = record { at = q.at }

  -- a step that is taken or not
  taken_or : (f : Bool → Desk → Desk) → Blind (f true) → Blind (f false) → (t : Bool) → Blind (f t)
  taken_or f p q true = p
  taken_or f p q false = q

  -- ---- what is set

  taken : (kind : MainKind) (age distance : ℕ) → Blind (taken_over kind age distance)
  unfolding taken_over
  taken kind age distance = record { at = λ d. refl }

  crossing : (age distance : ℕ) → Blind (crossing_set age distance)
  unfolding crossing_set
  crossing age distance = record { at = λ d. refl }

  limit : (answered : Bool) (age : ℕ) → Blind (limit_now answered age)
  unfolding limit_now
  limit answered age = record { at = λ d. refl }

  window : (w : Window) → Blind (with_window w)
  window w = record { at = λ d. refl }

  side : (w : Window) → Blind (with_side w)
  side w = record { at = λ d. refl }

  main_counts_lem : Blind main_counts
  unfolding main_counts
  main_counts_lem = record { at = λ d. (either (asks_of d.window.waits) (taken main.Announcement d.window.age d.window.distance) same).at d }

  side_counts_lem : Blind side_counts
  unfolding side_counts
  side_counts_lem = record { at = λ d. (either (asks_of d.side.waits) (crossing d.side.age d.side.distance) same).at d }

  -- ---- mode; ages and misses

  main_missed_lem : (t : Bool) → Blind (main_missed t)
  unfolding main_missed
  main_missed_lem = taken_or main_missed (main_counts_lem then window closed) same

  side_missed_lem : (t : Bool) → Blind (side_missed t)
  unfolding side_missed
  side_missed_lem = taken_or side_missed (side_counts_lem then side closed) same

  advance : (m : ℕ) (reminds : Bool) (x y : ℕ) → Blind (λ d. reminded reminds x y (desk_older m d))
  unfolding reminded desk_older
  advance m reminds x y = record { at = λ d. refl }

  advanced_turn : (m : ℕ) (reminds : Bool) (x y : ℕ) → Unseen turn_with (advanced m reminds x y)
  unfolding advanced desk_older
  advanced_turn m reminds x y =
      record {
        at = λ d.
            ap (λ (e : Desk). record { desk = e; cause = (advanced m reminds x y d).cause })
            ((advance m reminds x y then main_missed_lem _ then side_missed_lem _).at d);
      }

  changed_turn : (bts : Bool) → Unseen turn_with (λ d. record { desk = mode_changed bts d; cause = 0 })
  unfolding mode_changed
  changed_turn bts = record { at = λ d. refl }

  begun_turn : (bts : Bool) (m : ℕ) (reminds : Bool) (x y : ℕ) → Unseen turn_with (begun bts m reminds x y)
  unfolding begun
  begun_turn bts m reminds x y = record { at = λ d. (either (same_mode d.bts bts) (advanced_turn m reminds x y) (changed_turn bts)).at d }

  -- ---- buttons

  chosen-blind : (weight age distance : ℕ) → Blind (chosen weight age distance)
  unfolding chosen
  chosen-blind weight age distance =
      either (eqb weight announcement_button) (taken main.Announcement age distance)
      (either (eqb weight preannouncement_button) (taken main.Preannouncement age distance)
      (either (eqb weight caution_button) (taken main.Caution age distance)
      (either (eqb weight crossing_button) (crossing age distance) (either (eqb weight limit_button) (limit true age) same))))

  answered_by_lem : (weight : ℕ) (w : Window) → Blind (answered_by weight w)
  unfolding answered_by
  answered_by_lem weight w = either (asks_of w.waits) (chosen-blind weight w.age w.distance) same

  main_answered_lem : (t : Bool) (weight : ℕ) → Blind (main_answered t weight)
  unfolding main_answered
  main_answered_lem true weight = record { at = λ d. (answered_by_lem weight d.window then window closed).at d }
  main_answered_lem false weight = same

  side_answered_lem : (t : Bool) (weight : ℕ) → Blind (side_answered t weight)
  unfolding side_answered
  side_answered_lem true weight = record { at = λ d. (answered_by_lem weight d.side then side closed).at d }
  side_answered_lem false weight = same

  pressed-blind : (on : Bool) (weight : ℕ) → Blind (pressed on weight)
  unfolding pressed
  pressed-blind on weight = record { at = λ d. (main_answered_lem _ weight then side_answered_lem _ weight).at d }

  option_used_lem : (t : Bool) → Blind (option_used t)
  unfolding option_used
  option_used_lem = taken_or option_used (record { at = λ d. refl }) same

  limit_removed_lem : (t : Bool) → Blind (limit_removed t)
  unfolding limit_removed
  limit_removed_lem = taken_or limit_removed (record { at = λ d. refl }) same

  paired_removed_lem : (speed : ℕ) → Blind (paired_removed speed)
  unfolding paired_removed
  paired_removed_lem speed = either (eqb speed 0) same (record { at = λ d. refl })

  lowest_removed_lem : (t : Bool) (m : ℕ) (row : Row) (top : ℕ) → Blind (lowest_removed t m row top)
  unfolding lowest_removed
  lowest_removed_lem true m row top =
      record {
        at = λ d.
            let speed : ℕ = lowest_to_go m top d.beside.paired.limits in
            (either (single_first m row top speed d) (limit_removed_lem true) (paired_removed_lem speed)).at d;
      }
  lowest_removed_lem false m row top = same

  reminder_answered_lem : (t : Bool) → Blind (reminder_answered t)
  unfolding reminder_answered
  reminder_answered_lem = taken_or reminder_answered (record { at = λ d. refl }) same

  override_armed_lem : (t : Bool) → Blind (override_armed t)
  unfolding override_armed
  override_armed_lem = taken_or override_armed (record { at = λ d. refl }) same

  stop_increased_lem : (t : Bool) → Blind (stop_increased t)
  unfolding stop_increased
  stop_increased_lem = taken_or stop_increased (record { at = λ d. refl }) same

  limit_stepped_lem : (t : Bool) → Blind (limit_stepped t)
  unfolding limit_stepped
  limit_stepped_lem = taken_or limit_stepped (record { at = λ d. refl }) same

  hide_pressed_lem : (t : Bool) → Blind (hide_pressed t)
  unfolding hide_pressed
  hide_pressed_lem = taken_or hide_pressed (record { at = λ d. refl }) same

  crossing_pressed_lem : (on : Bool) → Blind (crossing_pressed on)
  unfolding crossing_pressed free_for
  crossing_pressed_lem on = record { at = λ d. (pressed-blind on crossing_button then option_used_lem _).at d }

  limit_pressed_lem : (on : Bool) (m : ℕ) (row : Row) (top : ℕ) → Blind (limit_pressed on m row top)
  unfolding limit_pressed free_for
  limit_pressed_lem on m row top = record { at = λ d. (pressed-blind on limit_button then lowest_removed_lem _ m row top).at d }

  override_pressed_lem : (on : Bool) → Blind (override_pressed on)
  unfolding override_pressed
  override_pressed_lem on = record { at = λ d. (reminder_answered_lem _ then override_armed_lem _).at d }

  increase_pressed_lem : (on paired : Bool) (row : Row) (top : ℕ) → Blind (increase_pressed on paired row top)
  unfolding increase_pressed
  increase_pressed_lem on paired row top = record { at = λ d. (stop_increased_lem _ then limit_stepped_lem _).at d }

  all_presses_lem : (b m : ℕ) (paired : Bool) (row : Row) (top : ℕ) → Blind (all_presses b m paired row top)
  unfolding all_presses window_presses
  all_presses_lem b m paired row top =
      pressed-blind _ _ then pressed-blind _ _ then pressed-blind _ _ then pressed-blind _ _ then pressed-blind _ _
      then crossing_pressed_lem _ then limit_pressed_lem _ m row top then override_pressed_lem _ then increase_pressed_lem _ paired row top then hide_pressed_lem _

  presses : (b m : ℕ) (paired : Bool) (row : Row) (top : ℕ) → Blind (presses_of b m paired row top)
  unfolding presses_of
  presses b m paired row top = either (eqb b 0) same (all_presses_lem b m paired row top)

  -- ---- beacon

  main_opened_lem : (w : Waits) → Blind (main_opened w)
  unfolding main_opened
  main_opened_lem w = record { at = λ d. refl }

  side_opened_lem : (w : Waits) → Blind (side_opened w)
  unfolding side_opened
  side_opened_lem w = record { at = λ d. refl }

  reading_row_lem : (kind : MainKind) (w : Waits) → Blind (reading_row kind w)
  unfolding reading_row
  reading_row_lem kind w = main_counts_lem then taken kind 0 0 then main_opened_lem w

  option_offered_lem : (t : Bool) → Blind (option_offered t)
  unfolding option_offered
  option_offered_lem = taken_or option_offered (record { at = λ d. refl }) same

  reading4-blind : (t : Bool) → Blind (reading4 t)
  unfolding reading4
  reading4-blind = taken_or reading4 (record { at = λ d. refl }) same

  zone_or_lem : (t : Bool) → Blind (zone_or t)
  zone_or_lem = taken_or zone_or (taken main.Zone 0 0 then window _) (taken main.BeforeStop 0 0 then main_opened_lem waits.Seven)

  zone_met_lem : Unseen (λ t. t) zone_met
  unfolding zone_met
  zone_met_lem = record { at = λ d. ap (λ (e : Desk). near_of e.main) (main_counts_lem.at d) }

  reading7-blind : (zones : Bool) → Blind (reading7 zones)
  unfolding reading7
  reading7-blind zones =
      record {
        at = λ d.
            ap (λ (t : Bool). zone_or (t && zones) (main_counts (swapped d))) (zone_met_lem.at d)
            ∙ (main_counts_lem then zone_or_lem (zone_met d && zones)).at d;
      }

  stopped-blind : Blind stopped
  unfolding stopped
  stopped-blind = record { at = λ d. refl }

  first_kept_lem : (code : ℕ) (own : Bool) → Blind (first_kept code own)
  unfolding first_kept
  first_kept_lem code own = record { at = λ d. refl }

  limit_off : Blind (with_limit no_limit)
  limit_off = record { at = λ d. refl }

  single_dropped_lem : Blind single_dropped
  unfolding single_dropped
  single_dropped_lem = record { at = λ d. (either (drops_single d.beside.paired.first d.beside.limit) limit_off same).at d }

  pair_set_lem : (speed : ℕ) → Blind (pair_set speed)
  unfolding pair_set
  pair_set_lem speed =
      record {
        at = λ d.
            ap (λ (e : Desk). with_paired (record { first = no_first; limits = four_with speed paired_now d.beside.paired.limits }) e) (single_dropped_lem.at d);
      }

  reading_limit_lem : (code : ℕ) (paired : Bool) (pairs : Pairs) → Blind (reading_limit code paired pairs)
  unfolding reading_limit reading_single reading_paired reading_first reading_second
  reading_limit_lem code paired pairs =
      either paired
      (record {
        at = λ d.
            (either (is_second pairs.distance d.beside.paired.first)
            (side_counts_lem then pair_set_lem (speed_of_pair pairs d.beside.paired.first code) then side_opened_lem waits.Limit)
            (side_counts_lem then limit false 0 then first_kept_lem code (not d.beside.limit.on) then side_opened_lem waits.Limit)).at d;
      })
      (side_counts_lem then limit false 0 then side_opened_lem waits.Limit)

  reading_of_lem : (code : ℕ) (protects zones paired : Bool) (pairs : Pairs) → Blind (reading_of code protects zones paired pairs)
  unfolding reading_of reading1 reading3 reading8 reading9
  reading_of_lem code protects zones paired pairs =
      either (eqb code 1) (main_counts_lem then main_opened_lem waits.One)
      (either (eqb code 2) (reading_row_lem main.ConditionalClear waits.Two)
      (either (eqb code 3) (main_counts_lem then taken main.Clear 0 0 then window closed then option_offered_lem protects)
      (either (eqb code 4) (reading4-blind protects)
      (either (eqb code 5) (reading_row_lem main.Preannouncement waits.Five)
      (either (eqb code 6) (reading_row_lem main.Caution waits.Six)
      (either (eqb code 7) (reading7-blind zones)
      (either (eqb code 8) (main_counts_lem then stopped-blind)
      (either (eqb code 9) (side_counts_lem then side_opened_lem waits.Nine) (reading_limit_lem code paired pairs)))))))))

  read_if_lem : (t : Bool) (code : ℕ) (protects zones paired : Bool) (pairs : Pairs) → Blind (read_if t code protects zones paired pairs)
  unfolding read_if
  read_if_lem true code protects zones paired pairs = reading_of_lem code protects zones paired pairs
  read_if_lem false code protects zones paired pairs = same

  -- what is not the last code
  abbrev pub Keeps : Type 0
  Keeps = (n : ℕ) → code_or o n ≡ n

  -- the beacon's step looks at the last code, and at no more
  beacon_turn : Keeps → (code : ℕ) (protects zones f3 paired : Bool) (pairs : Pairs) → Unseen turn_with (beacon_taken code protects zones f3 paired pairs)
  unfolding beacon_taken
  beacon_turn keeps code protects zones f3 paired pairs =
      record {
        at = λ d.
            let taken : ℕ → Desk → Turn = λ last e.
            record {
              desk = read_if (reads_of code f3 d.bts last) code protects zones paired pairs e;
              cause = pick (reads_of code f3 d.bts last && eqb code 8 && not d.armed.armed) 4 0;
            } in
            ap (λ (last : ℕ). taken last (with_code code (swapped d))) (keeps d.code)
            ∙ ap (λ (n : ℕ). taken d.code (with_code n (swapped d))) (sym (keeps code))
            ∙ ap (λ (e : Desk). record { desk = e; cause = (beacon_taken code protects zones f3 paired pairs d).cause })
            ((read_if_lem _ code protects zones paired pairs).at (with_code code d));
      }

  -- ---- all the steps before the speed's

  module _ (card : Card) (top : ℕ) (x : Input) where
    abbrev first : Desk → Turn
    first d = begun x.bts x.m (reminds card.settings.functions) card.settings.x card.settings.y d

    -- to the beacon
    pub at_beacon_lem : Blind (at_beacon card top x)
    at_beacon_lem =
        record {
          at = λ d.
              ap (λ (t : Turn). presses_of x.buttons x.m (has_pairs card.version) card.settings.limit top t.desk) ((begun_turn _ _ _ _ _).at d)
              ∙ (presses _ _ _ _ _).at (first d).desk;
        }

    pub first-cause : (d : Desk) → (first (swapped d)).cause ≡ (first d).cause
    first-cause d = ap (λ (t : Turn). t.cause) ((begun_turn _ _ _ _ _).at d)

    -- and with it
    abbrev after : Turn → Turn
    after t =
        let pressed : Desk = presses_of x.buttons x.m (has_pairs card.version) card.settings.limit top t.desk in
        let read : Turn = beacon_taken x.beacon (protects card.settings.functions) (zones card.settings.functions) (reads_in_bts_bit card.settings.functions) (has_pairs card.version) card.settings.pairs pressed in
        record { desk = read.desk; cause = lowest t.cause read.cause }

    moved_turn : Keeps → Unseen turn_with (moved_of card top x)
    unfolding moved_of
    moved_turn keeps =
        record {
          at = λ d.
              ap after ((begun_turn _ _ _ _ _).at d)
              ∙ ap (λ (t : Turn). record { desk = t.desk; cause = lowest (first d).cause t.cause })
              ((presses _ _ _ _ _ then beacon_turn keeps _ _ _ _ _ _).at (first d).desk);
        }

-- ---- of every sample

module _ (card : Card) (top : ℕ) (x : Input) (d : Desk) (other : Brake) where
  abbrev moved : Turn
  moved = moved_of card top x d

  -- the steps before the speed's leave the desk that is judged, with the other brake
  judged : step_of card top x (with_brake other d) ≡ judged_of card.settings top x moved.cause (with_brake other moved.desk)
  unfolding step_of
  judged = ap (λ (t : Turn). judged_of card.settings top x t.cause t.desk) ((moved_turn (other_brake other) card top x (λ n. refl)).at d)

  lamps : (k : ℕ) → (k ≡ 10 → ⊥) → bit_of (step_of card top x (with_brake other d)).answer.lamps (2 ^ k) ≡ bit_of (step_of card top x d).answer.lamps (2 ^ k)
  unfolding step_of judged_of answer_of limit_goes crossing_turned braked
  lamps k h =
      let turned : Desk = crossing_turned x.m moved.desk in
      ap (λ (r : Stepped). bit_of r.answer.lamps (2 ^ k)) judged ∙ lamps_else k h _ _ _ turned ∙ sym (lamps_else k h _ _ _ turned)

  pub brake_unseen : BrakeUnseen card top x d other
  unfolding step_of judged_of answer_of crossing_turned supervised_of braked
  brake_unseen =
      record {
        arose = ap (λ (r : Stepped). r.arose) judged;
        desk = λ b. ap (λ (r : Stepped). with_brake b r.desk) judged;
        speed = ap (λ (r : Stepped). r.answer.speed) judged;
        icon = ap (λ (r : Stepped). r.answer.icon) judged;
        limit = ap (λ (r : Stepped). r.answer.limit) judged;
        lamps = lamps;
      }
