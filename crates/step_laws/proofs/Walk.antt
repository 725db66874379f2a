-- The walk through the steps of a sample: what is shown of each single thing that can happen is so of the whole.
use Prim.Native.Nat.{ℕ, suc, ◌^◌, ◌≤◌}
use native.Mathlib.Omega.{arith}
use mathlib.Core.Path.{◌≡◌, refl}
use mathlib.Core.Bool.{Bool, true, false, ◌&&◌, ◌||◌, not}
use lib.Dec.{eqb, leb}
use borrow.Author.Tests.{eqb-true, eqb-false, eq-eqb, leb-true}
use Rattle.leaf.specs.Choosing.{and_split}
use Rattle.leaf.specs.Numbers.{bit_of}
use Rattle.leaf.specs.Buttons.{announcement_button, preannouncement_button, caution_button, crossing_button, limit_button, override_button}
use Rattle.card.specs.declared.Row.{Row}
use Rattle.card.specs.declared.Card.{Card}
use Rattle.card.specs.Card.{protects, zones, reminds}
use Rattle.signals.specs.declared.window.Waits.{Waits}
use Rattle.signals.specs.declared.window.Waits.TheVariants as waits
use Rattle.signals.specs.declared.window.Window.{Window}
use Rattle.signals.specs.declared.control.MainKind.{MainKind}
use Rattle.signals.specs.declared.control.MainKind.TheVariants as main
use Rattle.signals.specs.Windows.{is_open, asks_of}
use Rattle.sides.specs.Pairs.{is_second, lowest_to_go}
use Rattle.desk.specs.declared.state.Desk.{Desk}
use Rattle.desk.specs.declared.clock.Turn.{Turn}
use Rattle.desk.specs.State.{with_code, taken_over, crossing_set, limit_now, mode_changed}
use Rattle.desk.specs.Clock.{same_mode, reminded, main_counts, side_counts, main_missed, side_missed, advanced, begun}
use Rattle.buttons.specs.Buttons.{chosen, answered_by, main_answered, side_answered, pressed, option_used, limit_removed, reminder_answered, override_armed, stop_increased, limit_stepped, crossing_pressed, limit_pressed, override_pressed, increase_pressed, hide_pressed, lowest_removed, single_first, window_presses, all_presses, presses_of}
use Rattle.beacons.specs.Beacons.{is_beacon, is_side, reads_of, reading1, reading_row, option_offered, reading3, reading4, zone_or, zone_met, reading7, reading8, reading9, reading_single, reading_first, reading_second, reading_paired, reading_limit, reading_of, read_if, beacon_taken}
use Rattle.step.specs.declared.Input.{Input}
use Rattle.step.specs.Step.{has_pairs, moved_of}
use Rattle.step_laws.specs.Walk.{at_beacon, reads_at, is_limit, reads_limit, Sets, ToBeacon, OfBeacon}
use Rattle.step_laws.proofs.Choosing.{pick_by, pick_has, step_has}

-- any age, any distance: where P does not speak of readings
abbrev pub AnyReading : ℕ → ℕ → Type 0
AnyReading age distance = Unit {0}

-- what is set keeps a P that speaks of no reading, where it is kept whatever age and distance are
pub sets_any : {P : Desk → Type 0} → ((kind : MainKind) (age distance : ℕ) (e : Desk) → P e → P (taken_over kind age distance e))
    → ((age distance : ℕ) (e : Desk) → P e → P (crossing_set age distance e)) → ((age : ℕ) (e : Desk) → P e → P (limit_now true age e)) → Sets P AnyReading
sets_any taken crossing limit =
    record {
      now = tt;
      main_reading = λ e h. tt;
      side_reading = λ e h. tt;
      taken = λ kind age distance e r h. taken kind age distance e h;
      crossing = λ age distance e r h. crossing age distance e h;
      limit = λ age distance e r h. limit age e h;
    }

-- ---- what is set

module _ {P : Desk → Type 0} {R : ℕ → ℕ → Type 0} (k : Sets P R) where
  main_counts_lem : (e : Desk) → P e → P (main_counts e)
  unfolding main_counts
  main_counts_lem e h = pick_has P (asks_of e.window.waits) (k.taken main.Announcement _ _ e (k.main_reading e h) h) h

  side_counts_lem : (e : Desk) → P e → P (side_counts e)
  unfolding side_counts
  side_counts_lem e h = pick_has P (asks_of e.side.waits) (k.crossing _ _ e (k.side_reading e h) h) h

  chosen_keeps : (weight age distance : ℕ) (e : Desk) → R age distance → P e → P (chosen weight age distance e)
  unfolding chosen
  chosen_keeps weight age distance e r h =
      pick_has P (eqb weight announcement_button) (k.taken main.Announcement age distance e r h)
      (pick_has P (eqb weight preannouncement_button) (k.taken main.Preannouncement age distance e r h)
      (pick_has P (eqb weight caution_button) (k.taken main.Caution age distance e r h)
      (pick_has P (eqb weight crossing_button) (k.crossing age distance e r h) (pick_has P (eqb weight limit_button) (k.limit age distance e r h) h))))

  pub answered_keeps : (weight : ℕ) (w : Window) (e : Desk) → R w.age w.distance → P e → P (answered_by weight w e)
  unfolding answered_by
  answered_keeps weight w e r h = pick_has P (asks_of w.waits) (chosen_keeps weight w.age w.distance e r h) h

-- ---- buttons, lowest bit first

-- presses that no window takes, each with its use or without
pub record Uses (P : Desk → Type 0) : Type 0 where
  pub option : (b : Bool) (e : Desk) → P e → P (option_used b e)
  pub removed : (b : Bool) (m : ℕ) (row : Row) (top : ℕ) (e : Desk) → P e → P (lowest_removed b m row top e)
  pub answered : (b : Bool) (e : Desk) → P e → P (reminder_answered b e)
  pub armed : (b : Bool) (e : Desk) → P e → P (override_armed b e)
  pub increased : (b : Bool) (e : Desk) → P e → P (stop_increased b e)
  pub stepped : (b : Bool) (e : Desk) → P e → P (limit_stepped b e)
  pub hidden : (b : Bool) (e : Desk) → P e → P (hide_pressed b e)

-- the desk where increase is looked at
abbrev pub at_increase : ℕ → ℕ → Row → ℕ → Desk → Desk
at_increase b m row top e =
    override_pressed (bit_of b override_button) (limit_pressed (bit_of b limit_button) m row top (crossing_pressed (bit_of b crossing_button) (window_presses b e)))

-- P k holds where the buttons below k are done; those from 7 on are not for windows
pub to_increase :
    (x : Input) (P : ℕ → Desk → Type 0)
    → ((k : ℕ) (e : Desk) → P k e → P (suc k) (pressed (bit_of x.buttons (2 ^ k)) (2 ^ k) e))
    → ((k : ℕ) → Uses (P k))
    → (m : ℕ) (row : Row) (top : ℕ) (e : Desk) → P 0 e → P 7 (at_increase x.buttons m row top e)
unfolding override_pressed limit_pressed crossing_pressed window_presses
to_increase x P press u m row top e h =
    let windows = press 4 _ (press 3 _ (press 2 _ (press 1 _ (press 0 _ h)))) in
    let sides = (u 7).removed _ _ _ _ _ (press 6 _ ((u 6).option _ _ (press 5 _ windows))) in
    (u 7).armed _ _ ((u 7).answered _ _ sides)

pub all_pressed :
    (x : Input) (P : ℕ → Desk → Type 0)
    → ((k : ℕ) (e : Desk) → P k e → P (suc k) (pressed (bit_of x.buttons (2 ^ k)) (2 ^ k) e))
    → ((k : ℕ) → Uses (P k))
    → (m : ℕ) (paired : Bool) (row : Row) (top : ℕ) (e : Desk) → P 0 e → P 7 (all_presses x.buttons m paired row top e)
unfolding all_presses increase_pressed
all_pressed x P press u m paired row top e h = (u 7).hidden _ _ ((u 7).stepped _ _ ((u 7).increased _ _ (to_increase x P press u m row top e h)))

-- ---- up to the beacon

module _ {card : Card} {top : ℕ} {x : Input} {d : Desk} {P : Desk → Type 0} {R : ℕ → ℕ → Type 0} (k : Sets P R) (t : ToBeacon card top x d P) where
  -- ---- mode; ages and misses

  main_missed_lem : (b : Bool) (e : Desk) → P e → P (main_missed b e)
  unfolding main_missed
  main_missed_lem true e h = t.main_closed _ (main_counts_lem k e h)
  main_missed_lem false e h = h

  side_missed_lem : (b : Bool) (e : Desk) → P e → P (side_missed b e)
  unfolding side_missed
  side_missed_lem true e h = t.side_closed _ (side_counts_lem k e h)
  side_missed_lem false e h = h

  pub begun_has : P (begun x.bts x.m (reminds card.settings.functions) card.settings.x card.settings.y d).desk
  unfolding begun advanced reminded
  begun_has = pick_by (λ (u : Turn). P u.desk) (same_mode d.bts x.bts) {x = advanced x.m (reminds card.settings.functions) card.settings.x card.settings.y d} {y = record { desk = mode_changed x.bts d; cause = 0 }} on (λ e. t.changed e)
    where
      on : same_mode d.bts x.bts ≡ true → P (advanced x.m (reminds card.settings.functions) card.settings.x card.settings.y d).desk
      on e = side_missed_lem _ _ (main_missed_lem _ _ (t.advanced e))

  -- ---- buttons

  main_answered_lem : (b : Bool) (weight : ℕ) (e : Desk) → P e → P (main_answered b weight e)
  unfolding main_answered
  main_answered_lem true weight e h = t.main_closed _ (answered_keeps k weight e.window e (k.main_reading e h) h)
  main_answered_lem false weight e h = h

  side_answered_lem : (b : Bool) (weight : ℕ) (e : Desk) → P e → P (side_answered b weight e)
  unfolding side_answered
  side_answered_lem true weight e h = t.side_closed _ (answered_keeps k weight e.side e (k.side_reading e h) h)
  side_answered_lem false weight e h = h

  -- button i
  pressed_keeps : (i : ℕ) (e : Desk) → P e → P (pressed (bit_of x.buttons (2 ^ i)) (2 ^ i) e)
  unfolding pressed
  pressed_keeps i e h = side_answered_lem _ _ _ (main_answered_lem _ _ e h)

  lowest_removed_lem : (b : Bool) (m : ℕ) (row : Row) (top : ℕ) (e : Desk) → P e → P (lowest_removed b m row top e)
  unfolding lowest_removed
  lowest_removed_lem true m row top e h =
      let speed : ℕ = lowest_to_go m top e.beside.paired.limits in
      pick_has P (single_first m row top speed e) (t.removed e h) (t.paired_removed_lem speed e h)
  lowest_removed_lem false m row top e h = h

  uses : Uses P
  unfolding option_used limit_removed reminder_answered override_armed stop_increased limit_stepped hide_pressed
  uses =
      record {
        option = step_has P option_used t.option (λ e h. h);
        removed = lowest_removed_lem;
        answered = step_has P reminder_answered t.answered (λ e h. h);
        armed = step_has P override_armed t.armed (λ e h. h);
        increased = step_has P stop_increased t.increased (λ e h. h);
        stepped = step_has P limit_stepped t.stepped (λ e h. h);
        hidden = step_has P hide_pressed t.hidden (λ e h. h);
      }

  -- where button 6 is looked at, with what it does to the windows and before
  pub at_limit :
      P (crossing_pressed (bit_of x.buttons crossing_button) (window_presses x.buttons
      (begun x.bts x.m (reminds card.settings.functions) card.settings.x card.settings.y d).desk))
  unfolding crossing_pressed window_presses
  at_limit = uses.option _ _ (pressed_keeps 5 _ (pressed_keeps 4 _ (pressed_keeps 3 _ (pressed_keeps 2 _ (pressed_keeps 1 _ (pressed_keeps 0 _ begun_has))))))

  pub limit_pressed_lem : (e : Desk) → P e → P (pressed (bit_of x.buttons limit_button) limit_button e)
  limit_pressed_lem e h = pressed_keeps 6 e h

  -- where increase is looked at
  pub at_increase_lem :
      P (at_increase x.buttons x.m card.settings.limit top
      (begun x.bts x.m (reminds card.settings.functions) card.settings.x card.settings.y d).desk)
  at_increase_lem = to_increase x (λ k. P) pressed_keeps (λ k. uses) _ _ _ _ begun_has

  -- all the steps up to the beacon
  pub at_beacon_lem : P (at_beacon card top x d)
  unfolding presses_of
  at_beacon_lem = let h = begun_has in pick_has P (eqb x.buttons 0) h (all_pressed x (λ k. P) pressed_keeps (λ k. uses) _ _ _ _ _ h)

-- ---- beacon

-- what is read and none of 1 to 9 is a 10 or 11
pub limit_code : (code : ℕ) (f3 bts : Bool) (last : ℕ) → reads_of code f3 bts last ≡ true
    → eqb code 1 ≡ false → eqb code 2 ≡ false → eqb code 3 ≡ false → eqb code 4 ≡ false → eqb code 5 ≡ false → eqb code 6 ≡ false → eqb code 7 ≡ false
    → eqb code 8 ≡ false → eqb code 9 ≡ false → is_limit code ≡ true
unfolding reads_of
limit_code code f3 bts last r n1 n2 n3 n4 n5 n6 n7 n8 n9 =
    let beacon = (and_split (is_beacon code) (not (eqb code last)) (and_split (is_beacon code && not (eqb code last)) (not bts || is_side code && f3) r).0).0 in
    let within = and_split (leb 1 code) (leb code 11) beacon in
    let ten : 10 ≤ code = past 9 (past 8 (past 7 (past 6 (past 5 (past 4 (past 3 (past 2 (past 1 (leb-true 1 code within.0) n1) n2) n3) n4) n5) n6) n7) n8) n9 in
    cases ten (leb-true code 11 within.1) (eqb code 10) refl
  where
    past : (n : ℕ) → n ≤ code → eqb code n ≡ false → suc n ≤ code
    past n low e = let other = eqb-false code n e in omega arith

    cases : 10 ≤ code → code ≤ 11 → (t : Bool) → eqb code 10 ≡ t → (t || eqb code 11) ≡ true
    cases low high true k = refl
    cases low high false k = let other = eqb-false code 10 k in eq-eqb code 11 (omega arith)

and_true : {a b : Bool} → a ≡ true → b ≡ true → (a && b) ≡ true
and_true p q = rw (p, q)

module _ {card : Card} {top : ℕ} {x : Input} {d : Desk} {P Q : Desk → Type 0} {R : ℕ → ℕ → Type 0} (k : Sets P R) (o : OfBeacon card top x d P Q) where
  row_has : (kind : MainKind) (w : Waits) (e : Desk) → is_open w ≡ true → P e → Q (reading_row kind w e)
  unfolding reading_row
  row_has kind w e i h = o.main_opened_lem w _ i (k.taken kind 0 0 _ k.now (main_counts_lem k e h))

  option_offered_lem : (b : Bool) (e : Desk) → Q e → Q (option_offered b e)
  unfolding option_offered
  option_offered_lem true e h = o.offered e h
  option_offered_lem false e h = h

  reading4_has : (b : Bool) (e : Desk) → P e → Q (reading4 b e)
  unfolding reading4
  reading4_has true e h = o.protected e h
  reading4_has false e h = o.unread e h

  -- the desk that a reading acts on
  abbrev here : Desk
  here = with_code x.beacon (at_beacon card top x d)

  zone_has : (b : Bool) (e : Desk) → reads_at card x (at_beacon card top x d) ≡ true → x.beacon ≡ 7 → (zone_met here && zones card.settings.functions) ≡ b → P e → Q (zone_or b e)
  zone_has true e r c z h = o.zone_opened _ r c z (k.taken main.Zone 0 0 e k.now h)
  zone_has false e r c z h = o.main_opened_lem waits.Seven _ refl (k.taken main.BeforeStop 0 0 e k.now h)

  -- a beacon 10 or 11, paired or not
  limit_has : reads_limit card x (at_beacon card top x d) ≡ true → P here → Q (reading_limit x.beacon (has_pairs card.version) card.settings.pairs here)
  unfolding reading_limit reading_single reading_paired reading_first reading_second
  limit_has r h =
      let aside = side_counts_lem k here h in
      let single = o.single _ r aside in
      pick_by Q (has_pairs card.version)
      (λ three. pick_has Q (is_second card.settings.pairs.distance here.beside.paired.first) (o.side_opened_lem waits.Limit _ refl (o.pair _ _ three r aside))
      (o.side_opened_lem waits.Limit _ refl (o.first _ _ _ three r single)))
      (λ other. o.side_opened_lem waits.Limit _ refl single)

  reading_has : reads_at card x (at_beacon card top x d) ≡ true → P here
      → Q (reading_of x.beacon (protects card.settings.functions) (zones card.settings.functions) (has_pairs card.version) card.settings.pairs here)
  unfolding reading_of reading1 reading3 reading7 reading8 reading9
  reading_has r h =
      let code : ℕ = x.beacon in
      let counted = main_counts_lem k here h in
      let aside = side_counts_lem k here h in
      pick_by Q (eqb code 1) (λ e. o.main_opened_lem waits.One _ refl counted)
      (λ n1. pick_by Q (eqb code 2) (λ e. row_has main.ConditionalClear waits.Two here refl h)
      (λ n2. pick_by Q (eqb code 3) (λ e. option_offered_lem _ _ (o.shut _ r (eqb-true code 3 e) (k.taken main.Clear 0 0 _ k.now counted)))
      (λ n3. pick_by Q (eqb code 4) (λ e. reading4_has _ here h)
      (λ n4. pick_by Q (eqb code 5) (λ e. row_has main.Preannouncement waits.Five here refl h)
      (λ n5. pick_by Q (eqb code 6) (λ e. row_has main.Caution waits.Six here refl h)
      (λ n6. pick_by Q (eqb code 7) (λ e. zone_has _ _ r (eqb-true code 7 e) refl counted)
      (λ n7. pick_by Q (eqb code 8) (λ e. o.stop _ r (eqb-true code 8 e) counted)
      (λ n8. pick_by Q (eqb code 9) (λ e. o.side_opened_lem waits.Nine _ refl aside)
      (λ n9. limit_has (and_true (limit_code code _ _ _ r n1 n2 n3 n4 n5 n6 n7 n8 n9) r) h)))))))))

  read_has : (b : Bool) → reads_at card x (at_beacon card top x d) ≡ b → P here
      → Q (read_if b x.beacon (protects card.settings.functions) (zones card.settings.functions) (has_pairs card.version) card.settings.pairs here)
  unfolding read_if
  read_has true r h = reading_has r h
  read_has false r h = o.unread here h

  -- the beacon's step
  pub after_beacon : P (with_code x.beacon (at_beacon card top x d)) → Q (moved_of card top x d).desk
  unfolding moved_of beacon_taken
  after_beacon h = read_has _ refl h
