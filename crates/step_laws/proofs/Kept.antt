-- What the buttons and beacons leave of the paired limits and their first, and of the single limit.
use Prim.Native.Nat.{ℕ}
use mathlib.Core.Path.{◌≡◌, refl, sym, subst, ◌∙◌}
use mathlib.Core.Bool.{Bool, true, false, ◌&&◌, not}
use mathlib.Core.Logic.{◌⊎◌, inl, inr}
use lib.Dec.{eqb}
use borrow.Author.Tests.{eqb-true}
use Rattle.leaf.specs.Choosing.{pick}
use Rattle.card.specs.declared.Row.{Row}
use Rattle.card.specs.declared.Pairs.{Pairs}
use Rattle.signals.specs.declared.window.Waits.{Waits}
use Rattle.signals.specs.declared.window.Waits.TheVariants as waits
use Rattle.signals.specs.declared.control.MainKind.{MainKind}
use Rattle.signals.specs.declared.control.MainKind.TheVariants as main
use Rattle.signals.specs.Windows.{asks_of}
use Rattle.sides.specs.declared.limit.Limit.{Limit}
use Rattle.sides.specs.declared.pairs.Paired.{Paired}
use Rattle.sides.specs.Limit.{no_limit, limit_set}
use Rattle.sides.specs.Pairs.{no_first, first_read, paired_now, four_with, lowest_to_go, all_older}
use Rattle.desk.specs.declared.state.Desk.{Desk}
use Rattle.desk.specs.State.{taken_over, crossing_set, limit_now, mode_changed, with_limit}
use Rattle.desk.specs.Beside.{beside_older}
use Rattle.desk.specs.Clock.{same_mode, desk_older, reminded, main_counts, side_counts, main_missed, side_missed, advanced, begun}
use Rattle.buttons.specs.Buttons.{main_answered, side_answered, pressed, free_for, option_used, limit_removed, paired_removed, single_first, lowest_removed, reminder_answered, override_armed, stop_increased, limit_stepped, crossing_pressed, limit_pressed, override_pressed, increase_pressed, hide_pressed, window_presses, all_presses, presses_of}
use Rattle.beacons.specs.Beacons.{reads_of, main_opened, side_opened, reading1, reading_row, option_offered, reading3, reading4, zone_or, zone_met, reading7, stopped, reading8, reading9, reading_single, first_kept, reading_first, drops_single, single_dropped, pair_set, reading_second, reading_limit, reading_of}
use Rattle.step_laws.specs.Walk.{is_limit, Sets}
use Rattle.step_laws.proofs.Walk.{AnyReading, sets_any, answered_keeps, limit_code}
use Rattle.step_laws.proofs.Choosing.{pick_by, pick_has, step_has}

-- a sample without a press goes through the buttons unchanged
unpressed : (m : ℕ) (pairs : Bool) (row : Row) (top : ℕ) (e : Desk) → all_presses 0 m pairs row top e ≡ e
unfolding all_presses hide_pressed increase_pressed limit_stepped stop_increased override_pressed override_armed reminder_answered limit_pressed lowest_removed crossing_pressed option_used window_presses pressed side_answered main_answered free_for
unpressed m pairs row top e = refl

pub all_presses_lem : (b m : ℕ) (pairs : Bool) (row : Row) (top : ℕ) (e : Desk) → presses_of b m pairs row top e ≡ all_presses b m pairs row top e
unfolding presses_of
all_presses_lem b m pairs row top e = cases (eqb b 0) refl
  where
    cases : (t : Bool) → eqb b 0 ≡ t → pick t e (all_presses b m pairs row top e) ≡ all_presses b m pairs row top e
    cases true z = rw (eqb-true b 0 z) (sym (unpressed m pairs row top e))
    cases false z = refl

-- ---- the paired limits and their first

module _ (p : Paired) where
  abbrev Has : Desk → Type 0
  Has e = e.beside.paired ≡ p

  sets : Sets Has AnyReading
  unfolding taken_over crossing_set limit_now
  sets = sets_any (λ kind age distance e h. h) (λ age distance e h. h) (λ age e h. h)

  main_counts_lem : (e : Desk) → Has e → Has (main_counts e)
  unfolding main_counts
  main_counts_lem e h = pick_has Has (asks_of e.window.waits) (sets.taken main.Announcement _ _ e tt h) h

  side_counts_lem : (e : Desk) → Has e → Has (side_counts e)
  unfolding side_counts
  side_counts_lem e h = pick_has Has (asks_of e.side.waits) (sets.crossing _ _ e tt h) h

  main_missed_lem : (b : Bool) (e : Desk) → Has e → Has (main_missed b e)
  unfolding main_missed
  main_missed_lem = step_has Has main_missed main_counts_lem (λ e h. h)

  side_missed_lem : (b : Bool) (e : Desk) → Has e → Has (side_missed b e)
  unfolding side_missed
  side_missed_lem = step_has Has side_missed side_counts_lem (λ e h. h)

  -- buttons
  main_answered_lem : (weight : ℕ) (b : Bool) (e : Desk) → Has e → Has (main_answered b weight e)
  unfolding main_answered
  main_answered_lem weight = step_has Has (λ b. main_answered b weight) (λ e h. answered_keeps sets weight e.window e tt h) (λ e h. h)

  side_answered_lem : (weight : ℕ) (b : Bool) (e : Desk) → Has e → Has (side_answered b weight e)
  unfolding side_answered
  side_answered_lem weight = step_has Has (λ b. side_answered b weight) (λ e h. answered_keeps sets weight e.side e tt h) (λ e h. h)

  pub pressed_keeps : (on : Bool) (weight : ℕ) (e : Desk) → Has e → Has (pressed on weight e)
  unfolding pressed
  pressed_keeps on weight e h = side_answered_lem weight _ _ (main_answered_lem weight _ e h)

  windows_keep : (b : ℕ) (e : Desk) → Has e → Has (window_presses b e)
  unfolding window_presses
  windows_keep b e h = pressed_keeps _ _ _ (pressed_keeps _ _ _ (pressed_keeps _ _ _ (pressed_keeps _ _ _ (pressed_keeps _ _ e h))))

  -- presses that no window takes, but for button 6
  option : (b : Bool) (e : Desk) → Has e → Has (option_used b e)
  unfolding option_used
  option = step_has Has option_used (λ e h. h) (λ e h. h)

  reminder : (b : Bool) (e : Desk) → Has e → Has (reminder_answered b e)
  unfolding reminder_answered
  reminder = step_has Has reminder_answered (λ e h. h) (λ e h. h)

  armed : (b : Bool) (e : Desk) → Has e → Has (override_armed b e)
  unfolding override_armed
  armed = step_has Has override_armed (λ e h. h) (λ e h. h)

  stop : (b : Bool) (e : Desk) → Has e → Has (stop_increased b e)
  unfolding stop_increased
  stop = step_has Has stop_increased (λ e h. h) (λ e h. h)

  stepped : (b : Bool) (e : Desk) → Has e → Has (limit_stepped b e)
  unfolding limit_stepped
  stepped = step_has Has limit_stepped (λ e h. h) (λ e h. h)

  hide : (b : Bool) (e : Desk) → Has e → Has (hide_pressed b e)
  unfolding hide_pressed
  hide = step_has Has hide_pressed (λ e h. h) (λ e h. h)

  crossing_keeps : (on : Bool) (e : Desk) → Has e → Has (crossing_pressed on e)
  unfolding crossing_pressed
  crossing_keeps on e h = option _ _ (pressed_keeps on _ e h)

  pub to_limit : (b : ℕ) (on : Bool) (e : Desk) → Has e → Has (crossing_pressed on (window_presses b e))
  to_limit b on e h = crossing_keeps on _ (windows_keep b e h)

  override_keeps : (on : Bool) (e : Desk) → Has e → Has (override_pressed on e)
  unfolding override_pressed
  override_keeps on e h = armed _ _ (reminder _ e h)

  increase_keeps : (on pairs : Bool) (row : Row) (top : ℕ) (e : Desk) → Has e → Has (increase_pressed on pairs row top e)
  unfolding increase_pressed
  increase_keeps on pairs row top e h = stepped _ _ (stop _ e h)

  pub from_limit : (on7 on8 on9 pairs : Bool) (row : Row) (top : ℕ) (e : Desk) → Has e → Has (hide_pressed on9 (increase_pressed on8 pairs row top (override_pressed on7 e)))
  from_limit on7 on8 on9 pairs row top e h = hide on9 _ (increase_keeps on8 pairs row top _ (override_keeps on7 e h))

-- ages and misses; or the mode
pub begun_same : (bts : Bool) (m : ℕ) (f : Bool) (x y : ℕ) (d : Desk) → same_mode d.bts bts ≡ true → (begun bts m f x y d).desk.beside.paired ≡ all_older m d.beside.paired
unfolding begun advanced reminded desk_older beside_older
begun_same bts m f x y d s = rw s (side_missed_lem (all_older m d.beside.paired) _ _ (main_missed_lem (all_older m d.beside.paired) _ _ refl))

pub begun_changed : (bts : Bool) (m : ℕ) (f : Bool) (x y : ℕ) (d : Desk) → same_mode d.bts bts ≡ false → (begun bts m f x y d).desk ≡ mode_changed bts d
unfolding begun
begun_changed bts m f x y d s = rw s

-- button 6 leaves the first
pub removed_first : (b : Bool) (m : ℕ) (row : Row) (top : ℕ) (e : Desk) → (lowest_removed b m row top e).beside.paired.first ≡ e.beside.paired.first
unfolding lowest_removed limit_removed paired_removed
removed_first true m row top e =
    let speed : ℕ = lowest_to_go m top e.beside.paired.limits in
    let kept : Desk → Type 0 = λ d. d.beside.paired.first ≡ e.beside.paired.first in
    pick_has kept (single_first m row top speed e) {x = limit_removed true e} {y = paired_removed speed e} refl (pick_has kept (eqb speed 0) refl refl)
removed_first false m row top e = refl

-- ---- beacons: both the paired ones and the single one

module _ (p : Paired) (l : Limit) where
  abbrev Both : Desk → Type 0
  Both e = (e.beside.paired ≡ p) × (e.beside.limit ≡ l)

  taken : (kind : MainKind) (age distance : ℕ) (e : Desk) → Both e → Both (taken_over kind age distance e)
  unfolding taken_over
  taken kind age distance e h = h

  main_aside : (e : Desk) → Both e → Both (main_counts e)
  unfolding main_counts
  main_aside e h = pick_has Both (asks_of e.window.waits) (taken main.Announcement _ _ e h) h

  crossing : (age distance : ℕ) (e : Desk) → Both e → Both (crossing_set age distance e)
  unfolding crossing_set
  crossing age distance e h = h

  pub side_aside : (e : Desk) → Both e → Both (side_counts e)
  unfolding side_counts
  side_aside e h = pick_has Both (asks_of e.side.waits) (crossing _ _ e h) h

  main_open : (w : Waits) (e : Desk) → Both e → Both (main_opened w e)
  unfolding main_opened
  main_open w e h = h

  side_open : (w : Waits) (e : Desk) → Both e → Both (side_opened w e)
  unfolding side_opened
  side_open w e h = h

  row : (kind : MainKind) (w : Waits) (e : Desk) → Both e → Both (reading_row kind w e)
  unfolding reading_row
  row kind w e h = main_open w _ (taken kind 0 0 _ (main_aside e h))

  offered : (b : Bool) (e : Desk) → Both e → Both (option_offered b e)
  unfolding option_offered
  offered = step_has Both option_offered (λ e h. h) (λ e h. h)

  protected : (b : Bool) (e : Desk) → Both e → Both (reading4 b e)
  unfolding reading4
  protected = step_has Both reading4 (λ e h. h) (λ e h. h)

  zone : (b : Bool) (e : Desk) → Both e → Both (zone_or b e)
  zone true e h = taken main.Zone 0 0 e h
  zone false e h = main_open waits.Seven _ (taken main.BeforeStop 0 0 e h)

  stops : (e : Desk) → Both e → Both (stopped e)
  unfolding stopped
  stops e h = h

  one : (e : Desk) → Both e → Both (reading1 e)
  unfolding reading1
  one e h = main_open waits.One _ (main_aside e h)

  three : (protects : Bool) (e : Desk) → Both e → Both (reading3 protects e)
  unfolding reading3
  three protects e h = offered protects _ (taken main.Clear 0 0 _ (main_aside e h))

  seven : (zones : Bool) (e : Desk) → Both e → Both (reading7 zones e)
  unfolding reading7
  seven zones e h = zone (zone_met e && zones) _ (main_aside e h)

  eight : (e : Desk) → Both e → Both (reading8 e)
  unfolding reading8
  eight e h = stops _ (main_aside e h)

  nine : (e : Desk) → Both e → Both (reading9 e)
  unfolding reading9
  nine e h = side_open waits.Nine _ (side_aside e h)

  -- every beacon but 10 and 11
  pub reading_keeps : (code : ℕ) (f3 bts : Bool) (last : ℕ) (protects zones paired : Bool) (pairs : Pairs) (e : Desk)
      → reads_of code f3 bts last ≡ true → (is_limit code ≡ true → ⊥) → Both e → Both (reading_of code protects zones paired pairs e)
  unfolding reading_of
  reading_keeps code f3 bts last protects zones paired pairs e r n h =
      pick_by Both (eqb code 1) (λ i. one e h)
      (λ n1. pick_by Both (eqb code 2) (λ i. row main.ConditionalClear waits.Two e h)
      (λ n2. pick_by Both (eqb code 3) (λ i. three protects e h)
      (λ n3. pick_by Both (eqb code 4) (λ i. protected protects e h)
      (λ n4. pick_by Both (eqb code 5) (λ i. row main.Preannouncement waits.Five e h)
      (λ n5. pick_by Both (eqb code 6) (λ i. row main.Caution waits.Six e h)
      (λ n6. pick_by Both (eqb code 7) (λ i. seven zones e h)
      (λ n7. pick_by Both (eqb code 8) (λ i. eight e h)
      (λ n8. pick_by Both (eqb code 9) (λ i. nine e h)
      (λ n9. absurd (n (limit_code code f3 bts last r n1 n2 n3 n4 n5 n6 n7 n8 n9)))))))))))

-- a 10 or 11 acts
pub limit_acts : (code : ℕ) (protects zones paired : Bool) (pairs : Pairs) (e : Desk) → (code ≡ 10) ⊎ (code ≡ 11)
    → reading_of code protects zones paired pairs e ≡ reading_limit code paired pairs e
unfolding reading_of
limit_acts code protects zones paired pairs e (inl c) = subst (λ (n : ℕ). reading_of n protects zones paired pairs e ≡ reading_limit n paired pairs e) (sym c) refl
limit_acts code protects zones paired pairs e (inr c) = subst (λ (n : ℕ). reading_of n protects zones paired pairs e ≡ reading_limit n paired pairs e) (sym c) refl

-- a single one: the paired ones stay, and it is set
pub single_keeps : (e : Desk) → (reading_single e).beside.paired ≡ e.beside.paired
unfolding reading_single side_opened limit_now
single_keeps e = (side_aside e.beside.paired e.beside.limit e (refl, refl)).0

pub single_sets : (e : Desk) → (reading_single e).beside.limit ≡ limit_set false 0 e.beside.limit
unfolding reading_single side_opened limit_now
single_sets e = rw (side_aside e.beside.paired e.beside.limit e (refl, refl)).1

-- a first
pub first-paired : (code : ℕ) (e : Desk)
    → (reading_first code e).beside.paired ≡ record { first = first_read code (not e.beside.limit.on); limits = e.beside.paired.limits }
unfolding reading_first side_opened first_kept limit_now
first-paired code e = rw (side_aside e.beside.paired e.beside.limit e (refl, refl)).0

pub first_single : (code : ℕ) (e : Desk) → (reading_first code e).beside.limit ≡ limit_set false 0 e.beside.limit
unfolding reading_first side_opened first_kept limit_now
first_single code e = rw (side_aside e.beside.paired e.beside.limit e (refl, refl)).1

-- a second
pub second_paired : (speed : ℕ) (e : Desk)
    → (reading_second speed e).beside.paired ≡ record { first = no_first; limits = four_with speed paired_now e.beside.paired.limits }
unfolding reading_second side_opened pair_set
second_paired speed e = rw (side_aside e.beside.paired e.beside.limit e (refl, refl)).0

dropped_limit : (e : Desk) → (single_dropped e).beside.limit ≡ pick (drops_single e.beside.paired.first e.beside.limit) no_limit e.beside.limit
unfolding single_dropped
dropped_limit e = cases (drops_single e.beside.paired.first e.beside.limit)
  where
    cases : (t : Bool) → (pick t (with_limit no_limit e) e).beside.limit ≡ pick t no_limit e.beside.limit
    cases true = refl
    cases false = refl

pub second_single : (speed : ℕ) (e : Desk)
    → (reading_second speed e).beside.limit ≡ pick (drops_single e.beside.paired.first e.beside.limit) no_limit e.beside.limit
unfolding reading_second side_opened pair_set
second_single speed e =
    let kept = side_aside e.beside.paired e.beside.limit e (refl, refl) in
    dropped_limit (side_counts e) ∙ rw (kept.0, kept.1)
