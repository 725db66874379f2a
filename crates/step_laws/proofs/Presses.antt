-- The two windows through the buttons, lowest bit first: which press answers which window.
use Prim.Native.Nat.{ℕ, suc, zero, ◌^◌, ◌≤◌, ◌<◌}
use native.Mathlib.Omega.{arith}
use native.Mathlib.Nat.{zero-div, div-eq_of_lt, pow-le-pow_right}
use mathlib.Core.Path.{◌≡◌, refl, sym, ap, ◌∙◌}
use mathlib.Core.Bool.{Bool, true, false, ◌&&◌, not, false≢true}
use mathlib.Core.Logic.{◌⊎◌, inl, inr}
use lib.Dec.{eqb, leb, ltb}
use borrow.Author.Tests.{eqb-true, ltb-true, ltb-false}
use Rattle.leaf.specs.Choosing.{pick, and_split}
use Rattle.leaf.specs.Numbers.{bit_of}
use Rattle.card.specs.declared.Card.{Card}
use Rattle.card.specs.declared.Row.{Row}
use Rattle.sides.specs.Pairs.{lowest_to_go}
use Rattle.card.specs.Card.{reminds}
use Rattle.signals.specs.declared.window.Waits.{Waits}
use Rattle.signals.specs.declared.window.Waits.TheVariants.{Nothing, One, Two, Five, Six, Seven, Zone, Nine, Limit}
use Rattle.signals.specs.declared.window.Window.{Window}
use Rattle.signals.specs.Windows.{zone_press, closed, window_older, missed_of, waits_for, answers_of}
use Rattle.desk.specs.declared.state.Desk.{Desk}
use Rattle.desk.specs.declared.clock.Turn.{Turn}
use Rattle.desk.specs.State.{taken_over, crossing_set, limit_now}
use Rattle.desk.specs.Clock.{advanced, begun}
use Rattle.buttons.specs.Buttons.{answered_by, main_answered, side_answered, pressed, option_used, limit_removed, paired_removed, single_first, lowest_removed, reminder_answered, override_armed, stop_increased, limit_stepped, hide_pressed, all_presses, presses_of}
use Rattle.step.specs.declared.Input.{Input}
use Rattle.step.specs.Step.{has_pairs}
use Rattle.step_laws.specs.Walk.{at_beacon, Sets}
use Rattle.step_laws.specs.Windows.{one_on}
use Rattle.step_laws.specs.Unanswered.{Which, main, side, is_main, window_of, TimeOver, Right, MainTakes, Answers, Unanswered, AnswerLaws, at_buttons}
use Rattle.step_laws.proofs.Choosing.{not_so, pick_by, pick_has, step_has}
use Rattle.step_laws.proofs.Walk.{AnyReading, sets_any, answered_keeps, Uses, all_pressed}
use Rattle.step_laws.proofs.Carried.{same_mode_lem}
use Rattle.step_laws.proofs.Windows.{none_answers, missed_exactly, window_laws}

-- ---- one window

-- a window after the buttons below k: the first right press of those that reach it closes it
unfoldable after : (ℕ → Bool) → Window → ℕ → Window
after reaches w zero = w
after reaches w (suc k) = pick (reaches k && answers_of (after reaches w k) (2 ^ k)) closed (after reaches w k)

-- no button above 6 answers a window
mask_low : (w : Waits) (age : ℕ) → waits_for w age < 2 ^ 7
mask_low Nothing age = omega arith
mask_low One age = omega arith
mask_low Two age = omega arith
mask_low Five age = omega arith
mask_low Six age = omega arith
mask_low Seven age = omega arith
mask_low Zone age = pick_has (λ (n : ℕ). n < 2 ^ 7) (leb zone_press age) (omega arith) (omega arith)
mask_low Nine age = omega arith
mask_low Limit age = omega arith

button_low : (w : Window) (k : ℕ) → answers_of w (2 ^ k) ≡ true → k < 7
unfolding answers_of
button_low w k h = cases (ltb k 7) refl
  where
    cases : (t : Bool) → ltb k 7 ≡ t → k < 7
    cases true e = ltb-true k 7 e
    cases false e =
        let low = mask_low w.waits w.age in
        let high : 2 ^ 7 ≤ 2 ^ k = pow-le-pow_right (omega arith) (ltb-false k 7 e) in
        let under : waits_for w.waits w.age < 2 ^ k = omega arith in
        absurd (false≢true (rw (div-eq_of_lt under) at h))

module _ (reaches : ℕ → Bool) (w : Window) where
  -- the press of button j closes it
  abbrev Closes : ℕ → Type 0
  Closes j = (reaches j ≡ true) × (answers_of w (2 ^ j) ≡ true)

  kept : (k : ℕ) → ((j : ℕ) → j < k → Closes j → ⊥) → after reaches w k ≡ w
  unfolding after
  kept zero none = refl
  kept (suc k) none =
      let no : (reaches k && answers_of w (2 ^ k)) ≡ false = not_so _ (λ p. none k (omega arith) (and_split (reaches k) (answers_of w (2 ^ k)) p)) in
      rw (kept k (λ j l. none j (omega arith)), no)

  abbrev shuts : ℕ → Bool
  shuts k = reaches k && answers_of (after reaches w k) (2 ^ k)

  stays_closed : (k : ℕ) → after reaches w k ≡ closed → after reaches w (suc k) ≡ closed
  unfolding after
  stays_closed k e = pick_has (λ (u : Window). u ≡ closed) (shuts k) refl e

  either : (k : ℕ) → (after reaches w k ≡ w) ⊎ (after reaches w k ≡ closed)
  unfolding after
  either zero = inl refl
  either (suc k) = pick_has (λ (u : Window). (u ≡ w) ⊎ (u ≡ closed)) (shuts k) (inr refl) (either k)

  at_press : (k : ℕ) → Closes k → (after reaches w k ≡ w) ⊎ (after reaches w k ≡ closed) → after reaches w (suc k) ≡ closed
  unfolding after
  at_press k c (inl e) = rw (e, c.0, c.1)
  at_press k c (inr e) = stays_closed k e

  closes : (k j : ℕ) → j < k → Closes j → after reaches w k ≡ closed
  closes zero j l c = absurd (omega arith)
  closes (suc k) j l c = cases (ltb j k) refl (λ (p : j < k). closes k j p c)
    where
      cases : (t : Bool) → ltb j k ≡ t → (j < k → after reaches w k ≡ closed) → after reaches w (suc k) ≡ closed
      cases true e before = stays_closed k (before (ltb-true j k e))
      cases false e before = let last = ltb-false j k e in let same : j ≡ k = omega arith in at_press k (rw same at c) (either k)

-- ---- the desk's windows

-- the step of mode, ages and misses, in a sample that keeps the mode
module _ (card : Card) (x : Input) (d : Desk) (same : d.bts ≡ x.bts) where
  pub begun_as : begun x.bts x.m (reminds card.settings.functions) card.settings.x card.settings.y d ≡ advanced x.m (reminds card.settings.functions) card.settings.x card.settings.y d
  unfolding begun
  begun_as = rw (same_mode_lem d.bts x.bts same)

  pub at_buttons_lem : (which : Which) → window_of which (at_buttons card x d) ≡ one_on x.m (window_of which d)
  at_buttons_lem main = ap (λ (u : Turn). u.desk.window) begun_as ∙ window_laws.clock_main x.m (reminds card.settings.functions) card.settings.x card.settings.y d
  at_buttons_lem side = ap (λ (u : Turn). u.desk.side) begun_as ∙ window_laws.clock_side x.m (reminds card.settings.functions) card.settings.x card.settings.y d

  -- time over is a miss,
  pub over_closed : (which : Which) → TimeOver x d which → one_on x.m (window_of which d) ≡ closed
  unfolding one_on
  over_closed which t = rw ((missed_exactly x.m (window_of which d)).1 (t.stands.found_open, t.over))

  -- and time not over is none
  older : (which : Which) → (TimeOver x d which → ⊥) → one_on x.m (window_of which d) ≡ window_older x.m (window_of which d)
  unfolding one_on
  older which n = rw (not_so (missed_of (window_older x.m (window_of which d))) no)
    where
      no : missed_of (window_older x.m (window_of which d)) ≡ true → ⊥
      no h = let q = (missed_exactly x.m (window_of which d)).0 h in n (record { stands = record { mode = same; found_open = q.0 }; over = q.1 })

-- what readings, answers, misses and displacements set is no window
pub sets-window : (which : Which) (w : Window) → Sets (λ (e : Desk). window_of which e ≡ w) AnyReading
unfolding taken_over crossing_set limit_now
sets-window which w = sets_any (λ kind age distance e h. h) (λ age distance e h. h) (λ age e h. h)

answered_window : (which : Which) (weight : ℕ) (u : Window) (e : Desk) → window_of which (answered_by weight u e) ≡ window_of which e
answered_window which weight u e = answered_keeps (sets-window which (window_of which e)) weight u e tt refl

-- the desk has these windows
abbrev Has : Window → Window → Desk → Type 0
Has w v e = (e.window ≡ w) × (e.side ≡ v)

main_answered_lem : (b : Bool) (weight : ℕ) (e : Desk) → Has (pick b closed e.window) e.side (main_answered b weight e)
unfolding main_answered
main_answered_lem true weight e = (refl, answered_window side weight e.window e)
main_answered_lem false weight e = (refl, refl)

side_answered_lem : (b : Bool) (weight : ℕ) (e : Desk) → Has e.window (pick b closed e.side) (side_answered b weight e)
unfolding side_answered
side_answered_lem true weight e = (answered_window main weight e.side e, refl)
side_answered_lem false weight e = (refl, refl)

-- no other use of a press touches a window
uses-has : (w v : Window) → Uses (Has w v)
unfolding option_used limit_removed paired_removed lowest_removed reminder_answered override_armed stop_increased limit_stepped hide_pressed
uses-has w v =
    record {
      option = step_has (Has w v) option_used (λ e h. h) (λ e h. h);
      removed = removed;
      answered = step_has (Has w v) reminder_answered (λ e h. h) (λ e h. h);
      armed = step_has (Has w v) override_armed (λ e h. h) (λ e h. h);
      increased = step_has (Has w v) stop_increased (λ e h. h) (λ e h. h);
      stepped = step_has (Has w v) limit_stepped (λ e h. h) (λ e h. h);
      hidden = step_has (Has w v) hide_pressed (λ e h. h) (λ e h. h);
    }
  where
    removed : (b : Bool) (m : ℕ) (row : Row) (top : ℕ) (e : Desk) → Has w v e → Has w v (lowest_removed b m row top e)
    removed true m row top e h =
        let speed : ℕ = lowest_to_go m top e.beside.paired.limits in
        pick_has (Has w v) (single_first m row top speed e) h (pick_has (Has w v) (eqb speed 0) h h)
    removed false m row top e h = h

-- the press of button k
abbrev on : Input → ℕ → Bool
on x k = bit_of x.buttons (2 ^ k)

-- "main, then side": it reaches the side window, past this main one
abbrev passes : Input → Window → ℕ → Bool
passes x w k = on x k && not (answers_of (after (on x) w k) (2 ^ k))

-- the desk has what the buttons below k leave of these windows
abbrev At : Input → Window → Window → ℕ → Desk → Type 0
At x w v k e = Has (after (on x) w k) (after (passes x w) v k) e

press : (x : Input) (w v : Window) (k : ℕ) (e : Desk) → At x w v k e → At x w v (suc k) (pressed (on x k) (2 ^ k) e)
unfolding pressed after
press x w v k e h =
    let one = main_answered_lem (on x k && answers_of e.window (2 ^ k)) (2 ^ k) e in
    let two = side_answered_lem (on x k && not (answers_of e.window (2 ^ k)) && answers_of e.side (2 ^ k)) (2 ^ k) _ in
    (two.0 ∙ one.0 ∙ rw h.0, two.1 ∙ rw (one.1, h.0, h.1))

-- ---- which press answers

module _ (card : Card) (top : ℕ) (x : Input) (d : Desk) (same : d.bts ≡ x.bts) where
  -- the windows before the buttons
  abbrev first : Which → Window
  first which = one_on x.m (window_of which d)

  nothing_pressed : x.buttons ≡ 0 → (k : ℕ) → on x k ≡ true → ⊥
  nothing_pressed z k h = false≢true (rw (z, zero-div) at h)

  at_beacon_lem : At x (first main) (first side) 7 (at_beacon card top x d)
  unfolding presses_of after
  at_beacon_lem = pick_by (At x (first main) (first side) 7) (eqb x.buttons 0) none some
    where
      none : eqb x.buttons 0 ≡ true → At x (first main) (first side) 7 (at_buttons card x d)
      none e =
          let z = eqb-true x.buttons 0 e in (
            at_buttons_lem card x d same main ∙ sym (kept (on x) (first main) 7 (λ j l c. nothing_pressed z j c.0)),
            at_buttons_lem card x d same side ∙ sym (kept (passes x (first main)) (first side) 7 (λ j l c. nothing_pressed z j (and_split (on x j) _ c.0).0)),
          )

      some : eqb x.buttons 0 ≡ false → At x (first main) (first side) 7 (all_presses x.buttons x.m (has_pairs card.version) card.settings.limit top (at_buttons card x d))
      some e = all_pressed x (At x (first main) (first side)) (press x (first main) (first side)) (λ k. uses-has _ _) _ _ _ _ _ (at_buttons_lem card x d same main, at_buttons_lem card x d same side)

  right_of : (which : Which) (k : ℕ) → (TimeOver x d which → ⊥) → on x k ≡ true → answers_of (first which) (2 ^ k) ≡ true → Right x d which k
  right_of which k n p q = record { pressed = p; waited = rw (older card x d same which n) at q; in_time = n }

  answers_now : (which : Which) (k : ℕ) → Right x d which k → answers_of (first which) (2 ^ k) ≡ true
  answers_now which k r = rw (older card x d same which r.in_time) r.waited

  -- the main window, where it has time left
  main_kept : (k : ℕ) → (TimeOver x d main → ⊥) → ((j : ℕ) → Right x d main j → k ≤ j) → after (on x) (first main) k ≡ first main
  main_kept k n lowest = kept _ (first main) k (λ j l c. let high = lowest j (right_of main j n c.0 c.1) in omega arith)

  -- a press that the main window takes does not pass
  not_passed : (k : ℕ) → MainTakes x d k → passes x (first main) k ≡ true → ⊥
  not_passed k t h =
      let q = and_split (on x k) _ h in
      let now = answers_now main k t.right in
      false≢true (rw (main_kept k t.right.in_time t.lowest, now) at q.1)

  -- one that does not pass is taken
  taken : (k : ℕ) → on x k ≡ true → answers_of (after (on x) (first main) k) (2 ^ k) ≡ true → MainTakes x d k
  taken k p a = record { right = right_of main k in_time p (rw here at a); lowest = lowest }
    where
      shut : after (on x) (first main) k ≡ closed → ⊥
      shut e = false≢true (sym (none_answers closed (2 ^ k) refl) ∙ rw e at a)

      here : after (on x) (first main) k ≡ first main
      here = kept _ (first main) k (λ j l c. shut (closes _ (first main) k j l c))

      in_time : TimeOver x d main → ⊥
      in_time t = shut (here ∙ over_closed card x d same main t)

      lowest : (j : ℕ) → Right x d main j → k ≤ j
      lowest j r = cases (ltb j k) refl
        where
          cases : (t : Bool) → ltb j k ≡ t → k ≤ j
          cases true e = absurd (shut (closes _ (first main) k j (ltb-true j k e) (r.pressed, answers_now main j r)))
          cases false e = ltb-false j k e

  stays : (which : Which) → Unanswered x d which → window_of which (at_beacon card top x d) ≡ window_older x.m (window_of which d)
  stays main u =
      let n : TimeOver x d main → ⊥ = λ t. let low = t.over in let high = u.time in omega arith in
      at_beacon_lem.0
      ∙ main_kept 7 n (λ j r. absurd (u.no_answer j (record { right = r; free = λ e. absurd (false≢true (ap is_main (sym e))) })))
      ∙ older card x d same main n
  stays side u =
      let n : TimeOver x d side → ⊥ = λ t. let low = t.over in let high = u.time in omega arith in
      at_beacon_lem.1
      ∙ kept _ (first side) 7
      (λ j l c.
      u.no_answer j
      (record {
        right = right_of side j n (and_split (on x j) _ c.0).0 c.1;
        free = λ e t. not_passed j t c.0;
      }))
      ∙ older card x d same side n

  answered : (which : Which) (k : ℕ) → Answers x d which k → window_of which (at_beacon card top x d) ≡ closed
  answered main k a =
      let now = answers_now main k a.right in
      at_beacon_lem.0 ∙ closes _ (first main) 7 k (button_low _ k now) (a.right.pressed, now)
  answered side k a =
      let now = answers_now side k a.right in
      let p = a.right.pressed in
      let free = not_so (answers_of (after (on x) (first main) k) (2 ^ k)) (λ t. a.free refl (taken k p t)) in
      at_beacon_lem.1 ∙ closes _ (first side) 7 k (button_low _ k now) (rw (p, free), now)

pub answer_laws : (card : Card) (top : ℕ) (x : Input) (d : Desk) (which : Which) → AnswerLaws card top x d which
answer_laws card top x d which =
    record {
      stays = λ u. stays card top x d u.stands.mode which u;
      answered = λ k o a. answered card top x d o.mode which k a;
    }
