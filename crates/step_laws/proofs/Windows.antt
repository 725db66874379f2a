-- The windows' laws: a window to which nothing but time happens, then through the step of ages and misses.
use Prim.Native.Nat.{ℕ, suc, zero, ◌+◌, ◌-◌, ◌<◌, ◌≤◌}
use native.Mathlib.Omega.{arith}
use native.Mathlib.Nat.{zero-div}
use mathlib.Core.Path.{◌≡◌, refl, sym, ◌∙◌}
use mathlib.Core.Bool.{Bool, true, false, ◌&&◌}
use mathlib.Core.Logic.{◌↔◌}
use lib.Dec.{eqb, leb, ltb}
use borrow.Author.Tests.{eq-eqb, ne_eqb, eqb-true, eqb-false, leb-true, leb-false, ltb-true, ltb-false}
use Rattle.leaf.specs.Numbers.{age_top, bit_of}
use Rattle.leaf.specs.Choosing.{pick, and_split}
use Rattle.leaf.specs.Buttons.{before_stop_button}
use Rattle.signals.specs.declared.window.Waits.{Waits}
use Rattle.signals.specs.declared.window.Waits.TheVariants.{Nothing, One, Two, Five, Six, Seven, Zone, Nine, Limit}
use Rattle.signals.specs.declared.window.Window.{Window}
use Rattle.signals.specs.declared.control.MainKind.TheVariants.{Announcement}
use Rattle.signals.specs.Windows.{zone_press, zone_miss, closed, opened, is_open, asks_of, window_older, missed_of, waits_for, answers_of}
use Rattle.desk.specs.declared.state.Desk.{Desk}
use Rattle.desk.specs.State.{taken_over, crossing_set}
use Rattle.desk.specs.Clock.{desk_older, reminded, main_counts, side_counts, main_missed, side_missed, advanced}
use Rattle.step_laws.specs.Windows.{one_on, lived, is_zone, WindowLaws}
use Rattle.step_laws.proofs.Choosing.{pick_has}

-- ---- nothing but time

-- a window k samples on, its time over or not
unfoldable later : (ℕ → ℕ) → ℕ → Window → Window
later way zero w = w
later way (suc k) w = window_older (way k) (later way k w)

-- a time is over exactly when as many samples are past
over_at : (k long : ℕ) → k ≤ long → eqb (long - k) 0 ≡ eqb k long
over_at k long le = cases (eqb k long) refl
  where
    cases : (t : Bool) → eqb k long ≡ t → eqb (long - k) 0 ≡ t
    cases true e = let q = eqb-true k long e in eq-eqb (long - k) 0 (omega arith)
    cases false e = let n = eqb-false k long e in ne_eqb (long - k) 0 (λ (z : long - k ≡ 0). n (omega arith))

module _ (way : ℕ → ℕ) (w : Window) where
  -- it waits for what it waited for
  same_waits : (k : ℕ) → (later way k w).waits ≡ w.waits
  unfolding later window_older
  same_waits zero = refl
  same_waits (suc k) = same_waits k

  -- its time falls by one with each sample
  time_runs : (k : ℕ) → (later way k w).left ≡ w.left - k
  unfolding later window_older
  time_runs zero = omega arith
  time_runs (suc k) = let h = time_runs k in omega arith

  -- "Ages count samples .. and stop at 30,000"
  age_runs : (k : ℕ) → w.age + k ≤ age_top → (later way k w).age ≡ w.age + k
  unfolding later window_older
  age_runs zero h = omega arith
  age_runs (suc k) h = let r = age_runs k (omega arith) in omega arith

  -- an open window is missed exactly when the time that it had left is over
  missed_in : (k : ℕ) → is_open w.waits ≡ true → k ≤ w.left → missed_of (later way k w) ≡ eqb k w.left
  unfolding missed_of
  missed_in k o le = rw (same_waits k, o, time_runs k) (over_at k w.left le)

-- what every window but the zone's waits for is the same at all ages
waits_always : (w : Waits) (age : ℕ) → is_zone w ≡ false → waits_for w age ≡ waits_for w 0
waits_always Nothing age h = refl
waits_always One age h = refl
waits_always Two age h = refl
waits_always Five age h = refl
waits_always Six age h = refl
waits_always Seven age h = refl
waits_always Zone age h = cc
waits_always Nine age h = refl
waits_always Limit age h = refl

-- ---- the clock

side_counts-window : (d : Desk) → (side_counts d).window ≡ d.window
unfolding side_counts crossing_set
side_counts-window d =
    pick_has (λ (e : Desk). e.window ≡ d.window) (asks_of d.side.waits) {x = crossing_set d.side.age d.side.distance d} {y = d} refl refl

side_missed-window : (c : Bool) (d : Desk) → (side_missed c d).window ≡ d.window
unfolding side_missed
side_missed-window true d = side_counts-window d
side_missed-window false d = refl

main_missed-window : (b : Bool) (d : Desk) → (main_missed b d).window ≡ pick b closed d.window
unfolding main_missed
main_missed-window true d = refl
main_missed-window false d = refl

main_counts-side : (d : Desk) → (main_counts d).side ≡ d.side
unfolding main_counts taken_over
main_counts-side d =
    pick_has (λ (e : Desk). e.side ≡ d.side) (asks_of d.window.waits) {x = taken_over Announcement d.window.age d.window.distance d} {y = d} refl refl

pub main_missed-side : (b : Bool) (d : Desk) → (main_missed b d).side ≡ d.side
unfolding main_missed
main_missed-side true d = main_counts-side d
main_missed-side false d = refl

side_missed-side : (c : Bool) (d : Desk) → (side_missed c d).side ≡ pick c closed d.side
unfolding side_missed
side_missed-side true d = refl
side_missed-side false d = refl

clock_main : (m : ℕ) (reminds : Bool) (x y : ℕ) (d : Desk) → (advanced m reminds x y d).desk.window ≡ one_on m d.window
unfolding advanced reminded desk_older one_on
clock_main m reminds x y d = side_missed-window _ _ ∙ main_missed-window _ _

clock_side : (m : ℕ) (reminds : Bool) (x y : ℕ) (d : Desk) → (advanced m reminds x y d).desk.side ≡ one_on m d.side
unfolding advanced reminded desk_older one_on
clock_side m reminds x y d =
    side_missed-side _ _ ∙ rw (main_missed-side (missed_of (window_older m d.window)) (reminded reminds x y (desk_older m d)))

-- ---- a window's life

-- no window opens by itself
one_closed : (m : ℕ) (w : Window) → w.waits ≡ Nothing → (one_on m w).waits ≡ Nothing
unfolding one_on missed_of window_older
one_closed m w e = rw e

-- what waits for nothing takes no press and is not missed
pub none_answers : (w : Window) (weight : ℕ) → w.waits ≡ Nothing → answers_of w weight ≡ false
unfolding answers_of
none_answers w weight e = rw (e, zero-div)

none_missed : (m : ℕ) (w : Window) → w.waits ≡ Nothing → missed_of (window_older m w) ≡ false
unfolding missed_of window_older
none_missed m w e = rw e

-- a window is missed exactly where its time is over
pub missed_exactly : (m : ℕ) (w : Window) → (missed_of (window_older m w) ≡ true) ↔ ((is_open w.waits ≡ true) × (w.left ≤ 1))
unfolding missed_of window_older
missed_exactly m w = (only, when)
  where
    only : (is_open w.waits && eqb (w.left - 1) 0) ≡ true → (is_open w.waits ≡ true) × (w.left ≤ 1)
    only h = let q = and_split (is_open w.waits) (eqb (w.left - 1) 0) h in let z = eqb-true (w.left - 1) 0 q.1 in (q.0, omega arith)

    when : (is_open w.waits ≡ true) × (w.left ≤ 1) → (is_open w.waits && eqb (w.left - 1) 0) ≡ true
    when h = let low = h.1 in rw (h.0, eq-eqb (w.left - 1) 0 (omega arith))

module _ (way : ℕ → ℕ) (w : Window) (o : is_open w.waits ≡ true) (some : 1 ≤ w.left) where
  -- while it has time left, time is all that happens
  alive : (k : ℕ) → k < w.left → lived way k w ≡ later way k w
  unfolding lived later one_on
  alive zero h = refl
  alive (suc k) h =
      let missed : missed_of (window_older (way k) (later way k w)) ≡ eqb (suc k) w.left = missed_in way w (suc k) o (omega arith) in
      let yet : eqb (suc k) w.left ≡ false = ne_eqb (suc k) w.left (λ (e : suc k ≡ w.left). omega arith) in
      rw (alive k (omega arith), missed, yet)

  ends : (k : ℕ) → suc k ≡ w.left → (one_on (way k) (later way k w)).waits ≡ Nothing
  unfolding later one_on
  ends k e =
      let missed : missed_of (window_older (way k) (later way k w)) ≡ eqb (suc k) w.left = missed_in way w (suc k) o (omega arith) in
      rw (missed, eq-eqb (suc k) w.left e)

  -- from then on there is none
  gone : (k : ℕ) → w.left ≤ k → (lived way k w).waits ≡ Nothing
  unfolding lived
  gone zero h = absurd (omega arith)
  gone (suc k) h = cases (leb w.left k) refl (λ (p : w.left ≤ k). gone k p)
    where
      cases : (t : Bool) → leb w.left k ≡ t → (w.left ≤ k → (lived way k w).waits ≡ Nothing) → (one_on (way k) (lived way k w)).waits ≡ Nothing
      cases true e r = one_closed (way k) (lived way k w) (r (leb-true w.left k e))
      cases false e r = let under = leb-false w.left k e in rw (alive k under) (ends k (omega arith))

  missed_once : (k : ℕ) → missed_of (window_older (way k) (lived way k w)) ≡ eqb (suc k) w.left
  unfolding later
  missed_once k = cases (leb w.left k) refl
    where
      cases : (t : Bool) → leb w.left k ≡ t → missed_of (window_older (way k) (lived way k w)) ≡ eqb (suc k) w.left
      cases true e =
          let past = leb-true w.left k e in
          let not_it : eqb (suc k) w.left ≡ false = ne_eqb (suc k) w.left (λ (q : suc k ≡ w.left). omega arith) in
          none_missed (way k) _ (gone k past) ∙ sym not_it
      cases false e = let under = leb-false w.left k e in rw (alive k under) (missed_in way w (suc k) o under)

  -- while it has time left it answers what it waits for at its age, then nothing
  answers_while : (k weight mask : ℕ) → (k < w.left → waits_for w.waits (later way k w).age ≡ mask) → answers_of (lived way k w) weight ≡ (ltb k w.left && bit_of mask weight)
  unfolding answers_of
  answers_while k weight mask m = cases (ltb k w.left) refl
    where
      cases : (t : Bool) → ltb k w.left ≡ t → answers_of (lived way k w) weight ≡ (t && bit_of mask weight)
      cases true e = let under = ltb-true k w.left e in rw (alive k under, same_waits way w k, m under)
      cases false e = none_answers (lived way k w) weight (gone k (ltb-false k w.left e))

zone_exactly : (way : ℕ → ℕ) (k weight : ℕ) → answers_of (lived way k (opened Zone zone_miss)) weight ≡ (ltb k zone_miss && bit_of (pick (leb zone_press k) before_stop_button 0) weight)
zone_exactly way k weight =
    answers_while way (opened Zone zone_miss) refl (omega arith) k weight _
    (λ (h : k < zone_miss). let a : (later way k (opened Zone zone_miss)).age ≡ k = age_runs way (opened Zone zone_miss) k (omega arith) ∙ omega arith in rw a)

pub window_laws : WindowLaws
window_laws =
    record {
      clock_main = clock_main;
      clock_side = clock_side;
      missed_once = λ way w k o some. missed_once way w o some k;
      answers_exactly = λ way w k weight o some z. answers_while way w o some k weight _ (λ h. waits_always w.waits _ z);
      zone_exactly = zone_exactly;
    }
