-- Document 01, "Controls": "A right press at ages 1..29 answers; age 30 is a miss, even with a press": what holds of every window, whatever it
-- waits for, once over the time that it has left: 30 samples for a fresh one, 40 for the stop zone's. Here nothing but time happens to it;
-- specs/Unanswered.antt has what a whole sample does.
use Rattle.std.specs.Prelude.{ℕ, suc, zero, ◌≤◌, ◌≡◌, Bool, true, false, ◌&&◌, eqb, leb, ltb}
use Rattle.leaf.specs.Numbers.{bit_of}
use Rattle.leaf.specs.Choosing.{pick}
use Rattle.leaf.specs.Buttons.{before_stop_button}
use Rattle.signals.specs.declared.window.Waits.{Waits}
use Rattle.signals.specs.declared.window.Waits.TheVariants.{Nothing, One, Two, Five, Six, Seven, Zone, Nine, Limit}
use Rattle.signals.specs.declared.window.Window.{Window}
use Rattle.signals.specs.Windows.{zone_press, zone_miss, closed, opened, is_open, window_older, missed_of, waits_for, answers_of}
use Rattle.desk.specs.declared.state.Desk.{Desk}
use Rattle.desk.specs.Clock.{advanced}

-- one sample on: a window whose time is over is missed, and closes
unfoldable pub one_on : ℕ → Window → Window
one_on m w = pick (missed_of (window_older m w)) closed (window_older m w)

-- a window k samples on, the travel of each sample given
unfoldable pub lived : (ℕ → ℕ) → ℕ → Window → Window
lived way zero w = w
lived way (suc k) w = one_on (way k) (lived way k w)

abbrev pub is_zone : Waits → Bool
is_zone Nothing = false
is_zone One = false
is_zone Two = false
is_zone Five = false
is_zone Six = false
is_zone Seven = false
is_zone Zone = true
is_zone Nine = false
is_zone Limit = false

pub record WindowLaws : Type 0 where
  -- that is what the step of ages and misses does to the desk's windows
  pub clock_main : (m : ℕ) (reminds : Bool) (x y : ℕ) (d : Desk) → (advanced m reminds x y d).desk.window ≡ one_on m d.window
  pub clock_side : (m : ℕ) (reminds : Bool) (x y : ℕ) (d : Desk) → (advanced m reminds x y d).desk.side ≡ one_on m d.side
  -- "age 30 is a miss": of all the samples to come, that one is in which the time is over, and no other
  pub missed_once :
      (way : ℕ → ℕ) (w : Window) (k : ℕ) → is_open w.waits ≡ true → 1 ≤ w.left
      → missed_of (window_older (way k) (lived way k w)) ≡ eqb (suc k) w.left
  -- "A right press at ages 1..29 answers": before the miss in every sample, from it on in none
  pub answers_exactly :
      (way : ℕ → ℕ) (w : Window) (k weight : ℕ) → is_open w.waits ≡ true → 1 ≤ w.left → is_zone w.waits ≡ false
      → answers_of (lived way k w) weight ≡ (ltb k w.left && bit_of (waits_for w.waits 0) weight)
  -- the zone: "lamp and press from age 10, miss at 40"
  pub zone_exactly :
      (way : ℕ → ℕ) (k weight : ℕ)
      → answers_of (lived way k (opened Zone zone_miss)) weight ≡ (ltb k zone_miss && bit_of (pick (leb zone_press k) before_stop_button 0) weight)
