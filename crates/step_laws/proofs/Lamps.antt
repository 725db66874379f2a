-- "Lamps, bits as buttons": which lamp lights a bit of the answer's mask.
use Prim.Native.Nat.{ℕ, zero, suc, ◌^◌, ◌/◌, ◌%◌, ◌<◌}
use native.Mathlib.Omega.{arith}
use native.Mathlib.Nat.{mod-lt, zero-lt-suc, one-le-pow, pow-suc, div-eq_of_lt, div-one, zero-div, mul-mod_left, mul-div-mul_right}
use mathlib.Core.Path.{◌≡◌, refl, sym, ap, ◌∙◌}
use mathlib.Core.Bool.{Bool, true, false, ◌&&◌, ◌||◌, not}
use lib.Dec.{leb, eqb}
use lib.Bits.{bit_or, or_shr, or_mod}
use Rattle.leaf.specs.Choosing.{pick}
use Rattle.leaf.specs.Numbers.{quiet_code, bit_of}
use Rattle.leaf.specs.Buttons.{crossing_button, limit_button, override_button, increase_button, rearm_button, before_stop_button}
use Rattle.signals.specs.declared.window.Waits.{Waits}
use Rattle.signals.specs.declared.window.Waits.TheVariants.{Nothing, One, Two, Five, Six, Seven, Zone, Nine, Limit}
use Rattle.signals.specs.Windows.{zone_press, waits_for}
use Rattle.signals.specs.MainControl.{increase_lit}
use Rattle.signals.specs.Stop.{is_lit}
use Rattle.desk.specs.declared.brake.Brake.{Brake}
use Rattle.desk.specs.declared.state.Desk.{Desk}
use Rattle.desk.specs.State.{with_brake, with_code}
use Rattle.step.specs.Brake.{lamp_if, window_lamps, control_lamps, button_lamps, alarm_lamp, lamps_of}

-- ---- bit k of two masks put together is the one's or the other's

or_digit : (x y : ℕ) → x < 2 → y < 2 → eqb (bit_or x y) 1 ≡ (eqb x 1 || eqb y 1)
or_digit zero zero p q = refl
or_digit zero (suc zero) p q = refl
or_digit (suc zero) zero p q = refl
or_digit (suc zero) (suc zero) p q = refl
or_digit (suc (suc x)) y p q = absurd (omega arith)
or_digit zero (suc (suc y)) p q = absurd (omega arith)
or_digit (suc zero) (suc (suc y)) p q = absurd (omega arith)

or_bit : (k a b : ℕ) → bit_of (bit_or a b) (2 ^ k) ≡ (bit_of a (2 ^ k) || bit_of b (2 ^ k))
or_bit k a b =
    ap (λ (n : ℕ). eqb (n % 2) 1) (or_shr a b k) ∙ ap (λ (n : ℕ). eqb n 1) (or_mod (a / 2 ^ k) (b / 2 ^ k) 1)
    ∙ or_digit (a / 2 ^ k % 2) (b / 2 ^ k % 2) (mod-lt (a / 2 ^ k) (zero-lt-suc 1)) (mod-lt (b / 2 ^ k) (zero-lt-suc 1))

-- bit k of a mask is set, or not
record BitIs (k mask : ℕ) (set : Bool) : Type 0 where
  is : bit_of mask (2 ^ k) ≡ set

or_as : {k a b : ℕ} {p q : Bool} → BitIs k a p → BitIs k b q → BitIs k (bit_or a b) (p || q)
or_as {k} {a} {b} e f = record { is = or_bit k a b ∙ rw (e.is, f.is) }

-- ---- lamps 10 and 11

-- neither is lit
record Dark (mask : ℕ) : Type 0 where
  ten : BitIs 10 mask false
  eleven : BitIs 11 mask false

-- of a mask that is a number both are seen
dark : (mask : ℕ) → bit_of mask rearm_button ≡ false → bit_of mask alarm_lamp ≡ false → Dark mask
dark mask p q = record { ten = record { is = p }; eleven = record { is = q } }

or_dark : {a b : ℕ} → Dark a → Dark b → Dark (bit_or a b)
or_dark p q = record { ten = or_as p.ten q.ten; eleven = or_as p.eleven q.eleven }

-- no window waits for rearm, nor for the alarm
waits-dark : (waits : Waits) (age : ℕ) → Dark (waits_for waits age)
waits-dark Nothing age = dark _ refl refl
waits-dark One age = dark _ refl refl
waits-dark Two age = dark _ refl refl
waits-dark Five age = dark _ refl refl
waits-dark Six age = dark _ refl refl
waits-dark Seven age = dark _ refl refl
waits-dark Zone age = cases (leb zone_press age)
  where
    cases : (t : Bool) → Dark (pick t before_stop_button 0)
    cases true = dark _ refl refl
    cases false = dark _ refl refl
waits-dark Nine age = dark _ refl refl
waits-dark Limit age = dark _ refl refl

-- a lamp lights its own bit alone
lamp_dark : (weight : ℕ) → Dark weight → (lit : Bool) → Dark (lamp_if lit weight)
lamp_dark weight h true = h
lamp_dark weight h false = dark 0 refl refl

rearm_own : (lit : Bool) → BitIs 10 (lamp_if lit rearm_button) lit
rearm_own true = record { is = refl }
rearm_own false = record { is = refl }

rearm_else : (lit : Bool) → BitIs 11 (lamp_if lit rearm_button) false
rearm_else true = record { is = refl }
rearm_else false = record { is = refl }

alarm_own : (lit : Bool) → BitIs 11 (lamp_if lit alarm_lamp) lit
alarm_own true = record { is = refl }
alarm_own false = record { is = refl }

alarm_else : (lit : Bool) → BitIs 10 (lamp_if lit alarm_lamp) false
alarm_else true = record { is = refl }
alarm_else false = record { is = refl }

window_dark : (d : Desk) → Dark (window_lamps d)
unfolding window_lamps
window_dark d =
    or_dark (waits-dark d.window.waits d.window.age)
    (or_dark (waits-dark d.side.waits d.side.age) (lamp_dark crossing_button (dark _ refl refl) d.option.on))

override_dark : (d : Desk) → Dark (lamp_if (d.armed.armed || is_lit d.reminder.phase) override_button)
override_dark d = lamp_dark override_button (dark _ refl refl) (d.armed.armed || is_lit d.reminder.phase)

increase_dark : (d : Desk) → Dark (lamp_if (increase_lit d.main) increase_button)
increase_dark d = lamp_dark increase_button (dark _ refl refl) (increase_lit d.main)

limit_dark : (removable : Bool) → Dark (lamp_if removable limit_button)
limit_dark = lamp_dark limit_button (dark _ refl refl)

module _ (removable still : Bool) (d : Desk) where
  abbrev rearmed : Bool
  rearmed = still && not (eqb d.brake.cause 0)

  button_10 : BitIs 10 (button_lamps removable still d) rearmed
  unfolding button_lamps control_lamps
  button_10 =
      or_as (window_dark d).ten (or_as (limit_dark removable).ten
      (or_as (override_dark d).ten (or_as (increase_dark d).ten (rearm_own rearmed))))

  button_11 : BitIs 11 (button_lamps removable still d) false
  unfolding button_lamps control_lamps
  button_11 =
      or_as (window_dark d).eleven (or_as (limit_dark removable).eleven
      (or_as (override_dark d).eleven (or_as (increase_dark d).eleven (rearm_else rearmed))))

  -- "10 when braked at standstill"
  pub lamp_rearm : bit_of (lamps_of removable still d) rearm_button ≡ rearmed
  unfolding lamps_of
  lamp_rearm = (or_as (alarm_else (eqb d.code quiet_code)) button_10).is

  -- 02 c: "Each sample with code 12 lights lamp bit 11, the alarm"
  pub lamp_alarm : bit_of (lamps_of removable still d) alarm_lamp ≡ eqb d.code quiet_code
  unfolding lamps_of
  lamp_alarm = (or_as (alarm_own (eqb d.code quiet_code)) button_11).is ∙ or_false (eqb d.code quiet_code)
    where
      or_false : (t : Bool) → (t || false) ≡ t
      or_false true = refl
      or_false false = refl

-- ---- all lamps but 10

-- a number that is one bit has no other
other_bit : (j k : ℕ) → (k ≡ j → ⊥) → bit_of (2 ^ j) (2 ^ k) ≡ false
other_bit zero zero h = absurd (h refl)
other_bit zero (suc k) h =
    let some = one-le-pow k 2 (zero-lt-suc 1) in
    let more : 1 < 2 ^ suc k = rw (pow-suc 2 k) (omega arith) in
    ap (λ (n : ℕ). eqb (n % 2) 1) (div-eq_of_lt more)
other_bit (suc j) zero h = ap (λ (n : ℕ). eqb (n % 2) 1) (div-one (2 ^ suc j) ∙ pow-suc 2 j) ∙ ap (λ (n : ℕ). eqb n 1) (mul-mod_left (2 ^ j) 2)
other_bit (suc j) (suc k) h =
    let halved : 2 ^ suc j / 2 ^ suc k ≡ 2 ^ j / 2 ^ k = rw (pow-suc 2 j, pow-suc 2 k) (mul-div-mul_right (2 ^ j) (2 ^ k) (zero-lt-suc 1)) in
    ap (λ (n : ℕ). eqb (n % 2) 1) halved ∙ other_bit j k (λ e. h (ap suc e))

no_bit : (k : ℕ) → bit_of 0 (2 ^ k) ≡ false
no_bit k = ap (λ (n : ℕ). eqb (n % 2) 1) (zero-div (2 ^ k))

-- so a lamp leaves the bits of others dark
lamp_else : (j k : ℕ) → (k ≡ j → ⊥) → (lit : Bool) → bit_of (lamp_if lit (2 ^ j)) (2 ^ k) ≡ false
lamp_else j k h true = other_bit j k h
lamp_else j k h false = no_bit k

-- bit k of a mask put together with another, where the other's bit k is the same
or_same : (k a b c : ℕ) → bit_of b (2 ^ k) ≡ bit_of c (2 ^ k) → bit_of (bit_or a b) (2 ^ k) ≡ bit_of (bit_or a c) (2 ^ k)
or_same k a b c h = or_bit k a b ∙ ap (λ (t : Bool). bit_of a (2 ^ k) || t) h ∙ sym (or_bit k a c)

-- they are lit as in a sample that is not at standstill, whatever the brake is
pub lamps_else : (k : ℕ) → (k ≡ 10 → ⊥) → (removable still : Bool) (b : Brake) (d : Desk)
    → bit_of (lamps_of removable still (with_brake b d)) (2 ^ k) ≡ bit_of (lamps_of removable false d) (2 ^ k)
unfolding lamps_of button_lamps window_lamps control_lamps
lamps_else k h removable still b d =
    or_same k (lamp_if (eqb d.code quiet_code) alarm_lamp) _ _
    (or_same k (window_lamps d) _ _
    (or_same k (lamp_if removable limit_button) _ _
    (or_same k (lamp_if (d.armed.armed || is_lit d.reminder.phase) override_button) _ _
    (or_same k (lamp_if (increase_lit d.main) increase_button) _ _ (lamp_else 10 k h (still && not (eqb b.cause 0)) ∙ sym (no_bit k))))))

-- ---- all lamps but 11: those of the buttons, whatever the code is

pub lamps_code : (k : ℕ) → (k ≡ 11 → ⊥) → (removable still : Bool) (code : ℕ) (d : Desk)
    → bit_of (lamps_of removable still (with_code code d)) (2 ^ k) ≡ bit_of (button_lamps removable still d) (2 ^ k)
unfolding lamps_of button_lamps window_lamps control_lamps
lamps_code k h removable still code d =
    or_bit k (lamp_if (eqb code quiet_code) alarm_lamp) (button_lamps removable still d)
    ∙ ap (λ (t : Bool). t || bit_of (button_lamps removable still d) (2 ^ k)) (lamp_else 11 k h (eqb code quiet_code))
