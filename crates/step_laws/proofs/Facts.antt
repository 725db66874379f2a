-- A desk is inside its ranges exactly when the plain facts hold.
use Prim.Native.Nat.{ℕ, ◌≤◌}
use mathlib.Core.Path.{◌≡◌}
use mathlib.Core.Bool.{Bool, true, ◌&&◌}
use lib.Dec.{leb}
use borrow.Author.Tests.{le-leb, leb-true}
use Rattle.leaf.specs.Choosing.{and_split}
use Rattle.leaf.specs.Numbers.{age_top, distance_top, code_top, cause_top}
use Rattle.sides.specs.Limit.{steps_top}
use Rattle.sides.specs.declared.pairs.Paired.{Paired}
use Rattle.desk.specs.declared.brake.Brake.{Brake}
use Rattle.desk.specs.declared.beside.Beside.{Beside}
use Rattle.desk.specs.declared.state.Desk.{Desk}
use Rattle.desk.specs.Ranges.{brake_inside, main_inside, window_inside, override_inside, reminder_inside, option_inside, alongside_inside, crossing_inside, limit_inside, four_inside, paired_inside, beside_inside, desk_inside}
use Rattle.step_laws.specs.Ranges.{BrakeIn, PairedIn, BesideIn, DeskIn}

-- ---- two tests at once

pub two_in : (a m b n : ℕ) → (leb a m && leb b n) ≡ true → (a ≤ m) × (b ≤ n)
two_in a m b n h = let p = and_split (leb a m) (leb b n) h in (leb-true a m p.0, leb-true b n p.1)

pub three_in : (a m b n c k : ℕ) → (leb a m && leb b n && leb c k) ≡ true → (a ≤ m) × ((b ≤ n) × (c ≤ k))
three_in a m b n c k h =
    let p = and_split (leb a m && leb b n) (leb c k) h in
    let q = two_in a m b n p.0 in
    (q.0, (q.1, leb-true c k p.1))

pub two_out : (a m b n : ℕ) → a ≤ m → b ≤ n → (leb a m && leb b n) ≡ true
two_out a m b n p q = rw (le-leb a m p, le-leb b n q)

pub three_out : (a m b n c k : ℕ) → a ≤ m → b ≤ n → c ≤ k → (leb a m && leb b n && leb c k) ≡ true
three_out a m b n c k p q r = rw (le-leb a m p, le-leb b n q, le-leb c k r)

-- ---- the desk's parts: the brake, and what stands beside the main control

brake_only : (b : Brake) → brake_inside b ≡ true → BrakeIn b
brake_only b h = let t = three_in b.cause cause_top b.stood age_top b.age age_top h in record { cause = t.0; stood = t.1.0; age = t.1.1 }

brake_when : (b : Brake) → BrakeIn b → brake_inside b ≡ true
brake_when b h = three_out b.cause cause_top b.stood age_top b.age age_top h.cause h.stood h.age

paired_only : (p : Paired) → paired_inside p ≡ true → PairedIn p
paired_only p h =
    let t = and_split (leb p.first.distance distance_top) (four_inside p.limits) h in
    let four = and_split (leb p.limits.thirty.age age_top && leb p.limits.forty.age age_top && leb p.limits.fifty.age age_top) (leb p.limits.seventy.age age_top) t.1 in
    let three = three_in p.limits.thirty.age age_top p.limits.forty.age age_top p.limits.fifty.age age_top four.0 in
    record {
      distance = leb-true p.first.distance distance_top t.0;
      thirty = three.0;
      forty = three.1.0;
      fifty = three.1.1;
      seventy = leb-true p.limits.seventy.age age_top four.1;
    }

paired_when : (p : Paired) → PairedIn p → paired_inside p ≡ true
paired_when p h =
    rw (
      le-leb p.first.distance distance_top h.distance,
      three_out p.limits.thirty.age age_top p.limits.forty.age age_top p.limits.fifty.age age_top h.thirty h.forty h.fifty,
      le-leb p.limits.seventy.age age_top h.seventy,
    )

beside_only : (b : Beside) → beside_inside b ≡ true → BesideIn b
unfolding beside_inside
beside_only b h =
    let t1 : Bool = alongside_inside b.alongside in
    let t2 : Bool = t1 && crossing_inside b.crossing in
    let t3 : Bool = t2 && limit_inside b.limit in
    let h4 = and_split t3 (paired_inside b.paired) h in
    let h3 = and_split t2 (limit_inside b.limit) h4.0 in
    let h2 = and_split t1 (crossing_inside b.crossing) h3.0 in
    let crossing = two_in b.crossing.age age_top b.crossing.distance distance_top h2.1 in
    let limit = two_in b.limit.age age_top b.limit.steps steps_top h3.1 in
    record {
      alongside = record { age = leb-true b.alongside.age age_top h2.0 };
      crossing = record { age = crossing.0; distance = crossing.1 };
      limit = record { age = limit.0; steps = limit.1 };
      paired = paired_only b.paired h4.1;
    }

beside_when : (b : Beside) → BesideIn b → beside_inside b ≡ true
unfolding beside_inside
beside_when b h =
    rw (
      le-leb b.alongside.age age_top h.alongside.age,
      two_out b.crossing.age age_top b.crossing.distance distance_top h.crossing.age h.crossing.distance,
      two_out b.limit.age age_top b.limit.steps steps_top h.limit.age h.limit.steps,
      paired_when b.paired h.paired,
    )

-- ---- the desk

pub desk_only : (d : Desk) → desk_inside d ≡ true → DeskIn d
unfolding desk_inside
desk_only d h =
    let t0 : Bool = leb d.code code_top in
    let t1 : Bool = t0 && brake_inside d.brake in
    let t2 : Bool = t1 && main_inside d.main in
    let t3 : Bool = t2 && window_inside d.window in
    let t4 : Bool = t3 && window_inside d.side in
    let t5 : Bool = t4 && override_inside d.armed in
    let t6 : Bool = t5 && reminder_inside d.reminder in
    let t7 : Bool = t6 && option_inside d.option in
    let h8 = and_split t7 (beside_inside d.beside) h in
    let h7 = and_split t6 (option_inside d.option) h8.0 in
    let h6 = and_split t5 (reminder_inside d.reminder) h7.0 in
    let h5 = and_split t4 (override_inside d.armed) h6.0 in
    let h4 = and_split t3 (window_inside d.side) h5.0 in
    let h3 = and_split t2 (window_inside d.window) h4.0 in
    let h2 = and_split t1 (main_inside d.main) h3.0 in
    let h1 = and_split t0 (brake_inside d.brake) h2.0 in
    let main = two_in d.main.age age_top d.main.distance distance_top h2.1 in
    let window = three_in d.window.left age_top d.window.age age_top d.window.distance distance_top h3.1 in
    let side = three_in d.side.left age_top d.side.age age_top d.side.distance distance_top h4.1 in
    let reminder = three_in d.reminder.age age_top d.reminder.fast age_top d.reminder.distance distance_top h6.1 in
    let option = two_in d.option.age age_top d.option.distance distance_top h7.1 in
    record {
      code = leb-true d.code code_top h1.0;
      brake = brake_only d.brake h1.1;
      main = record { age = main.0; distance = main.1 };
      window = record { left = window.0; age = window.1.0; distance = window.1.1 };
      side = record { left = side.0; age = side.1.0; distance = side.1.1 };
      armed = record { age = leb-true d.armed.age age_top h5.1 };
      reminder = record { age = reminder.0; fast = reminder.1.0; distance = reminder.1.1 };
      option = record { age = option.0; distance = option.1 };
      beside = beside_only d.beside h8.1;
    }

pub desk_when : (d : Desk) → DeskIn d → desk_inside d ≡ true
unfolding desk_inside
desk_when d h =
    rw (
      le-leb d.code code_top h.code,
      brake_when d.brake h.brake,
      two_out d.main.age age_top d.main.distance distance_top h.main.age h.main.distance,
      three_out d.window.left age_top d.window.age age_top d.window.distance distance_top h.window.left h.window.age h.window.distance,
      three_out d.side.left age_top d.side.age age_top d.side.distance distance_top h.side.left h.side.age h.side.distance,
      le-leb d.armed.age age_top h.armed.age,
      three_out d.reminder.age age_top d.reminder.fast age_top d.reminder.distance distance_top h.reminder.age h.reminder.fast h.reminder.distance,
      two_out d.option.age age_top d.option.distance distance_top h.option.age h.option.distance,
      beside_when d.beside h.beside,
    )
