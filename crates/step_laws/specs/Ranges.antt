-- Document 01, "The sample": "Ages count samples from the sample that starts them (age 0) and stop at 30,000; distances stop at 60,000,000.
-- These, steps 0..8, mode, cause, code .. in range, .., are the session's ranges": those of the desk in plain facts, `≤` on each number; and
-- that what a sample makes of a desk inside them is inside.
use Rattle.std.specs.Prelude.{ℕ, ◌≤◌, ◌≡◌, true, ◌↔◌}
use Rattle.leaf.specs.Numbers.{age_top, distance_top, code_top, cause_top}
use Rattle.card.specs.declared.Card.{Card}
use Rattle.signals.specs.declared.window.Window.{Window}
use Rattle.signals.specs.declared.control.Main.{Main}
use Rattle.signals.specs.declared.stop.Alongside.{Alongside}
use Rattle.signals.specs.declared.stop.Override.{Override}
use Rattle.signals.specs.declared.stop.Reminder.{Reminder}
use Rattle.sides.specs.declared.crossing.Crossing.{Crossing}
use Rattle.sides.specs.declared.crossing.CrossingOption.{CrossingOption}
use Rattle.sides.specs.declared.limit.Limit.{Limit}
use Rattle.sides.specs.declared.pairs.Paired.{Paired}
use Rattle.sides.specs.Limit.{steps_top}
use Rattle.desk.specs.declared.brake.Brake.{Brake}
use Rattle.desk.specs.declared.beside.Beside.{Beside}
use Rattle.desk.specs.declared.state.Desk.{Desk}
use Rattle.desk.specs.State.{fresh_desk}
use Rattle.desk.specs.Ranges.{desk_inside}
use Rattle.step.specs.declared.Input.{Input}
use Rattle.step.specs.Step.{step_of}

-- ---- the facts

-- 02 b: the count of samples without pulses, "range 0..30,000" (b5); 02 f: the age of the brake, "range 0..30,000" (f8)
pub record BrakeIn (b : Brake) : Type 0 where
  pub cause : b.cause ≤ cause_top
  pub stood : b.stood ≤ age_top
  pub age : b.age ≤ age_top

pub record MainIn (c : Main) : Type 0 where
  pub age : c.age ≤ age_top
  pub distance : c.distance ≤ distance_top

-- the time to a miss is a count of samples
pub record WindowIn (w : Window) : Type 0 where
  pub left : w.left ≤ age_top
  pub age : w.age ≤ age_top
  pub distance : w.distance ≤ distance_top

pub record OverrideIn (o : Override) : Type 0 where
  pub age : o.age ≤ age_top

pub record ReminderIn (r : Reminder) : Type 0 where
  pub age : r.age ≤ age_top
  pub fast : r.fast ≤ age_top
  pub distance : r.distance ≤ distance_top

pub record OptionIn (o : CrossingOption) : Type 0 where
  pub age : o.age ≤ age_top
  pub distance : o.distance ≤ distance_top

pub record AlongsideIn (a : Alongside) : Type 0 where
  pub age : a.age ≤ age_top

pub record CrossingIn (c : Crossing) : Type 0 where
  pub age : c.age ≤ age_top
  pub distance : c.distance ≤ distance_top

-- "steps 0..8"
pub record LimitIn (l : Limit) : Type 0 where
  pub age : l.age ≤ age_top
  pub steps : l.steps ≤ steps_top

-- 02 g: "Ranges: paired ages, the first's distance." (g29)
pub record PairedIn (p : Paired) : Type 0 where
  pub distance : p.first.distance ≤ distance_top
  pub thirty : p.limits.thirty.age ≤ age_top
  pub forty : p.limits.forty.age ≤ age_top
  pub fifty : p.limits.fifty.age ≤ age_top
  pub seventy : p.limits.seventy.age ≤ age_top

pub record BesideIn (b : Beside) : Type 0 where
  pub alongside : AlongsideIn b.alongside
  pub crossing : CrossingIn b.crossing
  pub limit : LimitIn b.limit
  pub paired : PairedIn b.paired

pub record DeskIn (d : Desk) : Type 0 where
  pub code : d.code ≤ code_top
  pub brake : BrakeIn d.brake
  pub main : MainIn d.main
  pub window : WindowIn d.window
  pub side : WindowIn d.side
  pub armed : OverrideIn d.armed
  pub reminder : ReminderIn d.reminder
  pub option : OptionIn d.option
  pub beside : BesideIn d.beside

-- ---- the laws

pub record RangeLaws : Type 0 where
  -- a desk is inside exactly when the facts hold
  pub desk_inside_lem : (d : Desk) → (desk_inside d ≡ true) ↔ DeskIn d
  -- a desk as it opens is inside
  pub fresh_in : DeskIn fresh_desk
  -- what a sample makes of a desk inside is inside, whatever the card and T are, where the sample's code is in range
  pub step_in : (card : Card) (top : ℕ) (x : Input) (d : Desk) → x.beacon ≤ code_top → DeskIn d → DeskIn (step_of card top x d).desk
