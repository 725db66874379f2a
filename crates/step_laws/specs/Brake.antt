-- Document 01, "Controls": "Any cause puts the brake on; the first stands, lowest number within a sample. It goes off in a standstill sample
-- with rearm, if on before and no cause arises."; "10 when braked at standstill"; document 02 b), what standstill is; document 02 f), how many
-- samples ago the brake came on. Of every sample of every desk.
use Rattle.std.specs.Prelude.{ℕ, ◌≤◌, ◌≡◌, Bool, true, ◌&&◌, ◌⊎◌, ◌↔◌, eqb}
use Rattle.leaf.specs.Choosing.{pick}
use Rattle.leaf.specs.Numbers.{cause_top, bit_of}
use Rattle.leaf.specs.Buttons.{rearm_button}
use Rattle.card.specs.declared.Card.{Card}
use Rattle.desk.specs.declared.brake.Brake.{Brake}
use Rattle.desk.specs.declared.state.Desk.{Desk}
use Rattle.desk.specs.Brake.{stood_after, standstill, brake_age}
use Rattle.step.specs.declared.Input.{Input}
use Rattle.step.specs.Brake.{standing_cause, stays_on}
use Rattle.step.specs.Step.{step_of}

-- 02 b: "standstill is ten accepted samples running without pulses, this one included": it has none, and of those before it nine or more
-- running had none
pub record AtStandstill (pulses : ℕ) (b : Brake) : Type 0 where
  pub no_pulses : pulses ≡ 0
  pub nine_before : 9 ≤ b.stood

-- "a standstill sample with rearm": button 10
abbrev pub rearms : Input → Desk → Bool
rearms x d = standstill x.pulses d.brake && bit_of x.buttons rearm_button

module _ (card : Card) (top : ℕ) (x : Input) (d : Desk) where
  -- the cause that stands after the sample, 0 where the brake is off, and the one that arose in it
  abbrev pub cause_after : ℕ
  cause_after = (step_of card top x d).desk.brake.cause

  abbrev pub cause_arose : ℕ
  cause_arose = (step_of card top x d).arose

  -- 02 b: the count after the sample
  abbrev pub stood_then : ℕ
  stood_then = (step_of card top x d).desk.brake.stood

  -- 02 f: the age of the brake after the sample
  abbrev pub age_then : ℕ
  age_then = (step_of card top x d).desk.brake.age

  pub record BrakeLaws : Type 0 where
    -- 02 b: the sample is one at standstill exactly when the facts hold, and the count goes on with every sample
    pub standstill_as : (standstill x.pulses d.brake ≡ true) ↔ AtStandstill x.pulses d.brake
    pub stood_then_lem : stood_then ≡ stood_after x.pulses d.brake.stood
    -- 02 f: the brake's age goes by the causes before and after the sample, whatever the mode does
    pub age_then_lem : age_then ≡ brake_age (stays_on d.brake.cause cause_after) d.brake.age
    -- the cause after a sample is the rule's, of the cause before, what arose, and rearm; the answer tells it
    pub cause_after_lem : cause_after ≡ standing_cause d.brake.cause cause_arose (rearms x d)
    pub cause_told : (step_of card top x d).answer.cause ≡ cause_after
    -- what arises is one of the causes 1..6, or 0, none
    pub arose_high : cause_arose ≤ cause_top
    -- a cause stands until a rearm takes effect: at standstill, with button 10, and where no cause arose in the sample
    pub stands_until : (d.brake.cause ≡ 0 → ⊥)
        → (cause_after ≡ d.brake.cause) ⊎ ((cause_after ≡ 0) × (AtStandstill x.pulses d.brake × ((bit_of x.buttons rearm_button ≡ true) × (cause_arose ≡ 0))))
    -- where none stood, what arose stands, whatever is pressed: "Clearing a fresh cause with a rearm in its own sample" is shut out
    pub first_stands : d.brake.cause ≡ 0 → cause_after ≡ cause_arose
    -- "Any cause puts the brake on; the first stands"
    pub brake_on : (cause_arose ≡ 0 → ⊥) → cause_after ≡ pick (eqb d.brake.cause 0) cause_arose d.brake.cause
    pub brake_not_off : (cause_arose ≡ 0 → ⊥) → cause_after ≡ 0 → ⊥
    -- "It goes off in a standstill sample with rearm, if on before and no cause arises."
    pub goes_off : AtStandstill x.pulses d.brake → bit_of x.buttons rearm_button ≡ true → cause_arose ≡ 0 → cause_after ≡ 0
    -- "10 when braked at standstill": lamp 10 is lit exactly when the brake is on after the sample, and the sample is one at standstill
    pub lamp_10 : (bit_of (step_of card top x d).answer.lamps rearm_button ≡ true) ↔ ((cause_after ≡ 0 → ⊥) × AtStandstill x.pulses d.brake)
