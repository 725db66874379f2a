-- The brake's laws: the rule on numbers, then of every sample.
use Prim.Native.Nat.{ℕ, ◌≤◌}
use native.Mathlib.Omega.{arith}
use mathlib.Core.Path.{◌≡◌, refl, sym, ap, ◌∙◌}
use mathlib.Core.Bool.{Bool, true, false, ◌&&◌, not}
use mathlib.Core.Logic.{◌⊎◌, inl, inr, ◌↔◌}
use lib.Dec.{leb, eqb}
use borrow.Author.Tests.{le-leb, leb-true, eqb-true, eqb-false, ne_eqb, not-true}
use Rattle.leaf.specs.Choosing.{pick, and_split}
use Rattle.leaf.specs.Numbers.{aged_of, bit_of}
use Rattle.leaf.specs.Buttons.{rearm_button}
use Rattle.card.specs.declared.Card.{Card}
use Rattle.desk.specs.declared.brake.Brake.{Brake}
use Rattle.desk.specs.declared.state.Desk.{Desk}
use Rattle.desk.specs.Brake.{standing_time, stood_after, standstill, brake_age}
use Rattle.step.specs.declared.Input.{Input}
use Rattle.step.specs.Speed.{crossing_turned}
use Rattle.step.specs.Brake.{standing_cause, stays_on, braked}
use Rattle.step.specs.Step.{judged_of, answer_of, step_of}
use Rattle.step_laws.specs.Brake.{AtStandstill, rearms, cause_after, cause_arose, stood_then, age_then, BrakeLaws}
use Rattle.step_laws.proofs.Carried.{carried_laws}
use Rattle.step_laws.proofs.Causes.{arose_in}
use Rattle.step_laws.proofs.Lamps.{lamp_rearm}

-- ---- the rule, on numbers

-- "no cause arises" and no rearm: as before; "the first stands"
rule_stands : (before arose : ℕ) (rearm : Bool) → (before ≡ 0 → ⊥)
    → (standing_cause before arose rearm ≡ before) ⊎ ((standing_cause before arose rearm ≡ 0) × ((rearm ≡ true) × (arose ≡ 0)))
unfolding standing_cause
rule_stands before arose rearm n = cases (eqb arose 0) refl rearm
  where
    cases :
        (t : Bool) → eqb arose 0 ≡ t → (r : Bool)
        → (pick t (pick r 0 before) (pick (eqb before 0) arose before) ≡ before)
        ⊎ ((pick t (pick r 0 before) (pick (eqb before 0) arose before) ≡ 0) × ((r ≡ true) × (arose ≡ 0)))
    cases true e true = inr (refl, (refl, eqb-true arose 0 e))
    cases true e false = inl refl
    cases false e r = inl (rw (ne_eqb before 0 n))

rule_first : (before arose : ℕ) (rearm : Bool) → before ≡ 0 → standing_cause before arose rearm ≡ arose
unfolding standing_cause
rule_first before arose rearm z = rw z (cases (eqb arose 0) refl rearm)
  where
    cases : (t : Bool) → eqb arose 0 ≡ t → (r : Bool) → pick t (pick r 0 0) arose ≡ arose
    cases true e true = sym (eqb-true arose 0 e)
    cases true e false = sym (eqb-true arose 0 e)
    cases false e r = refl

rule_on : (before arose : ℕ) (rearm : Bool) → (arose ≡ 0 → ⊥) → standing_cause before arose rearm ≡ pick (eqb before 0) arose before
unfolding standing_cause
rule_on before arose rearm n = rw (ne_eqb arose 0 n)

rule_off : (before : ℕ) → standing_cause before 0 true ≡ 0
unfolding standing_cause
rule_off before = refl

-- ---- standstill, on numbers

pub standstill_as : (pulses : ℕ) (b : Brake) → (standstill pulses b ≡ true) ↔ AtStandstill pulses b
unfolding standstill stood_after
standstill_as pulses b = (only, when)
  where
    only : standstill pulses b ≡ true → AtStandstill pulses b
    only h =
        let t = and_split (eqb pulses 0) (leb standing_time (stood_after pulses b.stood)) h in
        let ten = leb-true standing_time (aged_of b.stood) (rw t.0 at t.1) in
        record { no_pulses = eqb-true pulses 0 t.0; nine_before = omega arith }

    when : AtStandstill pulses b → standstill pulses b ≡ true
    when h =
        let nine = h.nine_before in
        let ten : standing_time ≤ aged_of b.stood = omega arith in
        rw (h.no_pulses, le-leb standing_time (aged_of b.stood) ten)

-- ---- of every sample

module _ (card : Card) (top : ℕ) (x : Input) (d : Desk) where
  abbrev after : ℕ
  after = cause_after card top x d

  abbrev arose : ℕ
  arose = cause_arose card top x d

  cause_after_lem : after ≡ standing_cause d.brake.cause arose (rearms x d)
  unfolding step_of judged_of braked crossing_turned
  cause_after_lem = rw (carried_laws card top x d).to_brake

  cause_told : (step_of card top x d).answer.cause ≡ after
  unfolding step_of judged_of answer_of
  cause_told = refl

  stands_until : (d.brake.cause ≡ 0 → ⊥)
      → (after ≡ d.brake.cause) ⊎ ((after ≡ 0) × (AtStandstill x.pulses d.brake × ((bit_of x.buttons rearm_button ≡ true) × (arose ≡ 0))))
  stands_until n = cases (rule_stands d.brake.cause arose (rearms x d) n)
    where
      cases :
          (standing_cause d.brake.cause arose (rearms x d) ≡ d.brake.cause) ⊎ ((standing_cause d.brake.cause arose (rearms x d) ≡ 0) × ((rearms x d ≡ true) × (arose ≡ 0)))
          → (after ≡ d.brake.cause) ⊎ ((after ≡ 0) × (AtStandstill x.pulses d.brake × ((bit_of x.buttons rearm_button ≡ true) × (arose ≡ 0))))
      cases (inl e) = inl (cause_after_lem ∙ e)
      cases (inr e) = let r = and_split (standstill x.pulses d.brake) (bit_of x.buttons rearm_button) e.1.0 in
          inr (cause_after_lem ∙ e.0, ((standstill_as x.pulses d.brake).0 r.0, (r.1, e.1.1)))

  brake_on : (arose ≡ 0 → ⊥) → after ≡ pick (eqb d.brake.cause 0) arose d.brake.cause
  brake_on n = cause_after_lem ∙ rule_on d.brake.cause arose (rearms x d) n

  brake_not_off : (arose ≡ 0 → ⊥) → after ≡ 0 → ⊥
  brake_not_off n z = cases (eqb d.brake.cause 0) refl (sym (brake_on n) ∙ z)
    where
      cases : (t : Bool) → eqb d.brake.cause 0 ≡ t → pick t arose d.brake.cause ≡ 0 → ⊥
      cases true e h = n h
      cases false e h = eqb-false d.brake.cause 0 e h

  goes_off : AtStandstill x.pulses d.brake → bit_of x.buttons rearm_button ≡ true → arose ≡ 0 → after ≡ 0
  goes_off still pressed none = cause_after_lem ∙ rw (none, (standstill_as x.pulses d.brake).1 still, pressed) (rule_off d.brake.cause)

  stood_then_lem : stood_then card top x d ≡ stood_after x.pulses d.brake.stood
  unfolding step_of judged_of braked crossing_turned
  stood_then_lem = rw (carried_laws card top x d).to_brake

  age_then_lem : age_then card top x d ≡ brake_age (stays_on d.brake.cause after) d.brake.age
  unfolding step_of judged_of braked crossing_turned
  age_then_lem = rw (carried_laws card top x d).to_brake

  -- the lamp, on numbers
  lit : bit_of (step_of card top x d).answer.lamps rearm_button ≡ (standstill x.pulses d.brake && not (eqb after 0))
  unfolding step_of judged_of answer_of crossing_turned
  lit = lamp_rearm _ _ _ ∙ ap (λ (b : Brake). standstill x.pulses b && not (eqb after 0)) (carried_laws card top x d).to_brake

  lamp_10 : (bit_of (step_of card top x d).answer.lamps rearm_button ≡ true) ↔ ((after ≡ 0 → ⊥) × AtStandstill x.pulses d.brake)
  lamp_10 = (only, when)
    where
      only : bit_of (step_of card top x d).answer.lamps rearm_button ≡ true → (after ≡ 0 → ⊥) × AtStandstill x.pulses d.brake
      only h =
          let t = and_split (standstill x.pulses d.brake) (not (eqb after 0)) (sym lit ∙ h) in
          (eqb-false after 0 (not-true (eqb after 0) t.1), (standstill_as x.pulses d.brake).0 t.0)

      when : (after ≡ 0 → ⊥) × AtStandstill x.pulses d.brake → bit_of (step_of card top x d).answer.lamps rearm_button ≡ true
      when h = lit ∙ rw ((standstill_as x.pulses d.brake).1 h.1, ne_eqb after 0 h.0)

  pub brake_laws : BrakeLaws card top x d
  brake_laws =
      record {
        standstill_as = standstill_as x.pulses d.brake;
        stood_then_lem = stood_then_lem;
        age_then_lem = age_then_lem;
        cause_after_lem = cause_after_lem;
        cause_told = cause_told;
        arose_high = arose_in card top x d;
        stands_until = stands_until;
        first_stands = λ z. cause_after_lem ∙ rule_first d.brake.cause arose (rearms x d) z;
        brake_on = brake_on;
        brake_not_off = brake_not_off;
        goes_off = goes_off;
        lamp_10 = lamp_10;
      }
