-- Document 02 b): "Rearm, its lamp and the mode change all use it", and nothing else does (b6). No step of a sample looks at the brake, which
-- has the count, before the brake's own: with another brake the desk after the sample differs in its brake alone, and the answer in cause and
-- lamp 10 alone.
use Rattle.std.specs.Prelude.{ℕ, ◌^◌, ◌≡◌}
use Rattle.leaf.specs.Numbers.{bit_of}
use Rattle.card.specs.declared.Card.{Card}
use Rattle.desk.specs.declared.brake.Brake.{Brake}
use Rattle.desk.specs.declared.state.Desk.{Desk}
use Rattle.desk.specs.State.{with_brake}
use Rattle.step.specs.declared.Input.{Input}
use Rattle.step.specs.Step.{step_of}

module _ (card : Card) (top : ℕ) (x : Input) (d : Desk) (other : Brake) where
  pub record BrakeUnseen : Type 0 where
    pub arose : (step_of card top x (with_brake other d)).arose ≡ (step_of card top x d).arose
    -- whatever brake is put into both, they are one desk
    pub desk : (b : Brake) → with_brake b (step_of card top x (with_brake other d)).desk ≡ with_brake b (step_of card top x d).desk
    pub speed : (step_of card top x (with_brake other d)).answer.speed ≡ (step_of card top x d).answer.speed
    pub icon : (step_of card top x (with_brake other d)).answer.icon ≡ (step_of card top x d).answer.icon
    pub limit : (step_of card top x (with_brake other d)).answer.limit ≡ (step_of card top x d).answer.limit
    -- every bit of the lamps but 10
    pub lamps : (k : ℕ) → (k ≡ 10 → ⊥)
        → bit_of (step_of card top x (with_brake other d)).answer.lamps (2 ^ k) ≡ bit_of (step_of card top x d).answer.lamps (2 ^ k)
