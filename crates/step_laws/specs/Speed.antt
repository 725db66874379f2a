-- Document 01, "Controls": "Supervised speed S, hundredths of km/h, is the least of vmax, T and standing controls; in BTS also BTS speed."
-- Once over the list of limits.
use Rattle.std.specs.Prelude.{ℕ, ◌≤◌, ◌≡◌, true}
use mathlib.Core.List.{Memᴰ}
use Rattle.card.specs.declared.Settings.{Settings}
use Rattle.card.specs.declared.Card.{Card}
use Rattle.desk.specs.declared.state.Desk.{Desk}
use Rattle.step.specs.declared.speed.Standing.{Standing}
use Rattle.step.specs.declared.Input.{Input}
use Rattle.step.specs.Step.{step_of}
use Rattle.step.specs.Speed.{limits, supervised_of}

-- one of the desk's limits stands and has this speed
pub record Stands (s : Settings) (top : ℕ) (d : Desk) (speed : ℕ) : Type 0 where
  pub limit : Standing
  pub listed : Memᴰ limit (limits s top d)
  pub stands : limit.stands ≡ true
  pub same : limit.speed ≡ speed

pub record SpeedLaws (card : Card) (top : ℕ) : Type 0 where
  -- S is at most every limit that stands,
  pub speed_below : (d : Desk) (n : ℕ) → Stands card.settings top d n → supervised_of card.settings top d ≤ n
  -- and is one of them;
  pub speed_among : (d : Desk) → Stands card.settings top d (supervised_of card.settings top d)
  -- no other number is both
  pub speed_only : (d : Desk) (n : ℕ) → Stands card.settings top d n → ((m : ℕ) → Stands card.settings top d m → n ≤ m) → n ≡ supervised_of card.settings top d
  -- the S that a sample answers is that of the desk at its end
  pub speed_answered : (x : Input) (d : Desk) → (step_of card top x d).answer.speed ≡ supervised_of card.settings top (step_of card top x d).desk
