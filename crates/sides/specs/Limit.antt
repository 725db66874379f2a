-- Document 01, "Controls": "Limit: row 6."
use Rattle.std.specs.Prelude.{ℕ, ◌+◌, ◌*◌, ◌-◌, min, Bool, true, false, ◌&&◌, ◌||◌, not, leb, ltb, eqb}
use Rattle.leaf.specs.Choosing.{pick}
use Rattle.leaf.specs.Numbers.{aged_of, below_of}
use Rattle.sides.specs.declared.limit.Limit.{Limit}

abbrev pub no_limit : Limit
no_limit = record { on = false; age = 0; steps = 0; answered = false }

-- one sample on
abbrev pub limit_older : Limit → Limit
limit_older l = record { on = l.on; age = aged_of l.age; steps = l.steps; answered = l.answered }

-- set by a reading of this age: by a beacon 10 or 11 as it is read, or by a 1 or 9 as it is answered; "A repeat sets steps to 0 and keeps its
-- age." 02 g: "limits last set by beacons 1 and 9", which are set by an answer
unfoldable pub limit_set : Bool → ℕ → Limit → Limit
limit_set answered age l = record { on = true; age = pick l.on l.age age; steps = 0; answered = answered }

-- ".. up to min(T, 160)"
abbrev pub highest : ℕ → ℕ
highest top = min top 16000

-- the final value, steps included: "a 20 km/h step, up to min(T, 160)"; without a step the row's final stands, whatever T is
unfoldable pub stepped_final : ℕ → ℕ → ℕ → ℕ
stepped_final last steps top = pick (eqb steps 0) (last * 100) (min (last * 100 + steps * 2000) (highest top))

-- the row while it is above its final, then the final value with its steps; row is what row 6 gives at the limit's age
unfoldable pub limit_speed : ℕ → ℕ → ℕ → Limit → ℕ
limit_speed row last top l = pick (ltb (last * 100) row) row (stepped_final last l.steps top)

-- "At its final value, increase (if stop has no use for it) adds a 20 km/h step, up to min(T, 160); at or over that a press adds none;"
-- 02 g: "Steps of 20 km/h work only for limits last set by beacons 1 and 9, as 001 says. On version 1 and 2 cards all stays": of a card with
-- pairs, that of version 3, it is asked who set it last (g26)
unfoldable pub may_step : Bool → ℕ → ℕ → ℕ → Limit → Bool
may_step pairs row last top l = (not pairs || l.answered) && l.on && leb row (last * 100) && ltb (stepped_final last l.steps top) (highest top)

-- "steps 0..8"
abbrev pub steps_top : ℕ
steps_top = 8

abbrev pub stepped : Limit → Limit
stepped l = record { on = l.on; age = l.age; steps = min (l.steps + 1) steps_top; answered = l.answered }

-- "hide takes one off."
abbrev pub hidden : Limit → Limit
hidden l = record { on = l.on; age = l.age; steps = l.steps - 1; answered = l.answered }

-- "Button 6 removes it when speed is below its final value, steps included."
unfoldable pub removable : ℕ → ℕ → ℕ → Limit → Bool
removable m last top l = l.on && below_of m (stepped_final last l.steps top)
