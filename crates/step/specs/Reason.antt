-- Document 02 f), "Why is it forty?": "a tool names which standing limit sets S (the first in the order vmax, T, BTS speed, main, stop staying
-- alongside, crossing, limit, where several are equal), its value and age (0 for the first three)".
use Rattle.std.specs.Prelude.{ℕ, ◌&&◌, List, [], ◌∷◌, eqb}
use Rattle.leaf.specs.Choosing.{pick}
use Rattle.card.specs.declared.Settings.{Settings}
use Rattle.desk.specs.declared.state.Desk.{Desk}
use Rattle.step.specs.declared.speed.Reason.{Reason}
use Rattle.step.specs.declared.speed.Reason.TheVariants as reason
use Rattle.step.specs.declared.speed.Standing.{Standing}
use Rattle.step.specs.Speed.{none, limits, supervised_of}

-- "The printed ride may carry the reason, 1..7": "Reasons are numbered in 02's order" (f2). 02 g: paired limits "count
-- as limit in .. f)": "reason 7" (g25)
abbrev pub reason_number : Reason → ℕ
reason_number reason.None = 0
reason_number reason.Vmax = 1
reason_number reason.Train = 2
reason_number reason.Bts = 3
reason_number reason.Main = 4
reason_number reason.Alongside = 5
reason_number reason.Crossing = 6
reason_number reason.Limit = 7
reason_number reason.Paired = 7

-- the first of a list that stands and has this speed
abbrev pub first_at : ℕ → List Standing → Standing
first_at speed [] = none
first_at speed (l ∷ rest) = pick (l.stands && eqb l.speed speed) l (first_at speed rest)

-- which standing limit sets S, looked up in the list of limits from which S is taken
unfoldable pub reason_of : Settings → ℕ → Desk → Standing
reason_of s top d = first_at (supervised_of s top d) (limits s top d)
