-- Document 01, "Controls": a row's curve. Speeds on the card are km/h, those of the curve hundredths of km/h.
use Rattle.std.specs.Prelude.{ℕ, ◌*◌, ◌-◌, max, leb}
use Rattle.leaf.specs.Choosing.{pick}
use Rattle.card.specs.declared.Row.{Row}

-- ".. then the larger of final and initial minus drop hundredths of km/h for each sample past the delay (house)."
unfoldable pub fallen_of : ℕ → ℕ → ℕ → ℕ → ℕ
fallen_of initial last drop past = max (last * 100) (initial * 100 - past * drop)

-- "A row at age k gives its initial while k ≤ delay, then .."
unfoldable pub curve_of : ℕ → ℕ → ℕ → ℕ → ℕ → ℕ
curve_of initial last delay drop age = pick (leb age delay) (initial * 100) (fallen_of initial last drop (age - delay))

-- what a row of the card gives at an age
unfoldable pub row_speed : Row → ℕ → ℕ
row_speed row age = curve_of row.initial row.last row.delay row.drop age
