-- Document 01, "Controls": "T for types 1..8: 80, 90, 100, 120, 140, 160, 180, 200 km/h (001)."
use Rattle.std.specs.Prelude.{ℕ, Bool, ◌&&◌, leb, eqb}
use Rattle.leaf.specs.Choosing.{pick}

unfoldable pub type_speed : ℕ → ℕ
type_speed train =
    pick (eqb train 1) 80
    (pick (eqb train 2) 90
    (pick (eqb train 3) 100
    (pick (eqb train 4) 120
    (pick (eqb train 5) 140 (pick (eqb train 6) 160 (pick (eqb train 7) 180 (pick (eqb train 8) 200 0)))))))

-- "7 | train type not 1..8, or faster than vmax"
unfoldable pub type_allowed : ℕ → ℕ → Bool
type_allowed train vmax = leb 1 train && leb train 8 && leb (type_speed train) vmax
