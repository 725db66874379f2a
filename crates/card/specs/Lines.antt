-- "Both sides of each line": a line of the table is what the definitions answer, and what the paper says. A table holds where each
-- of its lines does.
use Rattle.std.specs.Prelude.{◌≡◌, List, [], ◌∷◌}

pub data Line : Type 1 where
  line : (A : Type 0) → A → A → Line

abbrev pub Holds : List Line → Type 0
Holds [] = Unit
Holds (line A answer paper ∷ rest) = (answer ≡ paper) × Holds rest
