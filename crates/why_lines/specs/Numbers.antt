-- Document 02 f), "Why is it forty?": "a tool names which standing limit sets S .., its value and age (0 for the first three), and for a braked desk
-- the cause and how many samples ago the brake came on", as numbers.
use Rattle.std.specs.Prelude.{ℕ, List, [], ◌∷◌}
use Rattle.step.specs.Reason.{reason_number}
use Rattle.session.specs.declared.Why.{Why}
use Rattle.text.specs.Decimal.{line}

-- "n limit reason age cause since": the line of the sample with this number; a cause of 0 is none, and the brake is off
unfoldable pub why_line : ℕ → Why → List ℕ
why_line number why = line number (why.speed ∷ reason_number why.reason ∷ why.age ∷ why.cause ∷ why.since ∷ [])
