use Rattle.std.proofs.Common.{ℕ, zero, suc}
use mathlib.Core.Path.{◌≡◌, refl}
use lib.ListN.{get_or, replicate}
use Rattle.shell.proofs.room.Goals as goal

all_zero : (n i : ℕ) → get_or {A = ℕ} (replicate n 0) i 0 ≡ 0
all_zero zero i = refl
all_zero (suc n) zero = refl
all_zero (suc n) (suc i) = all_zero n i

pub returns-clause-by_index : goal.returns-clause-by_index
returns-clause-by_index g c = λ i. all_zero _ i
