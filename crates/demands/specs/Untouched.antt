-- "A refusal .. leaves buffers .. unchanged.": what the writer leaves in the buffer, where it refuses by any number, also by one that no
-- refusal has.
use Rattle.std.specs.Prelude.{ℕ, ◌≡◌, refl, List}
use Rattle.leaf.specs.Answers.{refused, refused_at}
use Rattle.card.specs.Writing.{leaves}
use Rattle.card.specs.declared.Settings.{Settings}

pub refused-leaves : (n v : ℕ) (s : Settings) (buffer : List ℕ) → leaves (refused n) v s buffer ≡ buffer
refused-leaves n v s buffer = refl

pub refused_at-leaves : (n place v : ℕ) (s : Settings) (buffer : List ℕ) → leaves (refused_at n place) v s buffer ≡ buffer
refused_at-leaves n place v s buffer = refl
