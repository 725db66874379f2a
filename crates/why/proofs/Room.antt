-- The room that the program gives to the text is enough for every ride, in numbers and in words: nothing is lost.
use Prim.Native.Nat.{ℕ, ◌≤◌}
use native.Mathlib.Omega.{arith}
use mathlib.Core.List.{List}
use lib.ListN.{length}
use Rattle.printed_why.specs.PrintedWhy.{printed_why}
use Rattle.printed_why.specs.declared.Telling.TheVariants.{Line, Words}
use Rattle.printed_why.proofs.Room.{numbers_length, words_text_length}

pub numbers_fit : (card recording : List ℕ) → length (printed_why Line card recording) ≤ 1400040
numbers_fit card recording = omega (arith, numbers_length card recording)

pub words_fit : (card recording : List ℕ) → length (printed_why Words card recording) ≤ 1400040
words_fit card recording = words_text_length card recording
