-- The room that the program gives to the lines of a piece is enough for every piece that it reads, and for the end: nothing is lost.
use Prim.Native.Nat.{ℕ, ◌≤◌}
use native.Mathlib.Omega.{arith}
use mathlib.Core.Bool.{Bool, true, false}
use mathlib.Core.List.{List}
use mathlib.Core.Path.{◌≡◌, refl}
use lib.Dec.{ltb}
use lib.ListN.{length}
use borrow.Author.Tests.{ltb-true}
use Rattle.leaf.specs.Choosing.{pick}
use Rattle.receiver.specs.declared.Receiver.{Receiver}
use Rattle.printed.specs.declared.Columns.{Columns}
use Rattle.printed_pieces.specs.Pieces.{piece_text, end_text}
use Rattle.printed_pieces.proofs.PieceTexts.{piece_length, end_length}
use Rattle.receive.specs.Size.{no_size, size_behind, size_in}

-- a read takes no more than SIZE, and SIZE is at most 4096
pub size_most : (word : List ℕ) → size_in word ≤ 4096
unfolding size_in
size_most word = cases (ltb (size_behind 0 word) no_size) refl
  where
    cases : (t : Bool) → ltb (size_behind 0 word) no_size ≡ t → pick t (size_behind 0 word) 0 ≤ 4096
    cases true e = omega (arith, ltb-true (size_behind 0 word) no_size e)
    cases false e = omega arith

pub piece_fits : (columns : Columns) (r : Receiver) (piece : List ℕ) → length piece ≤ 4096 → length (piece_text columns r piece) ≤ 45144
piece_fits columns r piece h = omega (arith, piece_length columns r piece)

pub end_fits : (columns : Columns) (r : Receiver) → length (end_text columns r) ≤ 45144
end_fits columns r = omega (arith, end_length columns r)
