-- What stands in a buffer of one byte, or of two, that digits are read into.
use Rattle.std.specs.Prelude.{ℕ, suc, min, ◌≡◌, refl, List, [], ◌∷◌, length}
use Rattle.std.proofs.Common.{arith}
use Rattle.leaf.specs.Bytes.{byte, word, over}

pub one_read : (said : List ℕ) → byte (over (length said) said (0 ∷ [])) 0 ≡ byte said 0
unfolding byte over
one_read [] = refl
one_read (a ∷ rest) =
    let n : min (suc (length rest)) (min (suc (length rest)) 1) ≡ 1 = omega arith in
    rw n

pub two_read : (said : List ℕ) → word (over (length said) said (0 ∷ 0 ∷ [])) 0 ≡ word said 0
unfolding byte word over
two_read [] = refl
two_read (a ∷ []) = refl
two_read (a ∷ b ∷ rest) =
    let n : min (suc (suc (length rest))) (min (suc (suc (length rest))) 2) ≡ 2 = omega arith in
    rw n
