-- A word's digits, one at a time.
use Prim.Native.Nat.{ℕ, ◌+◌, ◌<◌, ◌≤◌}
use native.Mathlib.Omega.{arith}
use mathlib.Core.Bool.{Bool, true, false, ◌&&◌}
use mathlib.Core.Path.{◌≡◌, refl, sym, ◌∙◌}
use mathlib.Core.List.{List, [], ◌∷◌}
use lib.Dec.{ltb}
use lib.ListN.{length, get_or, drop}
use borrow.Author.Tests.{le-ltb, lt-ltb}
use Rattle.std.proofs.lemmas.List.{at_drop_more, at_drop_all}
use Rattle.leaf.specs.Choosing.{pick}
use Rattle.text.specs.Hex.{hex_value}
use Rattle.receive.specs.Size.{no_size, next_size, size_behind, size_in}

size_at : (n : ℕ) (word : List ℕ) (i : ℕ) → i < length word
    → size_behind n (drop i word) ≡ size_behind (next_size n (get_or word i 0)) (drop (i + 1) word)
unfolding size_behind
size_at n word i here = at_drop_more (size_behind n) word i 0 here

-- behind what says no size no digit says one
no_next : (b : ℕ) → next_size no_size b ≡ no_size
no_next b = picked (ltb (hex_value b) 10) _ _ (le-ltb _ _ (omega arith))
  where
    picked : (s t : Bool) (n : ℕ) → t ≡ false → pick (s && t) n no_size ≡ no_size
    picked true t n e = rw e refl
    picked false t n e = refl

none_behind : (word : List ℕ) → size_behind no_size word ≡ no_size
unfolding size_behind
none_behind [] = refl
none_behind (b ∷ word) = rw (no_next b) (none_behind word)

-- the digits from i on, behind n, say what the word says; next is n with the digit at i
pub goes_on : (n next : ℕ) (word : List ℕ) (i : ℕ) → size_behind n (drop i word) ≡ size_behind 0 word → i < length word
    → next ≡ next_size n (get_or word i 0) → size_behind next (drop (i + 1) word) ≡ size_behind 0 word
goes_on n next word i whole here e = rw e (sym (size_at n word i here) ∙ whole)

pub none_said : (n : ℕ) (word : List ℕ) (i : ℕ) → size_behind n (drop i word) ≡ size_behind 0 word → i < length word
    → next_size n (get_or word i 0) ≡ no_size → size_in word ≡ 0
unfolding size_in
none_said n word i whole here e =
    let last : size_behind 0 word ≡ no_size = sym whole ∙ size_at n word i here ∙ rw e (none_behind (drop (i + 1) word)) in
    rw last refl

pub said : (n : ℕ) (word : List ℕ) (i : ℕ) → size_behind n (drop i word) ≡ size_behind 0 word → length word ≤ i → n ≤ 4096 → size_in word ≡ n
unfolding size_in size_behind
said n word i whole done most =
    let last : size_behind 0 word ≡ n = sym whole ∙ at_drop_all (size_behind n) word i done in
    rw (last, lt-ltb n no_size (omega arith)) refl
