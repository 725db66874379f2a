-- Areas with the same bytes have the same words, rows and settings there.
use Prim.Native.Nat.{ℕ, ◌+◌, ◌≤◌}
use native.Mathlib.Omega.{arith}
use mathlib.Core.Path.{◌≡◌, refl}
use mathlib.Core.Bool.{Bool, true, false}
use mathlib.Core.List.{List}
use lib.Dec.{lit≤}
use Rattle.leaf.specs.Bytes.{byte, word}
use Rattle.card.specs.Card.{row_at, pairs_at, reminds, Same}
use Rattle.card.specs.Reading.{kept, functions_from, pairs_from, settings_from}
use Rattle.card.specs.declared.Kind.{Kind}

pub same_word : (a b : List ℕ) (at : ℕ) → Same a b at (at + 2) → word a at ≡ word b at
unfolding word
same_word a b at h = simp (h at (omega arith) (omega arith), h (at + 1) (omega arith) (omega arith))

-- once, over the row's position
pub same_row : (a b : List ℕ) (at : ℕ) → Same a b at (at + 4) → row_at a at ≡ row_at b at
unfolding row_at
same_row a b at h =
    simp (h at (omega arith) (omega arith), h (at + 1) (omega arith) (omega arith), h (at + 2) (omega arith) (omega arith), h (at + 3) (omega arith) (omega arith))

pub same_pairs_lem : (a b : List ℕ) (at : ℕ) → Same a b at (at + 5) → pairs_at a at ≡ pairs_at b at
unfolding pairs_at
same_pairs_lem a b at h =
    simp (h at (omega arith) (omega arith), h (at + 1) (omega arith) (omega arith), h (at + 2) (omega arith) (omega arith), h (at + 3) (omega arith) (omega arith), h (at + 4) (omega arith) (omega arith))

pub same_part : (a b : List ℕ) (first end lo hi : ℕ) → Same a b first end → first ≤ lo → hi ≤ end → Same a b lo hi
same_part a b first end lo hi h low high i l u = h i (omega arith) (omega arith)

-- X, or Y: the same where it speaks
pub kept_same : (on : Bool) (x y : ℕ) → (on ≡ true → x ≡ y) → kept on x ≡ kept on y
kept_same true x y h = h refl
kept_same false x y h = refl

-- the same bytes before the functions, the same functions, X and Y, and pairs: the same settings, on a card of any kind
pub same_settings : (kind : Kind) (v w : ℕ) (a b : List ℕ) → Same a b kind.first (kind.first + 36) → functions_from kind v a ≡ functions_from kind w b
    → (reminds (functions_from kind w b) ≡ true → Same a b (kind.first + 37) (kind.first + 41)) → pairs_from kind v a ≡ pairs_from kind w b
    → settings_from kind v a ≡ settings_from kind w b
unfolding settings_from
same_settings kind v w a b h f on p =
    let one : (o : ℕ) → o + 1 ≤ 36 → byte a (kind.first + o) ≡ byte b (kind.first + o) = λ o high. h (kind.first + o) (omega arith) (omega arith) in
    let row : (o : ℕ) → o + 4 ≤ 36 → row_at a (kind.first + o) ≡ row_at b (kind.first + o)
    = λ o high. same_row a b (kind.first + o) (same_part a b _ _ _ _ h (omega arith) (omega arith)) in
    let tick = same_word a b (kind.first + 1) (same_part a b _ _ _ _ h (omega arith) (omega arith)) in
    let x = kept_same (reminds (functions_from kind w b)) (word a (kind.first + 37)) (word b (kind.first + 37))
    (λ e. same_word a b (kind.first + 37) (same_part a b _ _ _ _ (on e) (omega arith) (omega arith))) in
    let y = kept_same (reminds (functions_from kind w b)) (word a (kind.first + 39)) (word b (kind.first + 39))
    (λ e. same_word a b (kind.first + 39) (same_part a b _ _ _ _ (on e) (omega arith) (omega arith))) in
    simp (f, x, y, p, one 0 (lit≤ tt), tick, one 3 (lit≤ tt), row 4 (lit≤ tt), row 8 (lit≤ tt), row 12 (lit≤ tt), row 16 (lit≤ tt), row 20 (lit≤ tt), row 24 (lit≤ tt), row 28 (lit≤ tt), row 32 (lit≤ tt))
