-- Text typed into a lent buffer from a place on, as much of it as there is room for.
use Rattle.std.specs.Prelude.{ℕ, suc, ◌+◌, min, ◌≤◌, ◌<◌, ◌≡◌, refl, List, [], ◌∷◌, ◌++◌, ltb, length, set, take}
use Rattle.std.proofs.Common.{arith, sym, ap, ◌∙◌, append-nil, length-append, length-take, length-drop, length-take-le, lt-ltb, le-ltb}
use Rattle.std.proofs.Math.Seq.{append_snoc, set-append_seam}
use Rattle.leaf.specs.Choosing.{pick}
use Rattle.leaf.specs.Bytes.{over}

-- a buffer's bytes, and the place of the next one to be typed
abbrev pub Sheet : Type 0
Sheet = List ℕ × ℕ

-- one byte, where there is room for it
abbrev pub struck : ℕ → Sheet → Sheet
struck b s = pick (ltb s.1 (length s.0)) (set s.0 s.1 b, s.1 + 1) s

-- its bytes one after the other
unfoldable pub typed : List ℕ → Sheet → Sheet
typed [] s = s
typed (b ∷ rest) s = typed rest (struck b s)

-- ---- laws

pub typed_append : (t u : List ℕ) (s : Sheet) → typed (t ++ u) s ≡ typed u (typed t s)
unfolding typed
typed_append [] u s = refl
typed_append (b ∷ t) u s = typed_append t u (struck b s)

-- one text, and then another
pub then_typed : (t u : List ℕ) (x : Sheet) {y z : Sheet} → y ≡ typed t x → z ≡ typed u y → z ≡ typed (t ++ u) x
then_typed t u x p q = rw (typed_append, ← p) q

-- where there is no room, nothing is typed
pub typed_full : (t l : List ℕ) (n : ℕ) → length l ≤ n → typed t (l, n) ≡ (l, n)
unfolding typed
typed_full [] l n h = refl
typed_full (b ∷ t) l n h = rw (le-ltb _ _ h) (typed_full t l n h)

over_none : (b : List ℕ) → over 0 [] b ≡ b
unfolding over
over_none b =
    let e : min 0 (min 0 (length b)) ≡ 0 = omega arith in
    rw e

over_nil : (n : ℕ) (t : List ℕ) → over n t [] ≡ []
unfolding over
over_nil n t =
    let e : min n (min (length t) 0) ≡ 0 = omega arith in
    rw e

over_cons : (n x y : ℕ) (t b : List ℕ) → over (suc n) (x ∷ t) (y ∷ b) ≡ x ∷ over n t b
unfolding over
over_cons n x y t b =
    let e : min (suc n) (min (suc (length t)) (suc (length b))) ≡ suc (min n (min (length t) (length b))) = omega arith in
    rw e

typed_behind : (t a b : List ℕ) → typed t (a ++ b, length a) ≡ (a ++ over (length t) t b, length a + min (length t) (length b))
unfolding typed
typed_behind [] a b =
    let e : length a + min 0 (length b) ≡ length a = omega arith in
    rw (over_none, e)
typed_behind (x ∷ t) a [] =
    let e : length a + min (suc (length t)) 0 ≡ length a = omega arith in
    let full : length (a ++ []) ≤ length a = rw append-nil (omega arith) in
    rw (over_nil, e) (typed_full (x ∷ t) (a ++ []) (length a) full)
typed_behind (x ∷ t) a (y ∷ b) =
    let room : length a < length (a ++ y ∷ b) = rw length-append (omega arith) in
    let next : length (a ++ x ∷ []) ≡ length a + 1 = rw length-append in
    let e : length a + min (suc (length t)) (suc (length b)) ≡ length (a ++ x ∷ []) + min (length t) (length b) = rw length-append (omega arith) in
    rw (lt-ltb _ _ room, set-append_seam, over_cons, e, ← next, ← append_snoc a x b, ← append_snoc a x (over (length t) t b)) (typed_behind t (a ++ x ∷ []) b)

-- text typed from a buffer's start on stands over its first bytes, as many as both have; the rest of the buffer is as it was
pub typed-over : (t l : List ℕ) → typed t (l, 0) ≡ (over (length t) t l, min (length t) (length l))
typed-over t l =
    let e : 0 + min (length t) (length l) ≡ min (length t) (length l) = omega arith in
    typed_behind t [] l ∙ rw e

-- what a lent buffer holds of a text that is typed from its start on: as much as there is room for, the rest as it was. `count` bytes of
-- it are the text's; that they are within the buffer is said twice, as a caller needs it who takes them as a part
pub record Held (text before after : List ℕ) (count : ℕ) : Type 0 where
  pub counted : count ≡ min (length text) (length before)
  pub bytes : after ≡ over (length text) text before
  pub inside : count ≤ length after
  pub part : count ≡ length (take count after)

inside_of : (t l : List ℕ) (s : Sheet) → s ≡ typed t (l, 0) → s.1 ≤ length s.0
unfolding over
inside_of t l s e = rw (e, typed-over) (simp (length-append, length-take, length-drop) (omega arith))

pub held : (t l : List ℕ) (s : Sheet) → s ≡ typed t (l, 0) → Held t l s.0 s.1
held t l s e =
    let o = e ∙ typed-over t l in
    let i = inside_of t l s e in
    record {
      counted = ap (λ (x : Sheet). x.1) o;
      bytes = ap (λ (x : Sheet). x.0) o;
      inside = i;
      part = sym (length-take-le s.1 s.0 i);
    }
