-- The lower of two limits, the lowest of a list: one of them, and no higher than any that stands; and of a list it is the first that stands and
-- has its speed.
use Prim.Native.Nat.{ℕ, ◌≤◌, ◌<◌}
use native.Mathlib.Omega.{arith}
use mathlib.Core.Path.{◌≡◌, refl, sym, ap, ◌∙◌}
use mathlib.Core.Bool.{Bool, true, false, ◌&&◌, ◌||◌, not, false≢true}
use mathlib.Core.Logic.{◌⊎◌, inl, inr}
use mathlib.Core.List.{List, [], ◌∷◌, Memᴰ}
use lib.Dec.{ltb, eqb}
use borrow.Author.Tests.{ltb-true, ltb-false, eqb-true, eqb-false, eq-eqb}
use Rattle.leaf.specs.Choosing.{pick}
use Rattle.step.specs.declared.speed.Standing.{Standing}
use Rattle.step.specs.Speed.{lower, least_of}
use Rattle.step.specs.Reason.{first_at}

-- ---- the lower of two

-- a limit that stands, no higher than this speed
abbrev pub Under : ℕ → Standing → Type 0
Under speed l = (l.stands ≡ true) × (l.speed ≤ speed)

module _ (a b : Standing) where
  chosen : (p q t : Bool) → a.stands ≡ p → b.stands ≡ q → ltb b.speed a.speed ≡ t → lower a b ≡ pick (q && (not p || t)) b a
  unfolding lower
  chosen p q t e f g = rw (e, f, g)

  -- it is one of them
  lower_one : (lower a b ≡ a) ⊎ (lower a b ≡ b)
  unfolding lower
  lower_one = cases (b.stands && (not a.stands || ltb b.speed a.speed))
    where
      cases : (t : Bool) → (pick t b a ≡ a) ⊎ (pick t b a ≡ b)
      cases true = inr refl
      cases false = inl refl

  -- and no higher than the first, or the second, where that stands
  lower_first : a.stands ≡ true → Under a.speed (lower a b)
  lower_first e = cases b.stands refl (ltb b.speed a.speed) refl
    where
      cases : (q : Bool) → b.stands ≡ q → (t : Bool) → ltb b.speed a.speed ≡ t → Under a.speed (lower a b)
      cases true f true g = let h = ltb-true b.speed a.speed g in rw (chosen true true true e f g) (f, omega arith)
      cases true f false g = rw (chosen true true false e f g) (e, omega arith)
      cases false f t g = rw (chosen true false t e f g) (e, omega arith)

  lower_second : b.stands ≡ true → Under b.speed (lower a b)
  lower_second f = cases a.stands refl (ltb b.speed a.speed) refl
    where
      cases : (p : Bool) → a.stands ≡ p → (t : Bool) → ltb b.speed a.speed ≡ t → Under b.speed (lower a b)
      cases true e true g = rw (chosen true true true e f g) (f, omega arith)
      cases true e false g = let h = ltb-false b.speed a.speed g in rw (chosen true true false e f g) (e, omega arith)
      cases false e t g = rw (chosen false true t e f g) (f, omega arith)

-- ---- the lowest of a list

under : (so_far : Standing) (ls : List Standing) (speed : ℕ) → Under speed so_far → Under speed (least_of so_far ls)
under so_far [] speed h = h
under so_far (l ∷ rest) speed h =
    let one = lower_first so_far l h.0 in
    let low = h.1 in
    let next = one.1 in
    under (lower so_far l) rest speed (one.0, omega arith)

pub below : (l so_far : Standing) {ls : List Standing} → Memᴰ l ls → l.stands ≡ true → Under l.speed (least_of so_far ls)
below l so_far (Memᴰ.head {x = first} {xs = rest} e) h =
    let one : Under first.speed (lower so_far first) = lower_second so_far first (rw (← e) h) in
    rw e (under (lower so_far first) rest first.speed one)
below l so_far (Memᴰ.tail {x = first} {xs = rest} m) h = below l (lower so_far first) m h

pub among : (so_far : Standing) (ls : List Standing) → (least_of so_far ls ≡ so_far) ⊎ Memᴰ (least_of so_far ls) ls
among so_far [] = inl refl
among so_far (l ∷ rest) = later (among (lower so_far l) rest) (lower_one so_far l)
  where
    least : Standing
    least = least_of (lower so_far l) rest

    later :
        (least ≡ lower so_far l) ⊎ Memᴰ least rest → (lower so_far l ≡ so_far) ⊎ (lower so_far l ≡ l)
        → (least ≡ so_far) ⊎ Memᴰ least (l ∷ rest)
    later (inr m) q = inr (Memᴰ.tail m)
    later (inl e) (inl f) = inl (e ∙ f)
    later (inl e) (inr f) = inr (Memᴰ.head (e ∙ f))

-- ---- the first that has its speed

-- one that is higher than this speed, or does not stand, is not the first at it
pub passed : (l : Standing) (rest : List Standing) (speed : ℕ) → (l.stands ≡ true → l.speed ≡ speed → ⊥) → first_at speed (l ∷ rest) ≡ first_at speed rest
passed l rest speed h = cases l.stands refl (eqb l.speed speed) refl
  where
    cases : (p : Bool) → l.stands ≡ p → (t : Bool) → eqb l.speed speed ≡ t → pick (p && t) l (first_at speed rest) ≡ first_at speed rest
    cases true e true g = absurd (h e (eqb-true l.speed speed g))
    cases true e false g = refl
    cases false e t g = refl

-- one that stands at it is
pub found : (l : Standing) (rest : List Standing) (speed : ℕ) → l.stands ≡ true → l.speed ≡ speed → first_at speed (l ∷ rest) ≡ l
found l rest speed e same = rw (eq-eqb l.speed speed same, e)

module _ (a l : Standing) (rest : List Standing) (e : a.stands ≡ true) where
  abbrev next : Standing
  next = lower a l

  abbrev speed : ℕ
  speed = (least_of next rest).speed

  -- the lowest of both and the rest is no higher than either
  low : speed ≤ next.speed
  low = let one = lower_first a l e in (under next rest next.speed (one.0, omega arith)).1

  -- the second is lower: the first is passed
  second : next ≡ l → l.speed < a.speed → first_at speed (next ∷ rest) ≡ first_at speed (a ∷ l ∷ rest)
  second f less =
      let h : speed ≤ l.speed = rw f at low in
      ap (λ (n : Standing). first_at speed (n ∷ rest)) f ∙ sym (passed a (l ∷ rest) speed (λ on same. omega arith))

  -- it is not: the second is passed, where the first is
  first : next ≡ a → (l.stands ≡ true → a.speed ≤ l.speed) → first_at speed (next ∷ rest) ≡ first_at speed (a ∷ l ∷ rest)
  first f high = ap (λ (n : Standing). first_at speed (n ∷ rest)) f ∙ cases (eqb a.speed speed) refl
    where
      cases : (t : Bool) → eqb a.speed speed ≡ t → first_at speed (a ∷ rest) ≡ first_at speed (a ∷ l ∷ rest)
      cases true g = let same = eqb-true a.speed speed g in found a rest speed e same ∙ sym (found a (l ∷ rest) speed e same)
      cases false g =
          let h : speed ≤ a.speed = rw f at low in
          let apart = eqb-false a.speed speed g in
          passed a rest speed (λ on. apart)
          ∙ sym (passed a (l ∷ rest) speed (λ on. apart) ∙ passed l rest speed (λ on same. apart (let above = high on in omega arith)))

  both : first_at speed (next ∷ rest) ≡ first_at speed (a ∷ l ∷ rest)
  both = cases l.stands refl (ltb l.speed a.speed) refl
    where
      cases : (q : Bool) → l.stands ≡ q → (t : Bool) → ltb l.speed a.speed ≡ t → first_at speed (next ∷ rest) ≡ first_at speed (a ∷ l ∷ rest)
      cases true f true g = second (chosen a l true true true e f g) (ltb-true l.speed a.speed g)
      cases true f false g = first (chosen a l true true false e f g) (λ on. ltb-false l.speed a.speed g)
      cases false f t g = first (chosen a l true false t e f g) (λ on. absurd (false≢true (sym f ∙ on)))

-- the lowest of a list is the first of it that stands and has its speed
pub least_first : (a : Standing) (ls : List Standing) → a.stands ≡ true → least_of a ls ≡ first_at (least_of a ls).speed (a ∷ ls)
least_first a [] e = sym (found a [] a.speed e refl)
least_first a (l ∷ rest) e = least_first (lower a l) rest (lower_first a l e).0 ∙ both a l rest e
