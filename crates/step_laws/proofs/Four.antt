-- The four paired limits by their speeds, and the lowest of them that may go.
use Prim.Native.Nat.{ℕ, ◌*◌, ◌≤◌, ◌<◌, min}
use native.Mathlib.Omega.{arith}
use mathlib.Core.Path.{◌≡◌, refl, sym, subst, ◌∙◌}
use mathlib.Core.Bool.{Bool, true, false, false≢true, not}
use mathlib.Core.Logic.{◌⊎◌, inl, inr}
use mathlib.Core.List.{List, [], ◌∷◌, Memᴰ}
use lib.Dec.{eqb, ltb}
use borrow.Author.Tests.{ne_eqb, lt-ltb, ltb-true}
use Rattle.leaf.specs.Choosing.{pick, and_split}
use Rattle.leaf.specs.Checks.{or_fault}
use Rattle.sides.specs.declared.pairs.PairedLimit.{PairedLimit}
use Rattle.sides.specs.declared.pairs.FourLimits.{FourLimits}
use Rattle.sides.specs.Pairs.{paired_older, paired_goes, paired_at, four_with, four_older, lowest_to_go}
use Rattle.step_laws.specs.Pairs.{IsSpeed}
use Rattle.step_laws.proofs.Choosing.{not_so}

-- ---- each of the four speeds

abbrev AllOf : (ℕ → Type 0) → List ℕ → Type 0
AllOf P [] = Unit {0}
AllOf P (n ∷ rest) = P n × AllOf P rest

all_of : (P : ℕ → Type 0) {n : ℕ} {ns : List ℕ} → Memᴰ n ns → AllOf P ns → P n
all_of P (Memᴰ.head e) h = subst P (sym e) h.0
all_of P (Memᴰ.tail m) h = all_of P m h.1

pub by_speed : (P : ℕ → Type 0) → P 30 → P 40 → P 50 → P 70 → (speed : ℕ) → IsSpeed speed → P speed
by_speed P p30 p40 p50 p70 speed is = all_of P is (p30, (p40, (p50, (p70, tt))))

is_30 : IsSpeed 30
is_30 = Memᴰ.head refl

is_40 : IsSpeed 40
is_40 = Memᴰ.tail (Memᴰ.head refl)

is_50 : IsSpeed 50
is_50 = Memᴰ.tail (Memᴰ.tail (Memᴰ.head refl))

is_70 : IsSpeed 70
is_70 = Memᴰ.tail (Memᴰ.tail (Memᴰ.tail (Memᴰ.head refl)))

pub not_zero : (speed : ℕ) → IsSpeed speed → eqb speed 0 ≡ false
not_zero = by_speed (λ (v : ℕ). eqb v 0 ≡ false) refl refl refl refl

-- the one that is set, and the others
pub with_at : (l : PairedLimit) (p : FourLimits) (speed : ℕ) → IsSpeed speed → paired_at speed (four_with speed l p) ≡ l
unfolding four_with
with_at l p = by_speed (λ (v : ℕ). paired_at v (four_with v l p) ≡ l) refl refl refl refl

pub with_other : (l : PairedLimit) (p : FourLimits) (v speed : ℕ) → IsSpeed speed → (speed ≡ v → ⊥) → paired_at speed (four_with v l p) ≡ paired_at speed p
unfolding four_with
with_other l p v =
    by_speed (λ (u : ℕ). (u ≡ v → ⊥) → paired_at u (four_with v l p) ≡ paired_at u p) (λ n. rw (ne_eqb v 30 (λ e. n (sym e)))) (λ n. rw (ne_eqb v 40 (λ e. n (sym e))))
    (λ n. rw (ne_eqb v 50 (λ e. n (sym e)))) (λ n. rw (ne_eqb v 70 (λ e. n (sym e))))

-- one sample on, at any speed
pub at_older : (speed : ℕ) (p : FourLimits) → paired_at speed (four_older p) ≡ paired_older (paired_at speed p)
unfolding four_older
at_older speed p = cases (eqb speed 30) (eqb speed 40) (eqb speed 50)
  where
    cases : (a b c : Bool)
        → pick a (paired_older p.thirty) (pick b (paired_older p.forty) (pick c (paired_older p.fifty) (paired_older p.seventy)))
        ≡ paired_older (pick a p.thirty (pick b p.forty (pick c p.fifty p.seventy)))
    cases true b c = refl
    cases false true c = refl
    cases false false true = refl
    cases false false false = refl

-- ---- the lowest that may go

module _ (m top : ℕ) (p : FourLimits) where
  abbrev pub goes : ℕ → Bool
  goes speed = paired_goes m top speed (paired_at speed p)

  -- the first of four tests that holds, by its speed
  abbrev lowest_of : Bool → Bool → Bool → Bool → ℕ
  lowest_of a b c d = pick a 30 (pick b 40 (pick c 50 (pick d 70 0)))

  as_lowest : lowest_to_go m top p ≡ lowest_of (goes 30) (goes 40) (goes 50) (goes 70)
  unfolding lowest_to_go or_fault
  as_lowest = cases (goes 30) (goes 40) (goes 50) (goes 70)
    where
      cases : (a b c d : Bool) → or_fault (or_fault (or_fault (or_fault 0 30 (not a)) 40 (not b)) 50 (not c)) 70 (not d) ≡ lowest_of a b c d
      cases true b c d = refl
      cases false true c d = refl
      cases false false true d = refl
      cases false false false true = refl
      cases false false false false = refl

  -- in plain facts
  pub goes_as : (speed : ℕ) → (paired_at speed p).on ≡ true → 9 * m < 25 * min top (speed * 100) → goes speed ≡ true
  unfolding paired_goes
  goes_as speed on below = rw (on, lt-ltb (9 * m) (25 * min top (speed * 100)) below)

  pub goes_is : (speed : ℕ) → goes speed ≡ true → ((paired_at speed p).on ≡ true) × (9 * m < 25 * min top (speed * 100))
  unfolding paired_goes
  goes_is speed h =
      let t = and_split (paired_at speed p).on (ltb (9 * m) (25 * min top (speed * 100))) h in
      (t.0, ltb-true (9 * m) (25 * min top (speed * 100)) t.1)

  -- one that goes, where none below it does, is the one found
  abbrev Lowest : ℕ → Type 0
  Lowest speed = goes speed ≡ true → ((other : ℕ) → IsSpeed other → goes other ≡ true → speed ≤ other) → lowest_to_go m top p ≡ speed

  pub lowest_found : (speed : ℕ) → IsSpeed speed → Lowest speed
  lowest_found = by_speed Lowest at_30 at_40 at_50 at_70
    where
      at_30 : Lowest 30
      at_30 g low = rw (as_lowest, g)

      at_40 : Lowest 40
      at_40 g low =
          let n30 = not_so (goes 30) (λ h. let l = low 30 is_30 h in omega arith) in
          rw (as_lowest, n30, g)

      at_50 : Lowest 50
      at_50 g low =
          let n30 = not_so (goes 30) (λ h. let l = low 30 is_30 h in omega arith) in
          let n40 = not_so (goes 40) (λ h. let l = low 40 is_40 h in omega arith) in
          rw (as_lowest, n30, n40, g)

      at_70 : Lowest 70
      at_70 g low =
          let n30 = not_so (goes 30) (λ h. let l = low 30 is_30 h in omega arith) in
          let n40 = not_so (goes 40) (λ h. let l = low 40 is_40 h in omega arith) in
          let n50 = not_so (goes 50) (λ h. let l = low 50 is_50 h in omega arith) in
          rw (as_lowest, n30, n40, n50, g)

  -- what is found goes and none below it does, or nothing is found and none goes
  pub record Found (speed : ℕ) : Type 0 where
    pub is_speed : IsSpeed speed
    pub may_go : goes speed ≡ true
    pub lowest : (other : ℕ) → IsSpeed other → goes other ≡ true → speed ≤ other

  pub record NoneGoes (speed : ℕ) : Type 0 where
    pub no_speed : speed ≡ 0
    pub none : (other : ℕ) → IsSpeed other → goes other ≡ true → ⊥

  pub found_goes : NoneGoes (lowest_to_go m top p) ⊎ Found (lowest_to_go m top p)
  found_goes = subst (λ (v : ℕ). NoneGoes v ⊎ Found v) (sym as_lowest) (cases (goes 30) refl (goes 40) refl (goes 50) refl (goes 70) refl)
    where
      out : {t : Bool} {A : Type 0} → t ≡ false → t ≡ true → A
      out f g = absurd (false≢true (sym f ∙ g))

      low : (v : ℕ) → (goes 30 ≡ true → v ≤ 30) → (goes 40 ≡ true → v ≤ 40) → (goes 50 ≡ true → v ≤ 50) → (goes 70 ≡ true → v ≤ 70)
          → (other : ℕ) → IsSpeed other → goes other ≡ true → v ≤ other
      low v = by_speed (λ (u : ℕ). goes u ≡ true → v ≤ u)

      cases : (a : Bool) → goes 30 ≡ a → (b : Bool) → goes 40 ≡ b → (c : Bool) → goes 50 ≡ c → (d : Bool) → goes 70 ≡ d
          → NoneGoes (lowest_of a b c d) ⊎ Found (lowest_of a b c d)
      cases true g b h c i d j = inr (record { is_speed = is_30; may_go = g; lowest = low 30 (λ t. omega arith) (λ t. omega arith) (λ t. omega arith) (λ t. omega arith) })
      cases false g true h c i d j = inr (record { is_speed = is_40; may_go = h; lowest = low 40 (λ t. out g t) (λ t. omega arith) (λ t. omega arith) (λ t. omega arith) })
      cases false g false h true i d j = inr (record { is_speed = is_50; may_go = i; lowest = low 50 (λ t. out g t) (λ t. out h t) (λ t. omega arith) (λ t. omega arith) })
      cases false g false h false i true j = inr (record { is_speed = is_70; may_go = j; lowest = low 70 (λ t. out g t) (λ t. out h t) (λ t. out i t) (λ t. omega arith) })
      cases false g false h false i false j =
          inl (record { no_speed = refl; none = by_speed (λ (u : ℕ). goes u ≡ true → ⊥) (λ t. out g t) (λ t. out h t) (λ t. out i t) (λ t. out j t) })
