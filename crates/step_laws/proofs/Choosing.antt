-- A choice has what both its sides have.
use Prim.Native.Nat.{ℕ, ◌≤◌}
use mathlib.Core.Path.{◌≡◌, refl}
use mathlib.Core.Bool.{Bool, true, false}
use Rattle.leaf.specs.Choosing.{pick}

-- each side where it is chosen
pub pick_by : {A : Type 0} (P : A → Type 0) (b : Bool) {x y : A} → (b ≡ true → P x) → (b ≡ false → P y) → P (pick b x y)
pick_by P true p q = p refl
pick_by P false p q = q refl

pub pick_has : {A : Type 0} (P : A → Type 0) (b : Bool) {x y : A} → P x → P y → P (pick b x y)
pick_has P b p q = pick_by P b (λ e. p) (λ e. q)

-- a step that is taken or not
pub step_has : {A : Type 0} (P : A → Type 0) (f : Bool → A → A) → ((e : A) → P e → P (f true e)) → ((e : A) → P e → P (f false e)) → (b : Bool) (e : A) → P e → P (f b e)
step_has P f p q true e h = p e h
step_has P f p q false e h = q e h

-- a test that is not true is false
pub not_so : (t : Bool) → (t ≡ true → ⊥) → t ≡ false
not_so true h = absurd (h refl)
not_so false h = refl

-- the same of numbers and their bound
pub pick_low : (top : ℕ) (b : Bool) {x y : ℕ} → x ≤ top → y ≤ top → pick b x y ≤ top
pick_low top b p q = pick_has (λ (n : ℕ). n ≤ top) b p q
