-- The first and the second of a pair: whether there is a first, whether a code is a limit beacon's, and which pair it is.
use Prim.Native.Nat.{ℕ}
use mathlib.Core.Path.{◌≡◌, refl, sym, ap, ◌∙◌}
use mathlib.Core.Bool.{Bool, true, false, ◌||◌, false≢true}
use mathlib.Core.Logic.{◌⊎◌, inl, inr}
use lib.Dec.{eqb}
use borrow.Author.Tests.{eqb-true}
use Rattle.card.specs.declared.Pairs.{Pairs}
use Rattle.sides.specs.declared.pairs.First.{First}
use Rattle.sides.specs.declared.pairs.FirstKind.{FirstKind}
use Rattle.sides.specs.declared.pairs.FirstKind.TheVariants.{Absent, Ten, Eleven}
use Rattle.sides.specs.Pairs.{is_first}
use Rattle.beacons.specs.Beacons.{speed_of_pair}
use Rattle.step_laws.specs.Walk.{is_limit}
use Rattle.step_laws.specs.Pairs.{PairOf}

pub pair_speed : {pairs : Pairs} {kind : FirstKind} {code speed : ℕ} → PairOf pairs kind code speed → (f : First) → f.kind ≡ kind → speed_of_pair pairs f code ≡ speed
unfolding speed_of_pair
pair_speed PairOf.pair_ten_ten f k = rw k
pair_speed PairOf.pair_ten_eleven f k = rw k
pair_speed PairOf.pair_eleven_ten f k = rw k
pair_speed PairOf.pair_eleven_eleven f k = rw k

-- every first and second are a pair
pub pair_of : (pairs : Pairs) (f : First) (kind : FirstKind) → f.kind ≡ kind → (kind ≡ Absent → ⊥) → (code : ℕ) → (code ≡ 10) ⊎ (code ≡ 11) → PairOf pairs kind code (speed_of_pair pairs f code)
unfolding speed_of_pair
pair_of pairs f Absent k n code c = absurd (n refl)
pair_of pairs f Ten k n code (inl c) = rw (k, c) PairOf.pair_ten_ten
pair_of pairs f Ten k n code (inr c) = rw (k, c) PairOf.pair_ten_eleven
pair_of pairs f Eleven k n code (inl c) = rw (k, c) PairOf.pair_eleven_ten
pair_of pairs f Eleven k n code (inr c) = rw (k, c) PairOf.pair_eleven_eleven

pub there_is : (kind : FirstKind) → (kind ≡ Absent → ⊥) → is_first kind ≡ true
there_is Absent n = absurd (n refl)
there_is Ten n = refl
there_is Eleven n = refl

pub is_there : (kind : FirstKind) → is_first kind ≡ true → kind ≡ Absent → ⊥
is_there kind h e = false≢true (sym (ap is_first e) ∙ h)

-- a 10 or 11
pub limit_is : (code : ℕ) → is_limit code ≡ true → (code ≡ 10) ⊎ (code ≡ 11)
limit_is code h = cases (eqb code 10) refl h
  where
    cases : (t : Bool) → eqb code 10 ≡ t → (t || eqb code 11) ≡ true → (code ≡ 10) ⊎ (code ≡ 11)
    cases true e h = inl (eqb-true code 10 e)
    cases false e h = inr (eqb-true code 11 h)

pub is_limit_lem : (code : ℕ) → (code ≡ 10) ⊎ (code ≡ 11) → is_limit code ≡ true
is_limit_lem code (inl e) = rw e
is_limit_lem code (inr e) = rw e
