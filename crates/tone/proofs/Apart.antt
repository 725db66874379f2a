-- What a row needs, as facts and as tests; and that two good rows share a tone, as tested, exactly where some tone lies in both. Assumes nothing.
use mathlib.Core.Logic.{◌⊎◌, inl, inr}
use mathlib.Core.Bool.{Bool, true, false, not, ◌&&◌}
use mathlib.Core.Path.{refl}
use Prim.Native.Nat.{◌*◌, ◌≤◌, ◌<◌}
use native.Mathlib.Nat.{le_refl, le_of_lt}
use lib.Dec.{T, leb, leb→le, nleb→lt, lit<}
use lib.Ieee.{Float, nan, inf, fin, binary32, of_int, le, mul}
use lib.Ieee.Exact.{HasValue}
use lib.Ieee.Fits.{and_i, and_l, and_r}
use lib.Ieee.Scale.{finite}
use lib.Ieee.Positive.{num, den, positive, positive_of_value, above, above_of_le, cross→le, le_trans_positive, between}
use Rattle.tone.specs.declared.ToneRow.{ToneRow}
use Rattle.tone.specs.Tones.{khz, all_finite, in_order, row_ok, share, in_row}
use Rattle.tone.specs.Facts.{Good, LiesIn}
use Rattle.tone.proofs.Laws.{order}

-- ---- the tests of a row say the facts

pub good : (r : ToneRow) → T (row_ok r) → Good r
unfolding row_ok
good r ok =
    let all = and_l (all_finite r) (in_order r) ok in
    let two = and_l (finite r.low && finite r.centre) (finite r.high) all in
    record {
      low_finite = and_l (finite r.low) (finite r.centre) two;
      centre_finite = and_r (finite r.low) (finite r.centre) two;
      high_finite = and_r (finite r.low && finite r.centre) (finite r.high) all;
      order = order r (and_r (all_finite r) (in_order r) ok);
    }

pub ok : (r : ToneRow) → Good r → T (row_ok r)
unfolding row_ok
ok r g =
    let a = le (khz 32) r.low in
    let b = le r.low r.centre in
    let c = le r.centre r.high in
    let d = le r.high (khz 128) in
    let e = le r.high (mul binary32 (khz 2) r.low) in
    let f = finite r.low in
    let h = finite r.centre in
    and_i (all_finite r) (in_order r)
    (and_i (f && h) (finite r.high) (and_i f h g.low_finite g.centre_finite) g.high_finite)
    (and_i (((a && b) && c) && d) e (and_i ((a && b) && c) d (and_i (a && b) c (and_i a b g.order.bottom g.order.left) g.order.right) g.order.ceiling) g.order.octave)

pub lies : (r : ToneRow) (tone : Float) → T (in_row r tone) → LiesIn tone r
lies r tone t = (and_l (le r.low tone) (le tone r.high) t, and_r (le r.low tone) (le tone r.high) t)

pub in_row_lem : (r : ToneRow) (tone : Float) → LiesIn tone r → T (in_row r tone)
in_row_lem r tone l = and_i (le r.low tone) (le tone r.high) l.0 l.1

-- ---- the numbers of a good row are above zero

low_value : HasValue (khz 32) false 32 1
unfolding of_int
low_value = (refl, refl)

pub above-finite : (x : Float) → T (above x) → T (finite x) → T (positive x)
above-finite nan a f = absurd f
above-finite (inf s) a f = absurd f
above-finite (fin true m e) a f = a
above-finite (fin false m e) a f = a

module _ (r : ToneRow) (g : Good r) where
  pub low-positive : T (positive r.low)
  low-positive = above-finite r.low (above_of_le (khz 32) r.low (positive_of_value (khz 32) 32 1 low_value (lit< tt)) g.order.bottom) g.low_finite

  pub centre-positive : T (positive r.centre)
  centre-positive = above-finite r.centre (above_of_le r.low r.centre low-positive g.order.left) g.centre_finite

  pub high-positive : T (positive r.high)
  high-positive = above-finite r.high (above_of_le r.centre r.high centre-positive g.order.right) g.high_finite

  across : T (le r.low r.high)
  across = le_trans_positive r.low r.centre r.high low-positive centre-positive high-positive g.order.left g.order.right

-- ---- the order of two values that are finite and above zero

itself : (x : Float) → T (positive x) → T (le x x)
itself x p = cross→le x x p p (le_refl (num x * den x))

either : (x y : Float) → T (positive x) → T (positive y) → T (le x y) ⊎ T (le y x)
either x y p q = go (leb (num x * den y) (num y * den x)) (leb→le (num x * den y) (num y * den x)) (nleb→lt (num x * den y) (num y * den x))
  where
    go : (b : Bool) → (T b → num x * den y ≤ num y * den x) → (T (not b) → num y * den x < num x * den y) → T (le x y) ⊎ T (le y x)
    go true h k = inl (cross→le x y p q (h tt))
    go false h k = inr (cross→le y x q p (le_of_lt (k tt)))

-- ---- sharing, as tested, means a tone in both

module _ (a b : ToneRow) (A : Good a) (B : Good b) where
  -- two good rows that share as tested: the larger of their low ends lies in both
  pub shared_tone : T (share a b) → (tone : Float) × (LiesIn tone a × LiesIn tone b)
  shared_tone m = go (either a.low b.low (low-positive a A) (low-positive b B))
    where
      go : T (le a.low b.low) ⊎ T (le b.low a.low) → (tone : Float) × (LiesIn tone a × LiesIn tone b)
      go (inl h) = (b.low, ((h, and_r (le a.low b.high) (le b.low a.high) m), (itself b.low (low-positive b B), across b B)))
      go (inr h) = (a.low, ((itself a.low (low-positive a A), across a A), (h, and_l (le a.low b.high) (le b.low a.high) m)))

  -- two good rows with a tone in both share as tested
  pub tone_shared : (tone : Float) → LiesIn tone a → LiesIn tone b → T (share a b)
  tone_shared t u v =
      let p = between a.low t a.high (low-positive a A) (high-positive a A) u.0 u.1 in
      and_i (le a.low b.high) (le b.low a.high)
      (le_trans_positive a.low t b.high (low-positive a A) p (high-positive b B) u.0 v.1)
      (le_trans_positive b.low t a.high (low-positive b B) p (high-positive a A) v.0 u.1)
