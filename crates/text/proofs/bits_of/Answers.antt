use mathlib.Core.Path.{◌≡◌, refl, ◌∙◌, sym}
use mathlib.Core.Bool.{true}
use lib.Ieee.{Float, nan, inf, fin, binary32, is_nan, to_bits}
use Rattle.text.proofs.bits_of.Goals as goal

nan_bits : (x : Float) → is_nan x ≡ true → 0x7fc0_0000 ≡ to_bits binary32 x
unfolding is_nan to_bits
nan_bits nan e = refl
nan_bits (inf s) e = cc
nan_bits (fin s m d) e = cc

pub returns-then-is_nan : goal.returns-then-is_nan
returns-then-is_nan c = nan_bits _ (sym c.is_nan.ensures.value ∙ c.if-is_nan.true)
