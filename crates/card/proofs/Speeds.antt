-- The speeds of a card's pairs: one rule, applied to four (02 g).
use Prim.Native.Nat.{ℕ, zero, suc, ◌+◌, ◌<◌}
use native.Mathlib.Omega.{arith}
use mathlib.Core.Path.{◌≡◌, refl}
use mathlib.Core.List.{List, [], ◌∷◌}
use lib.ListN.{length, take, drop}
use Rattle.leaf.specs.Bytes.{byte}
use Rattle.card.specs.Card.{base_kind, speeds_of, speed_of}
use Rattle.card.specs.Ranges.{pair_speed_met, checks_of}
use Rattle.card.specs.Reading.{settings_from, settings_of}
use Rattle.card.specs.declared.Settings.{Settings}
use Rattle.card.proofs.Area.{speed_3}

-- "the speeds for pairs 10-10, 10-11, 11-10, 11-11": there are four
pub four_speeds : (s : Settings) → length (speeds_of s.pairs) ≡ 4
four_speeds s = refl

-- of all that the check of settings goes by, that of pair i's speed is the one rule, at place 44 + i
pub speed_rule : (v : ℕ) (s : Settings) (i : ℕ) → i < 4 → take 1 (drop (30 + i) (checks_of v s)) ≡ (44 + i, pair_speed_met v (speed_of s.pairs i)) ∷ []
speed_rule v s zero here = refl
speed_rule v s (suc zero) here = refl
speed_rule v s (suc (suc zero)) here = refl
speed_rule v s (suc (suc (suc zero))) here = refl
speed_rule v s (suc (suc (suc (suc i)))) here = absurd (omega arith)

-- and the speed of pair i on a version 3 card is the byte there: speeds in another order have other bytes
pub speed_bytes : (area : List ℕ) (i : ℕ) → i < 4 → byte area 2 ≡ 3 → speed_of (settings_of area).pairs i ≡ byte area (44 + i)
unfolding settings_from
speed_bytes area i here three = let e : 44 + i ≡ 3 + (41 + i) = omega arith in rw e (speed_3 base_kind (byte area 2) area three i here)
