-- The loop over the speeds of the paired limits: what is found from one of them on.
use Prim.Native.Nat.{ℕ, zero, suc, ◌+◌, ◌<◌}
use native.Mathlib.Omega.{arith}
use mathlib.Core.Path.{◌≡◌}
use mathlib.Core.Bool.{true, false}
use lib.ListN.{drop}
use Rattle.std.proofs.Common.{slice_index_or}
use Rattle.leaf.specs.Checks.{or_fault, first_bad}
use Rattle.sides.specs.declared.pairs.FourLimits.{FourLimits}
use Rattle.sides.specs.Pairs.{paired_goes, paired_at, pair_speeds, stays_checks}

module _ (m top : ℕ) (p : FourLimits) where
  -- where the limit of the speed at a place may go, that speed is found,
  pub found_here :
      (i : ℕ) → i < 4 → paired_goes m top (slice_index_or {A = ℕ} pair_speeds i 0) (paired_at (slice_index_or {A = ℕ} pair_speeds i 0) p) ≡ true
      → first_bad 0 (stays_checks m top p (drop i pair_speeds)) ≡ slice_index_or {A = ℕ} pair_speeds i 0
  unfolding or_fault
  found_here zero here goes = let g : paired_goes m top 30 p.thirty ≡ true = goes in rw g
  found_here (suc zero) here goes = let g : paired_goes m top 40 p.forty ≡ true = goes in rw g
  found_here (suc (suc zero)) here goes = let g : paired_goes m top 50 p.fifty ≡ true = goes in rw g
  found_here (suc (suc (suc zero))) here goes = let g : paired_goes m top 70 p.seventy ≡ true = goes in rw g
  found_here (suc (suc (suc (suc i)))) here goes = absurd (omega arith)

  -- and where it may not, what the others find
  pub found_behind :
      (i : ℕ) → i < 4 → paired_goes m top (slice_index_or {A = ℕ} pair_speeds i 0) (paired_at (slice_index_or {A = ℕ} pair_speeds i 0) p) ≡ false
      → first_bad 0 (stays_checks m top p (drop i pair_speeds)) ≡ first_bad 0 (stays_checks m top p (drop (i + 1) pair_speeds))
  unfolding or_fault
  found_behind zero here stays = let g : paired_goes m top 30 p.thirty ≡ false = stays in rw g
  found_behind (suc zero) here stays = let g : paired_goes m top 40 p.forty ≡ false = stays in rw g
  found_behind (suc (suc zero)) here stays = let g : paired_goes m top 50 p.fifty ≡ false = stays in rw g
  found_behind (suc (suc (suc zero))) here stays = let g : paired_goes m top 70 p.seventy ≡ false = stays in rw g
  found_behind (suc (suc (suc (suc i)))) here stays = absurd (omega arith)
