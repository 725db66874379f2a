-- Laws of the paired limits' definitions, for this crate's proofs and for others'.
use Rattle.std.specs.Prelude.{ℕ, ◌≡◌, refl, Bool, true, false, ◌||◌}
use Rattle.sides.specs.declared.pairs.FourLimits.{FourLimits}
use Rattle.sides.specs.declared.pairs.Paired.{Paired}
use Rattle.sides.specs.Pairs.{is_first, first_older, paired_older, paired_goes, four_older, any_paired, lowest_to_go, all_older}
use Rattle.leaf.specs.Checks.{or_fault}

-- neither of two
pub neither : (a b : Bool) → (a || b) ≡ false → (a ≡ false) × (b ≡ false)
neither true b h = let z : ◌≡◌ {A = Bool} true false = h in (z, absurd_of z b)
  where
    absurd_of : ◌≡◌ {A = Bool} true false → (b : Bool) → b ≡ false
    absurd_of z true = z
    absurd_of z false = refl
neither false b h = (refl, h)

-- none of the four stands
pub record NoneStands (p : FourLimits) : Type 0 where
  pub thirty : p.thirty.on ≡ false
  pub forty : p.forty.on ≡ false
  pub fifty : p.fifty.on ≡ false
  pub seventy : p.seventy.on ≡ false

pub none_stands : (p : FourLimits) → any_paired p ≡ false → NoneStands p
unfolding any_paired
none_stands p h =
    let c = neither (p.thirty.on || p.forty.on || p.fifty.on) p.seventy.on h in
    let b = neither (p.thirty.on || p.forty.on) p.fifty.on c.0 in
    let a = neither p.thirty.on p.forty.on b.0 in
    record { thirty = a.0; forty = a.1; fifty = b.1; seventy = c.1 }

-- then none may go,
pub none_goes : (m top : ℕ) (p : FourLimits) → any_paired p ≡ false → lowest_to_go m top p ≡ 0
unfolding lowest_to_go paired_goes or_fault
none_goes m top p h =
    let n = none_stands p h in
    rw (n.thirty, n.forty, n.fifty, n.seventy)

-- and none grows older
pub none_older : (p : FourLimits) → any_paired p ≡ false → four_older p ≡ p
unfolding four_older paired_older
none_older p h =
    let n = none_stands p h in
    rw (n.thirty, n.forty, n.fifty, n.seventy)

-- nor does anything where there is no first either
pub nothing_older : (m : ℕ) (p : Paired) → (is_first p.first.kind || any_paired p.limits) ≡ false → all_older m p ≡ p
unfolding all_older first_older
nothing_older m p h =
    let n = neither (is_first p.first.kind) (any_paired p.limits) h in
    rw (n.0, none_older p.limits n.1)
