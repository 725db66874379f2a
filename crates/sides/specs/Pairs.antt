-- Document 02 g), "Limit beacons in pairs": the first of a pair, and the paired limits. Distances are tenths of a millimetre, 10,000 to the
-- metre.
use Rattle.std.specs.Prelude.{ℕ, ◌*◌, min, Bool, true, false, ◌&&◌, ◌||◌, not, List, [], ◌∷◌, leb, eqb}
use Rattle.leaf.specs.Choosing.{pick}
use Rattle.leaf.specs.Numbers.{aged_of, further_of, below_of}
use Rattle.leaf.specs.Checks.{Check, first_bad}
use Rattle.sides.specs.declared.pairs.FirstKind.{FirstKind}
use Rattle.sides.specs.declared.pairs.FirstKind.TheVariants.{Absent, Ten, Eleven}
use Rattle.sides.specs.declared.pairs.First.{First}
use Rattle.sides.specs.declared.pairs.PairedLimit.{PairedLimit}
use Rattle.sides.specs.declared.pairs.FourLimits.{FourLimits}
use Rattle.sides.specs.declared.pairs.Paired.{Paired}

-- ---- the first: "the last 10 or 11 read that is in no pair" (g8)

abbrev pub no_first : First
no_first = record { kind = Absent; distance = 0; own = false }

abbrev pub is_first : FirstKind → Bool
is_first Absent = false
is_first Ten = true
is_first Eleven = true

abbrev pub is_eleven : FirstKind → Bool
is_eleven Absent = false
is_eleven Ten = false
is_eleven Eleven = true

-- which of the two a code is
abbrev pub first_kind : Bool → FirstKind
first_kind true = Eleven
first_kind false = Ten

-- a 10 or 11 that is read is the first: "0 in the first's sample" (g9). Its limit is its own where none stood before it
unfoldable pub first_read : ℕ → Bool → First
first_read code own = record { kind = first_kind (eqb code 11); distance = 0; own = own }

-- one sample on; nothing but distance and a mode change parts it from its second (g11)
unfoldable pub first_older : ℕ → First → First
first_older m f = pick (is_first f.kind) (record { kind = f.kind; distance = further_of f.distance m; own = f.own }) f

-- "byte 48, the pair distance 1..50 m"
abbrev pub reach_of : ℕ → ℕ
reach_of metres = metres * 10000

-- "A second 10 or 11 read at no more than that distance from the first makes a pair"
unfoldable pub is_second : ℕ → First → Bool
is_second metres f = is_first f.kind && leb f.distance (reach_of metres)

-- ---- the paired limits: "Up to four paired limits stand, one for each speed": "giving 30, 40, 50 or 70 km/h"

abbrev pub no_paired : PairedLimit
no_paired = record { on = false; age = 0 }

-- "aged from the second beacon that last set it"
abbrev pub paired_now : PairedLimit
paired_now = record { on = true; age = 0 }

unfoldable pub paired_older : PairedLimit → PairedLimit
paired_older l = pick l.on (record { on = true; age = aged_of l.age }) l

-- "each min(T, its speed)", hundredths of km/h
abbrev pub paired_speed : ℕ → ℕ → ℕ
paired_speed top speed = min top (speed * 100)

-- "A paired one may go when 9m < 25 × its value" (g22)
unfoldable pub paired_goes : ℕ → ℕ → ℕ → PairedLimit → Bool
paired_goes m top speed l = l.on && below_of m (paired_speed top speed)

-- ---- the four together, each by its speed

abbrev pub none_of_four : FourLimits
none_of_four = record { thirty = no_paired; forty = no_paired; fifty = no_paired; seventy = no_paired }

-- the one of this speed; 70's for a speed that is none of the four
abbrev pub paired_at : ℕ → FourLimits → PairedLimit
paired_at speed p = pick (eqb speed 30) p.thirty (pick (eqb speed 40) p.forty (pick (eqb speed 50) p.fifty p.seventy))

-- with another in the place of the one of this speed
unfoldable pub four_with : ℕ → PairedLimit → FourLimits → FourLimits
four_with speed l p =
    record {
      thirty = pick (eqb speed 30) l p.thirty;
      forty = pick (eqb speed 40) l p.forty;
      fifty = pick (eqb speed 50) l p.fifty;
      seventy = pick (eqb speed 70) l p.seventy;
    }

unfoldable pub four_older : FourLimits → FourLimits
four_older p =
    record { thirty = paired_older p.thirty; forty = paired_older p.forty; fifty = paired_older p.fifty; seventy = paired_older p.seventy }

unfoldable pub any_paired : FourLimits → Bool
any_paired p = p.thirty.on || p.forty.on || p.fifty.on || p.seventy.on

-- the speeds, lowest first
abbrev pub pair_speeds : List ℕ
pair_speeds = 30 ∷ 40 ∷ 50 ∷ 70 ∷ []

-- does the one of this speed stay
abbrev pub stays_check : ℕ → ℕ → FourLimits → ℕ → Check
stays_check m top p speed = (speed, not (paired_goes m top speed (paired_at speed p)))

abbrev pub stays_checks : ℕ → ℕ → FourLimits → List ℕ → List Check
stays_checks m top p [] = []
stays_checks m top p (speed ∷ rest) = stays_check m top p speed ∷ stays_checks m top p rest

-- "the lowest that may go": the first of them that does not stay, as the first check that fails is found; 0 where none may go
unfoldable pub lowest_to_go : ℕ → ℕ → FourLimits → ℕ
lowest_to_go m top p = first_bad 0 (stays_checks m top p pair_speeds)

-- ---- the first and the four

abbrev pub nothing_paired : Paired
nothing_paired = record { first = no_first; limits = none_of_four }

unfoldable pub all_older : ℕ → Paired → Paired
all_older m p = record { first = first_older m p.first; limits = four_older p.limits }
