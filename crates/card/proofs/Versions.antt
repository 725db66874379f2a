-- A reader refuses a version above its highest; and a version 1 card and a version 2 card with the same common settings and
-- functions 0 read alike.
use Prim.Native.Nat.{ℕ, ◌≤◌, ◌<◌}
use native.Mathlib.Omega.{arith}
use mathlib.Core.Path.{◌≡◌, refl, sym, ap, ◌∙◌}
use mathlib.Core.List.{List}
use lib.Dec.{lit≤}
use lib.ListN.{length}
use Rattle.leaf.specs.Bytes.{byte}
use Rattle.leaf.specs.Answers.{refused}
use Rattle.card.specs.Card.{base_kind, Same}
use Rattle.card.specs.Ranges.{settings_fault, fault_of}
use Rattle.card.specs.Reading.{functions_from, pairs_from, settings_from, settings_of, read_card, paper_of}
use Rattle.card.specs.Plain.{Known, HeaderMet, version_above}
use Rattle.card.specs.declared.Settings.{Settings}
use Rattle.leaf.specs.declared.refusal.Refusal.{Refusal}
use Rattle.std.specs.Prelude.{Result}
use Rattle.card.proofs.Determined.{paper_one}
use Rattle.card.proofs.Exactly.{header_passes, read_exactly}
use Rattle.card.proofs.Same.{same_settings}

-- ---- a version above the highest

pub above_refused : (area : List ℕ) (h : ℕ) → Known h → 3 ≤ length area → h < byte area 2 → read_card area h ≡ refused 3
above_refused area h known long above = (read_exactly area h (refused 3)).1 (version_above known long above)

-- "A reader told to know version 1 refuses version 2 with 3"
pub knows_1_refuses_2 : (area : List ℕ) → 3 ≤ length area → byte area 2 ≡ 2 → read_card area 1 ≡ refused 3
knows_1_refuses_2 area long two = above_refused area 1 (lit≤ tt, lit≤ tt) long (rw two (lit≤ tt))

-- 02 g: "a reader of highest 1 or 2 refuses version 3 by name"
pub knows_older_refuses_3 : (area : List ℕ) (h : ℕ) → 1 ≤ h → h ≤ 2 → 3 ≤ length area → byte area 2 ≡ 3 → read_card area h ≡ refused 3
knows_older_refuses_3 area h low high long three = above_refused area h (low, omega arith) long (rw three (omega arith))

-- ---- version 1 and version 2

-- settings without functions are in range beside either version, or at fault at the same place
fault_alike : (s : Settings) → s.functions ≡ 0 → fault_of 1 s ≡ fault_of 2 s
unfolding fault_of settings_fault
fault_alike s none = rw none

module _ (a b : List ℕ) (one : byte a 2 ≡ 1) (two : byte b 2 ≡ 2) (common : Same a b 3 39) (none : byte b 39 ≡ 0) where
  same_functions : functions_from base_kind 1 a ≡ functions_from base_kind 2 b
  unfolding functions_from
  same_functions = sym none

  without : functions_from base_kind 2 b ≡ 0
  unfolding functions_from
  without = none

  -- neither has pairs
  same_pairless : pairs_from base_kind 1 a ≡ pairs_from base_kind 2 b
  unfolding pairs_from
  same_pairless = refl

  same_12 : settings_from base_kind 1 a ≡ settings_from base_kind 2 b
  same_12 =
      same_settings base_kind 1 2 a b common same_functions (λ on. let z : ◌≡◌ {A = ℕ} 0 1 = cc (rw without at on) in absurd (omega arith)) same_pairless

  -- the settings of a version 1 area and a version 2 area with the same common settings and functions 0 are the same
  pub same_card : settings_of a ≡ settings_of b
  same_card = rw (one, two) same_12

  fault_12 : fault_of 1 (settings_from base_kind 1 a) ≡ fault_of 2 (settings_from base_kind 2 b)
  unfolding settings_from
  fault_12 = ap (fault_of 1) same_12 ∙ fault_alike (settings_from base_kind 2 b) without

  -- with headers in order, they read alike: as the same settings, or at fault at the same place
  pub versions_alike : (h g : ℕ) → HeaderMet a h → HeaderMet b g → read_card a h ≡ read_card b g
  versions_alike h g head_a head_b = header_passes a h head_a ∙ rw (one, two, fault_12, same_12) refl ∙ sym (header_passes b g head_b)

  pub versions_alike_results : (h g : ℕ) → HeaderMet a h → HeaderMet b g → (r t : Result Settings Refusal) → paper_of r ≡ read_card a h → paper_of t ≡ read_card b g → r ≡ t
  versions_alike_results h g head_a head_b r t pr pt = paper_one r t (pr ∙ versions_alike h g head_a head_b ∙ sym pt)
