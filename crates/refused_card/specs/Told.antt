-- What the printed range of a setting is, in plain facts: `≤` and `≡` on the bytes of an area, and card's own ranges (card's
-- specs/Plain.antt). The ends that are printed, and a pair's speeds, stand in specs/Refused.antt a second time; that they are card's, neither
-- wider nor narrower, is proved (proofs/Ranges.antt).
use Rattle.std.specs.Prelude.{ℕ, ◌/◌, ◌%◌, ◌≤◌, ◌≡◌, Bool, true, false, List, [], ◌∷◌, ◌↔◌, ◌⊎◌, length}
use Rattle.leaf.specs.Bytes.{byte}
use Rattle.leaf.specs.Answers.{refused_at}
use Rattle.card.specs.Card.{base_kind, Same}
use Rattle.card.specs.Reading.{settings_of, read_card}
use Rattle.card.specs.Plain.{Within, Setting, vmax_setting, tick_setting, bts_setting, initial_setting, last_setting, drop_setting, functions_setting, x_setting, y_setting, pair_speed_setting, pair_distance_setting, OfCard, place, SettingMet, Known}
use Rattle.refused_card.specs.Refused.{low_end, high_end, value_at, is_speed, pair_speeds}

-- an area of bytes
abbrev pub IsBytes : List ℕ → Type 0
IsBytes area = (at : ℕ) → byte area at ≤ 255

-- one of the numbers of a list
abbrev pub Among : ℕ → List ℕ → Type 0
Among x [] = ⊥
Among x (n ∷ []) = x ≡ n
Among x (n ∷ m ∷ rest) = (x ≡ n) ⊎ Among x (m ∷ rest)

-- one of the speeds, or "lo..hi", both ends included
abbrev pub Due : Bool → ℕ → ℕ → ℕ → Type 0
Due true low high x = Among x pair_speeds
Due false low high x = Within low high x

-- as it is printed beside a place of an area
abbrev pub Printed : List ℕ → ℕ → ℕ → Type 0
Printed area at x = Due (is_speed at) (low_end at) (high_end area at) x

-- is a setting of an area looked at: "A version 1 card has functions 0"; "With bit 2 off, bytes 40–43 are not looked at"; 02 g: "Those cards
-- read bytes 44 to 48 as 0"
abbrev pub LookedAt : List ℕ → Setting → Type 0
LookedAt area vmax_setting = Unit
LookedAt area tick_setting = Unit
LookedAt area bts_setting = Unit
LookedAt area (initial_setting row) = Unit
LookedAt area (last_setting row) = Unit
LookedAt area (drop_setting row) = Unit
LookedAt area functions_setting = 2 ≤ byte area 2
LookedAt area x_setting = (2 ≤ byte area 2) × (byte area 39 / 4 % 2 ≡ 1)
LookedAt area y_setting = (2 ≤ byte area 2) × (byte area 39 / 4 % 2 ≡ 1)
LookedAt area (pair_speed_setting pair) = byte area 2 ≡ 3
LookedAt area pair_distance_setting = byte area 2 ≡ 3

-- "3 vmax 80..200 km/h, 4–5 tick length 10..1000 tenths of a millimetre, 6 BTS speed 1..200"; "initial 1..200, final 1..initial, delay any,
-- drop ≥ 1"; "39 functions (0..15), 40–41 reminder X 2..6000 samples, 42–43 reminder Y 1..5000 m"; 02 g: "each one of those four, .. the
-- pair distance 1..50 m": every setting of a card is in range exactly when, if it is looked at, what stands at its place is within what is
-- printed beside that place
abbrev pub RangeExact : List ℕ → Type 0
RangeExact area =
    IsBytes area → Known (byte area 2) → (setting : Setting) → OfCard setting
    → SettingMet base_kind (byte area 2) (settings_of area) setting
    ↔ (LookedAt area setting → Printed area (place base_kind setting) (value_at area (place base_kind setting)))

-- "5 | setting out of range, with place of the first": an area is refused at a place. Any other of that length with the same bytes before the
-- place, whatever stands there and behind it, is refused at that place exactly when what stands there is not within what is printed of the
-- first. With 1..100 printed beside a row's initial this is not so: the card with 201 there is refused, the one with 150 is not refused
-- there, and 150 is not within 1..100.
abbrev pub RangeTold : List ℕ → ℕ → ℕ → ℕ → Type 0
RangeTold area highest n at =
    (other : List ℕ) → IsBytes other → length other ≡ length area → Same area other 0 at
    → (read_card other highest ≡ refused_at n at) ↔ (Printed area at (value_at other at) → ⊥)
