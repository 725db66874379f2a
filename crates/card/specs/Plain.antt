-- The same rules once more in plain facts, `≤` and `≡` on bytes and fields, and no order of looking but that of the places and
-- of document 01's numbers: each setting with its place and range; how a check, a reading and a writing end. That the
-- definitions come to these is proved, exactly when (proofs/Exactly.antt).
use Rattle.std.specs.Prelude.{ℕ, ◌+◌, ◌*◌, ◌/◌, ◌%◌, ◌≤◌, ◌<◌, ◌≡◌, List, ◌⊎◌, length}
use Rattle.leaf.specs.Bytes.{byte, word}
use Rattle.leaf.specs.Answers.{Answer, given, refused, refused_at}
use Rattle.card.specs.Card.{base_kind, speed_of}
use Rattle.card.specs.Ranges.{row_of}
use Rattle.card.specs.Reading.{settings_of}
use Rattle.card.specs.declared.Kind.{Kind}
use Rattle.card.specs.declared.Settings.{Settings}

-- "lo..hi", both ends included
abbrev pub Within : ℕ → ℕ → ℕ → Type 0
Within lo hi x = (lo ≤ x) × (x ≤ hi)

-- 02 g: "giving 30, 40, 50 or 70 km/h": one of them
abbrev pub OneOfFour : ℕ → Type 0
OneOfFour x = (x ≡ 30) ⊎ (x ≡ 40) ⊎ (x ≡ 50) ⊎ (x ≡ 70)

-- ---- the settings, each with its place and range

-- what can be out of range on a card: of each row its initial, final and drop; of pairs 10-10, 10-11, 11-10, 11-11, numbered 0 to 3, the
-- speed
pub data Setting : Type 0 where
  vmax_setting : Setting
  tick_setting : Setting
  bts_setting : Setting
  initial_setting : ℕ → Setting
  last_setting : ℕ → Setting
  drop_setting : ℕ → Setting
  functions_setting : Setting
  x_setting : Setting
  y_setting : Setting
  pair_speed_setting : ℕ → Setting
  pair_distance_setting : Setting

-- "eight rows", and four pairs: a setting that a card has
abbrev pub OfCard : Setting → Type 0
OfCard vmax_setting = Unit
OfCard tick_setting = Unit
OfCard bts_setting = Unit
OfCard (initial_setting row) = row < 8
OfCard (last_setting row) = row < 8
OfCard (drop_setting row) = row < 8
OfCard functions_setting = Unit
OfCard x_setting = Unit
OfCard y_setting = Unit
OfCard (pair_speed_setting pair) = pair < 4
OfCard pair_distance_setting = Unit

-- how many bytes behind the first setting: "3 vmax .., 4–5 tick length .., 6 BTS speed .., 7–38 eight rows of four: initial, final,
-- delay, drop .. 39 functions .., 40–41 reminder X .., 42–43 reminder Y"; 02 g: "bytes 44–47, the speeds for pairs 10-10, 10-11, 11-10,
-- 11-11 .. and byte 48, the pair distance"
abbrev pub offset : Setting → ℕ
offset vmax_setting = 0
offset tick_setting = 1
offset bts_setting = 3
offset (initial_setting row) = 4 + 4 * row
offset (last_setting row) = 4 + 4 * row + 1
offset (drop_setting row) = 4 + 4 * row + 3
offset functions_setting = 36
offset x_setting = 37
offset y_setting = 39
offset (pair_speed_setting pair) = 41 + pair
offset pair_distance_setting = 45

-- "Places are (first) byte positions"
abbrev pub place : Kind → Setting → ℕ
place kind setting = kind.first + offset setting

-- a kind whose places are bytes, and none of them 0
pub record Placed (kind : Kind) : Type 0 where
  pub low : 1 ≤ kind.first
  pub high : kind.first + 45 ≤ 255

-- the range of each, beside a version: "In a row initial 1..200, final 1..initial, delay any, drop ≥ 1."; "A version 1 card has
-- functions 0"; with bit 2 off "settings handed in must then have X and Y 0"; 02 g: "each one of those four", "the pair distance 1..50 m",
-- "settings handed in beside version 1 or 2 must have them 0"
abbrev pub SettingMet : Kind → ℕ → Settings → Setting → Type 0
SettingMet kind version s vmax_setting = Within kind.vmax_lowest kind.vmax_highest s.vmax
SettingMet kind version s tick_setting = Within 10 1000 s.tick
SettingMet kind version s bts_setting = Within 1 200 s.bts
SettingMet kind version s (initial_setting row) = Within 1 200 (row_of s row).initial
SettingMet kind version s (last_setting row) = Within 1 (row_of s row).initial (row_of s row).last
SettingMet kind version s (drop_setting row) = 1 ≤ (row_of s row).drop
SettingMet kind version s functions_setting = (version ≡ 1 → s.functions ≡ 0) × (s.functions ≤ 15)
SettingMet kind version s x_setting = (s.functions / 4 % 2 ≡ 1 → Within 2 6000 s.x) × (s.functions / 4 % 2 ≡ 0 → s.x ≡ 0)
SettingMet kind version s y_setting = (s.functions / 4 % 2 ≡ 1 → Within 1 5000 s.y) × (s.functions / 4 % 2 ≡ 0 → s.y ≡ 0)
SettingMet kind version s (pair_speed_setting pair) =
    (version ≡ 3 → OneOfFour (speed_of s.pairs pair)) × ((version ≡ 3 → ⊥) → speed_of s.pairs pair ≡ 0)
SettingMet kind version s pair_distance_setting =
    (version ≡ 3 → Within 1 50 s.pairs.distance) × ((version ≡ 3 → ⊥) → s.pairs.distance ≡ 0)

-- every setting is in range
abbrev pub RangesMet : Kind → ℕ → Settings → Type 0
RangesMet kind version s = (setting : Setting) → OfCard setting → SettingMet kind version s setting

-- "setting out of range, with place of the first": at this place stands a setting out of range, and every setting at an earlier
-- place is in range
pub record FirstOut (kind : Kind) (version : ℕ) (s : Settings) (at : ℕ) : Type 0 where
  pub setting : Setting
  pub of_card : OfCard setting
  pub stands : place kind setting ≡ at
  pub out : SettingMet kind version s setting → ⊥
  pub earlier : (other : Setting) → OfCard other → place kind other < at → SettingMet kind version s other

-- the ranges once more, of the bytes of a record: "A version 1 card has functions 0"; "With bit 2 off, bytes 40–43 are not looked at"; 02 g:
-- "Card version 3 is version 2 with bytes 44–47 .. and byte 48"
pub record BytesMet (kind : Kind) (version : ℕ) (area : List ℕ) : Type 0 where
  pub vmax : Within kind.vmax_lowest kind.vmax_highest (byte area (place kind vmax_setting))
  pub tick : Within 10 1000 (word area (place kind tick_setting))
  pub bts : Within 1 200 (byte area (place kind bts_setting))
  pub initial : (row : ℕ) → row < 8 → Within 1 200 (byte area (place kind (initial_setting row)))
  pub last : (row : ℕ) → row < 8 → Within 1 (byte area (place kind (initial_setting row))) (byte area (place kind (last_setting row)))
  pub drop : (row : ℕ) → row < 8 → 1 ≤ byte area (place kind (drop_setting row))
  pub functions : 2 ≤ version → byte area (place kind functions_setting) ≤ 15
  pub reminder : 2 ≤ version → byte area (place kind functions_setting) / 4 % 2 ≡ 1
      → Within 2 6000 (word area (place kind x_setting)) × Within 1 5000 (word area (place kind y_setting))
  pub speeds : version ≡ 3 → (pair : ℕ) → pair < 4 → OneOfFour (byte area (place kind (pair_speed_setting pair)))
  pub distance : version ≡ 3 → Within 1 50 (byte area (place kind pair_distance_setting))

-- ---- how a check of settings ends

-- "5 | setting out of range, with place of the first", or none is
pub data CheckedAs (kind : Kind) (version : ℕ) (s : Settings) : Answer Unit → Type 0 where
  out_of_range : (at : ℕ) → FirstOut kind version s at → CheckedAs kind version s (refused_at 5 at)
  all_in_range : RangesMet kind version s → CheckedAs kind version s (given tt)

-- on this card
abbrev pub SettingsMet : ℕ → Settings → Type 0
SettingsMet version s = RangesMet base_kind version s

-- ---- how a reading ends

-- the versions there are: 02 g: "2 and 6 now allow 3"
abbrev pub Known : ℕ → Type 0
Known version = Within 1 3 version

-- "The version 1 length, 39, and the version 2 length, 44"; 02 g: "length 49": a version's length
abbrev pub LengthOf : ℕ → ℕ → Type 0
LengthOf version n = (version ≡ 1 → n ≡ 39) × (version ≡ 2 → n ≡ 44) × (version ≡ 3 → n ≡ 49)

-- a header with which the settings are looked at
pub record HeaderMet (area : List ℕ) (highest : ℕ) : Type 0 where
  pub known : Known highest
  pub version : Within 1 highest (byte area 2)
  pub stated : LengthOf (byte area 2) (word area 0)
  pub whole : word area 0 ≤ length area

-- an area that a reader whose highest version is `highest` accepts
pub record CardMet (area : List ℕ) (highest : ℕ) : Type 0 where
  pub header : HeaderMet area highest
  pub bytes : BytesMet base_kind (byte area 2) area

-- "Order: card reading 6, 1 (under 3), 2, 3, 4, 1 (record), 5": each way has what those before it ask for
pub data ReadAs (area : List ℕ) (highest : ℕ) : Answer Settings → Type 0 where
  -- "6 | reader's highest version not 1 or 2", or (02 g) 3
  unknown_highest : (Known highest → ⊥) → ReadAs area highest (refused 6)
  -- "1 | card area under 3 bytes"
  under_3 : Known highest → length area < 3 → ReadAs area highest (refused 1)
  -- "2 | card version 0"
  version_0 : Known highest → 3 ≤ length area → byte area 2 ≡ 0 → ReadAs area highest (refused 2)
  -- "3 | card version above the reader's highest"
  version_above : Known highest → 3 ≤ length area → highest < byte area 2 → ReadAs area highest (refused 3)
  -- "4 | length field is not its version's length"
  other_length : Known highest → 3 ≤ length area → Within 1 highest (byte area 2) → (LengthOf (byte area 2) (word area 0) → ⊥)
      → ReadAs area highest (refused 4)
  -- "1 | .. or shorter than its record"
  short : Known highest → 3 ≤ length area → Within 1 highest (byte area 2) → LengthOf (byte area 2) (word area 0)
      → length area < word area 0 → ReadAs area highest (refused 1)
  -- "5 | setting out of range, with place of the first"
  out_of_range : HeaderMet area highest → (at : ℕ) → FirstOut base_kind (byte area 2) (settings_of area) at → ReadAs area highest (refused_at 5 at)
  -- none of them: the settings of its bytes
  accepted : CardMet area highest → ReadAs area highest (given (settings_of area))

-- ---- how a writing ends

-- what the writer writes into a buffer of `room` bytes
pub record WriteMet (version : ℕ) (s : Settings) (room : ℕ) : Type 0 where
  pub known : Known version
  pub settings : SettingsMet version s
  pub fits : (n : ℕ) → LengthOf version n → n ≤ room

-- "writing 2, 5, 13": each way has what those before it ask for
pub data WrittenAs (version : ℕ) (s : Settings) (room : ℕ) : Answer Unit → Type 0 where
  -- "2 | .. (writer: not 1 or 2)", or (02 g) 3
  unknown_version : (Known version → ⊥) → WrittenAs version s room (refused 2)
  -- "5 | setting out of range, with place of the first"
  out_of_range : Known version → (at : ℕ) → FirstOut base_kind version s at → WrittenAs version s room (refused_at 5 at)
  -- "13 | writer's buffer shorter than the record"
  short : Known version → SettingsMet version s → ((n : ℕ) → LengthOf version n → room < n) → WrittenAs version s room (refused 13)
  -- none of them: it is done
  done : WriteMet version s room → WrittenAs version s room (given tt)
