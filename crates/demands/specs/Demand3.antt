-- DEMAND 3. "Old bytes stay silent. Same speaking bytes, same answers for every sequence of samples; version 1 answers like version 2 with all
-- later functions off; two cards that differ only in later functions answer alike up to, not including, the first accepted sample at which
-- a differing function speaks; a reader told to know version 1 refuses version 2 by name." 02 g: "Demand 3 gains: a reader of highest 1 or 2
-- refuses version 3 by name, version 3 speaks beside older cards at the first 10 or 11 read, and bytes 44 to 48 at the second."
--
-- Stated of the sessions that demand 2 defines: `ride_of area highest train xs` is all that a desk answers
-- with this card, a reader told to know the versions up to `highest`, this train type, and these samples.
use Rattle.std.specs.Prelude.{ℕ, zero, suc, ◌≤◌, true, false, ◌≡◌, List, [], ◌∷◌, ◌++◌, eqb, length}
use Rattle.leaf.specs.Choosing.{pick}
use Rattle.leaf.specs.Bytes.{byte}
use Rattle.leaf.specs.Answers.{given, refused}
use Rattle.card.specs.declared.Card.{Card}
use Rattle.card.specs.Card.{length_of, speaks, Same}
use Rattle.card.specs.Reading.{settings_of, read_card, card_in}
use Rattle.session.specs.declared.Sample.{Sample}
use Rattle.session.specs.Session.{Outcome}
use Rattle.text.specs.Decimal.{newline}
use Rattle.printed.specs.declared.Columns.{Columns}
use Rattle.rides.specs.Recording.{train_of, samples_of}
use Rattle.printed.specs.Printed.{highest, printed_ride}
use Rattle.demands.specs.Runs.{ride_of, first_of}
use Rattle.demands.specs.Speaks.{until_speaks}
use Rattle.demands.specs.Examples.{conv, bts, times, answer, shows, repeated, card_r, card_p, card_p2}

-- "Speaking bytes: the record, less 40–43 when bit 2 is off.": both areas hold the first one's record, and its speaking bytes are the same
pub record SameSpeaking (a b : List ℕ) : Type 0 where
  pub whole_a : length_of (byte a 2) ≤ length a
  pub whole_b : length_of (byte a 2) ≤ length b
  pub same : (i : ℕ) → speaks (byte a 2) (byte a 39) i ≡ true → byte a i ≡ byte b i

-- a version 1 card, and a version 2 card with the same common settings (bytes 3 to 38) and all four functions off
pub record SameWithout (a b : List ℕ) : Type 0 where
  pub version_1 : byte a 2 ≡ 1
  pub version_2 : byte b 2 ≡ 2
  pub common : Same a b 3 39
  pub off : byte b 39 ≡ 0

-- ---- as printed

-- what prints a ride: columns, card and recording make a text
abbrev pub Printer : Type 0
Printer = Columns → List ℕ → List ℕ → List ℕ

-- 3a. Two areas with the same speaking bytes print the same text.
abbrev pub SilentPrint : Printer → Type 0
SilentPrint print = (columns : Columns) (a b recording : List ℕ) → SameSpeaking a b → print columns a recording ≡ print columns b recording

-- 3b. So do accepted cards of version 1 and 2 with the same common settings and all four functions off.
abbrev pub VersionsPrint : Printer → Type 0
VersionsPrint print = (columns : Columns) (a b recording : List ℕ) (c t : Card) → card_in a highest ≡ given c → card_in b highest ≡ given t
    → SameWithout a b → print columns a recording ≡ print columns b recording

-- the first n lines of a text: up to and with its n-th newline, or all of it
unfoldable pub first_lines : List ℕ → ℕ → List ℕ
first_lines [] n = []
first_lines (b ∷ rest) zero = []
first_lines (b ∷ rest) (suc n) = b ∷ first_lines rest (pick (eqb b newline) n (suc n))

-- 3c. Two cards that differ only in version and later functions print the same lines: the heading, and those of the samples up to, and not including, the
-- first accepted one at which a differing function speaks.
abbrev pub FunctionsPrint : Printer → Type 0
FunctionsPrint print = (columns : Columns) (a b recording : List ℕ) (c t : Card) → card_in a highest ≡ given c → card_in b highest ≡ given t
    → Same a b 3 39 → (let k = until_speaks c t (train_of recording) (samples_of recording) in
    first_lines (print columns a recording) (suc k) ≡ first_lines (print columns b recording) (suc k))

-- ---- the demand

pub record Demand3 : Type 0 where
  -- 3a. The same speaking bytes: the same reader reads both areas alike, as the same settings or refused the same; and the answers are the
  -- same for every train type and every list of samples.
  pub silent_bytes : (a b : List ℕ) (h : ℕ) → SameSpeaking a b
      → (read_card b h ≡ read_card a h) × ((train : ℕ) (xs : List Sample) → ride_of b h train xs ≡ ride_of a h train xs)
  -- 3b. Accepted cards of version 1 and 2 with the same common settings and all four functions off: the same answers for every train type and
  -- every list of samples.
  pub versions_silent : (a b : List ℕ) (h g : ℕ) (c t : Card) → card_in a h ≡ given c → card_in b g ≡ given t → SameWithout a b
      → (train : ℕ) (xs : List Sample) → ride_of a h train xs ≡ ride_of b g train xs
  -- 3c. Two accepted cards that differ only in version, later functions and their settings (the same bytes 3 to 38): for every train type and every
  -- list of samples the answers are the same up to, and not including, the first accepted sample at which a differing function speaks.
  pub functions_silent : (a b : List ℕ) (h g : ℕ) (c t : Card) → card_in a h ≡ given c → card_in b g ≡ given t → Same a b 3 39
      → (train : ℕ) (xs : List Sample) → first_of (until_speaks c t train xs) (ride_of a h train xs) ≡ first_of (until_speaks c t train xs) (ride_of b g train xs)
  -- 3d. "3 | card version above the reader's highest": a reader told to know version 1 refuses version 2 by name, and there is no more.
  pub version_2_refused : (area : List ℕ) → 3 ≤ length area → byte area 2 ≡ 2
      → (read_card area 1 ≡ refused 3) × ((train : ℕ) (xs : List Sample) → ride_of area 1 train xs ≡ refused 3)
  -- 02 g: "a reader of highest 1 or 2 refuses version 3 by name"
  pub version_3_refused : (area : List ℕ) (h : ℕ) → 1 ≤ h → h ≤ 2 → 3 ≤ length area → byte area 2 ≡ 3
      → (read_card area h ≡ refused 3) × ((train : ℕ) (xs : List Sample) → ride_of area h train xs ≡ refused 3)
  -- and the same of the ride as it is printed
  pub silent_print : SilentPrint printed_ride
  pub versions_print : VersionsPrint printed_ride
  pub functions_print : FunctionsPrint printed_ride

-- ---- its hypotheses are met, by realistic cards

-- card R, version 2, and so many functions; with the reminder on, X 200 and Y 500
abbrev pub R : ℕ → List ℕ
R functions = card_r (functions ∷ 0x00 ∷ 0xC8 ∷ 0x01 ∷ 0xF4 ∷ [])

-- vmax to start of card A of document 01, with another limit row
abbrev pub common_a : List ℕ → List ℕ
common_a limit =
    0xA0 ∷ 0x00 ∷ 0x64 ∷ 0x50 ∷ 0xA0 ∷ 0x78 ∷ 0x4B ∷ 0x14 ∷ 0xA0 ∷ 0x50 ∷ 0x4B ∷ 0x16 ∷ 0xA0 ∷ 0x64 ∷ 0x4B ∷ 0x16 ∷ 0xA0 ∷ 0x50 ∷ 0x4B ∷ 0x16
    ∷ 0x50 ∷ 0x28 ∷ 0x14 ∷ 0x14 ∷ 0x9B ∷ 0x1E ∷ 0x14 ∷ 0x16 ∷ (limit ++ (0x64 ∷ 0x64 ∷ 0x00 ∷ 0x01 ∷ []))

-- card C of the readings of document 02, with another speed for the pair 10-11; and CF, "C with row 6 `3C3C0001`", as version 3 and as version 2
abbrev pub C : ℕ → List ℕ
C speed = 0x00 ∷ 0x31 ∷ 0x03 ∷ (common_a (0xA0 ∷ 0x3C ∷ 0x4B ∷ 0x16 ∷ []) ++ (0x0F ∷ 0x00 ∷ 0x14 ∷ 0x00 ∷ 0x32 ∷ 0x1E ∷ speed ∷ 0x32 ∷ 0x46 ∷ 0x0A ∷ []))

abbrev pub CF : List ℕ
CF = 0x00 ∷ 0x31 ∷ 0x03 ∷ (common_a (0x3C ∷ 0x3C ∷ 0x00 ∷ 0x01 ∷ []) ++ (0x0F ∷ 0x00 ∷ 0x14 ∷ 0x00 ∷ 0x32 ∷ 0x1E ∷ 0x28 ∷ 0x32 ∷ 0x46 ∷ 0x0A ∷ []))

abbrev pub CF_2 : List ℕ
CF_2 = 0x00 ∷ 0x2C ∷ 0x02 ∷ (common_a (0x3C ∷ 0x3C ∷ 0x00 ∷ 0x01 ∷ []) ++ (0x0F ∷ 0x00 ∷ 0x14 ∷ 0x00 ∷ 0x32 ∷ []))

-- with the reminder off; and the same with other silent bytes, and a whole reminder setting behind the record
abbrev pub quiet_r : List ℕ
quiet_r = card_r (0x0B ∷ 0x00 ∷ 0x00 ∷ 0x00 ∷ 0x00 ∷ [])

abbrev pub noisy_r : List ℕ
noisy_r = card_r (0x0B ∷ 0xFF ∷ 0xFF ∷ 0x17 ∷ 0x70 ∷ 0x0F ∷ 0x00 ∷ 0xC8 ∷ 0x01 ∷ 0xF4 ∷ [])

pub record HypothesesMet : Type 0 where
  pub same_speaking : SameSpeaking quiet_r noisy_r
  pub reads_quiet : read_card quiet_r 2 ≡ given (settings_of quiet_r)
  -- card P, from before 2015, and its version 2 form
  pub reads_1 : read_card card_p 1 ≡ given (settings_of card_p)
  pub reads_2 : read_card card_p2 2 ≡ given (settings_of card_p2)
  pub same_p : SameWithout card_p card_p2
  -- card R with all functions, and with the reminder off
  pub reads_r : read_card (R 0x0F) 2 ≡ given (settings_of (R 0x0F))
  pub same_r : Same (R 0x0F) quiet_r 3 39

-- ---- and it is not met by a constant desk only

-- the card of an area's bytes
abbrev pub card_of : List ℕ → Card
card_of area = record { version = byte area 2; settings = settings_of area }

-- with either card a ride of train type 6 is answered alike by `before`, sample for sample, until a differing function speaks at the next
-- sample, which is answered by p with one card and by q with the other
pub record Parting (a b : List ℕ) (xs : List Sample) (before : List Outcome) (p q : Outcome) : Type 0 where
  pub speaks_at : until_speaks (card_of a) (card_of b) 6 xs ≡ length before
  pub answers_a : ride_of a 3 6 xs ≡ given (before ++ (p ∷ []))
  pub answers_b : ride_of b 3 6 xs ≡ given (before ++ (q ∷ []))
  pub part : p ≡ q → ⊥

-- for each of the four functions: two accepted cards that differ in it, a ride, and the very sample at which it speaks and the answers part
pub record Partings : Type 0 where
  -- bit 0: beacon 4 at standstill sets protected, which turns unprotected at once
  pub crossing_parts :
      Parting (R 0x0F) (R 0x0E) (conv 0 0 0 ∷ conv 0 4 0 ∷ []) (shows 14000 0 0 ∷ []) (answer 14000 0 0 2 false) (shows 14000 0 0)
  -- bit 1: beacon 7 again, after 40 cm
  pub zone_parts :
      Parting (R 0x0F) (R 0x0D) (conv 20 7 0 ∷ conv 20 0 0 ∷ conv 20 7 0 ∷ []) (shows 5000 16 0 ∷ shows 5000 16 0 ∷ []) (shows 1000 0 0) (shows 5000 16 0)
  -- bit 2: a beacon 8 passed under override, increased to 100 km/h, and 200 m on at 290 pulses a sample, which the 69th of them completes
  pub reminder_parts :
      Parting (R 0x0F) quiet_r (conv 0 0 128 ∷ conv 0 8 0 ∷ conv 0 0 256 ∷ times 69 (conv 290 0 0) [])
      (shows 14000 128 0 ∷ shows 4000 256 0 ∷ shows 10000 0 0 ∷ repeated 68 (shows 10000 0 0) []) (shows 10000 128 0) (shows 10000 0 0)
  -- bit 3: beacon 10 in BTS
  pub bts_parts :
      Parting (R 0x0F) (R 0x07) (bts 0 0 0 ∷ bts 0 10 0 ∷ []) (shows 10000 0 0 ∷ []) (answer 10000 64 0 0 true) (shows 10000 0 0)
  -- 02 g, bytes 44 to 48, "at the second": beacon 10, then 11 at half a metre, on cards whose pairs 10-11 give 40 and 50
  pub pairs_part :
      Parting (C 0x28) (C 0x32) (conv 50 10 0 ∷ conv 50 11 0 ∷ []) (answer 10000 64 0 0 true ∷ []) (answer 4000 64 0 0 true) (answer 5000 64 0 0 true)

-- 02 g, version 3 beside version 2: it speaks at the first 10 or 11, where the answers are still alike (g12), and they part later: with row 6 at 60 km/h
-- throughout, 50/10, 50/0/64, 50/0/256 is 6000 against 8000
pub record VersionParts : Type 0 where
  pub speaks_at : until_speaks (card_of CF) (card_of CF_2) 6 (conv 50 10 0 ∷ conv 50 0 64 ∷ conv 50 0 256 ∷ []) ≡ 0
  pub answers_3 : ride_of CF 3 6 (conv 50 10 0 ∷ conv 50 0 64 ∷ conv 50 0 256 ∷ [])
      ≡ given (answer 6000 64 0 0 true ∷ answer 6000 64 0 0 true ∷ answer 6000 64 0 0 true ∷ [])
  pub answers_2 : ride_of CF_2 3 6 (conv 50 10 0 ∷ conv 50 0 64 ∷ conv 50 0 256 ∷ [])
      ≡ given (answer 6000 64 0 0 true ∷ answer 6000 64 0 0 true ∷ answer 8000 64 0 0 true ∷ [])
