-- Document 01, "The card" and refusals 1 to 6, and 02 g: what an area of bytes reads as.
use Rattle.std.specs.Prelude.{ℕ, ◌+◌, List, [], ◌∷◌, Bool, not, leb, eqb, length, Result}
use Rattle.leaf.specs.Choosing.{pick}
use Rattle.leaf.specs.Bytes.{byte, word}
use Rattle.leaf.specs.Checks.{Check, first_bad}
use Rattle.leaf.specs.Answers.{Answer, given, refused, refused_at, on_paper}
use Rattle.leaf.specs.declared.refusal.Refusal.{Refusal}
use Rattle.card.specs.Card.{base_kind, length_of, known, row_at, no_pairs, pairs_at, reminds}
use Rattle.card.specs.Ranges.{fault_of}
use Rattle.card.specs.declared.Kind.{Kind}
use Rattle.card.specs.declared.Pairs.{Pairs}
use Rattle.card.specs.declared.Settings.{Settings}
use Rattle.card.specs.declared.Card.{Card}

-- ---- the settings of an area

-- "Version 2 adds 39 functions"; "A version 1 card has functions 0"
unfoldable pub functions_from : Kind → ℕ → List ℕ → ℕ
functions_from kind version area = pick (eqb version 1) 0 (byte area (kind.first + 36))

-- "With bit 2 off, bytes 40–43 are not looked at and X, Y read as 0"
abbrev pub kept : Bool → ℕ → ℕ
kept on x = pick on x 0

-- 02 g: "Card version 3 is version 2 with bytes 44–47, the speeds .., and byte 48, the pair distance"; "Those cards read bytes 44 to 48 as
-- 0": "Nothing behind a version 1 or 2 record is looked at" (g3)
unfoldable pub pairs_from : Kind → ℕ → List ℕ → Pairs
pairs_from kind version area = pick (eqb version 3) (pairs_at area (kind.first + 41)) no_pairs

-- the settings of an area that holds a record of a kind and version; "Big-endian": a word is high byte first
unfoldable pub settings_from : Kind → ℕ → List ℕ → Settings
settings_from kind version area =
    record {
      vmax = byte area (kind.first + 0);
      tick = word area (kind.first + 1);
      bts = byte area (kind.first + 3);
      conditional_clear = row_at area (kind.first + 4);
      announcement = row_at area (kind.first + 8);
      preannouncement = row_at area (kind.first + 12);
      caution = row_at area (kind.first + 16);
      before_stop = row_at area (kind.first + 20);
      crossing = row_at area (kind.first + 24);
      limit = row_at area (kind.first + 28);
      start = row_at area (kind.first + 32);
      functions = functions_from kind version area;
      x = kept (reminds (functions_from kind version area)) (word area (kind.first + 37));
      y = kept (reminds (functions_from kind version area)) (word area (kind.first + 39));
      pairs = pairs_from kind version area;
    }

-- this card's settings: the version is byte 2
abbrev pub settings_of : List ℕ → Settings
settings_of area = settings_from base_kind (byte area 2) area

-- ---- the refusals

-- "Order: card reading 6, 1 (under 3), 2, 3, 4, 1 (record), 5"
-- 6 reader's highest version not 1 or 2, or (02 g) 3
-- 1 card area under 3 bytes, or shorter than its record
-- 2 card version 0
-- 3 card version above the reader's highest
-- 4 length field is not its version's length
-- 5 setting out of range
abbrev pub read_checks : List ℕ → ℕ → Bool → List Check
read_checks area highest fine =
    (6, known highest)
    ∷ (1, leb 3 (length area))
    ∷ (2, not (eqb (byte area 2) 0))
    ∷ (3, leb (byte area 2) highest)
    ∷ (4, eqb (word area 0) (length_of (byte area 2)))
    ∷ (1, leb (length_of (byte area 2)) (length area))
    ∷ (5, fine)
    ∷ []

-- "A refusal returns its number (and place for 5, 12)": the number is 0 where no refusal is due
unfoldable pub answer_by : {A : Type 0} → ℕ → ℕ → A → Answer A
answer_by number place a = pick (eqb number 0) (given a) (pick (eqb number 5) (refused_at 5 place) (refused number))

-- ---- the answer

-- the checks of an area and a reader, with "5 | setting out of range" asked of the area's own settings
abbrev pub card_checks : List ℕ → ℕ → List Check
card_checks area highest = read_checks area highest (eqb (fault_of (byte area 2) (settings_of area)) 0)

-- what a reader that knows the versions up to `highest` answers to an area
unfoldable pub read_card : List ℕ → ℕ → Answer Settings
read_card area highest = answer_by (first_bad 0 (card_checks area highest)) (fault_of (byte area 2) (settings_of area)) (settings_of area)

-- what the reader's answer is on paper
abbrev pub paper_of : Result Settings Refusal → Answer Settings
paper_of result = on_paper result

-- ---- the card: 02 g: "the opening now takes the version"

-- what a reader answers, with a version beside it
abbrev pub beside_version : ℕ → Answer Settings → Answer Card
beside_version version (given s) = given (record { version = version; settings = s })
beside_version version (refused n) = refused n
beside_version version (refused_at n place) = refused_at n place

-- the card in an area: its version is byte 2
unfoldable pub card_in : List ℕ → ℕ → Answer Card
card_in area highest = beside_version (byte area 2) (read_card area highest)

-- what it is on paper
abbrev pub found_of : Result Card Refusal → Answer Card
found_of result = on_paper result
