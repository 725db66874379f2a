-- Card A of document 01, and the starred card lines of "Both sides of each line": what the definitions answer, and what the paper says.
use Rattle.std.specs.Prelude.{ℕ, List, [], ◌∷◌, ◌++◌}
use Rattle.leaf.specs.Answers.{Answer, given, refused}
use Rattle.card.specs.Reading.{read_card}
use Rattle.card.specs.Card.{no_pairs}
use Rattle.card.specs.Lines.{Line, line}
use Rattle.card.specs.declared.Row.{Row}
use Rattle.card.specs.declared.Settings.{Settings}

-- ---- card A

-- "Card A: `002701A0006450 A0784B14 A0504B16 A0644B16 A0504B16 50281414 9B1E1416 A03C4B16 64640001`": from byte 4 on
abbrev settings_a : List ℕ
settings_a =
    0x00 ∷ 0x64 ∷ 0x50 ∷ 0xA0 ∷ 0x78 ∷ 0x4B ∷ 0x14 ∷ 0xA0 ∷ 0x50 ∷ 0x4B ∷ 0x16 ∷ 0xA0 ∷ 0x64 ∷ 0x4B ∷ 0x16 ∷ 0xA0 ∷ 0x50 ∷ 0x4B ∷ 0x16
    ∷ 0x50 ∷ 0x28 ∷ 0x14 ∷ 0x14 ∷ 0x9B ∷ 0x1E ∷ 0x14 ∷ 0x16 ∷ 0xA0 ∷ 0x3C ∷ 0x4B ∷ 0x16 ∷ 0x64 ∷ 0x64 ∷ 0x00 ∷ 0x01 ∷ []

-- card A with another length field, version or vmax
abbrev pub card_a_bytes : ℕ → ℕ → ℕ → List ℕ
card_a_bytes length version vmax = 0x00 ∷ length ∷ version ∷ vmax ∷ settings_a

-- its version 2 form: functions, X and Y behind it
abbrev pub card_a2 : List ℕ
card_a2 = card_a_bytes 0x2C 0x02 0xA0 ++ (0x00 ∷ 0x00 ∷ 0x00 ∷ 0x00 ∷ 0x00 ∷ [])

abbrev pub row : ℕ → ℕ → ℕ → ℕ → Row
row initial last delay drop = record { initial = initial; last = last; delay = delay; drop = drop }

-- what it says with another vmax, in numbers
abbrev pub card_a_at : ℕ → Settings
card_a_at vmax =
    record {
      vmax = vmax;
      tick = 100;
      bts = 80;
      conditional_clear = row 160 120 75 20;
      announcement = row 160 80 75 22;
      preannouncement = row 160 100 75 22;
      caution = row 160 80 75 22;
      before_stop = row 80 40 20 20;
      crossing = row 155 30 20 22;
      limit = row 160 60 75 22;
      start = row 100 100 0 1;
      functions = 0;
      x = 0;
      y = 0;
      pairs = no_pairs;
    }

-- what it says
abbrev pub card_a : Settings
card_a = card_a_at 160

-- ---- the lines

-- "* Card A under highest 1 passes, version 2 refuses 3. * Length 38 refuses 4."
abbrev pub card_lines : List Line
card_lines =
    line (Answer Settings) (read_card (card_a_bytes 0x27 0x01 0xA0) 1) (given card_a)
    ∷ line (Answer Settings) (read_card card_a2 1) (refused 3)
    ∷ line (Answer Settings) (read_card (card_a_bytes 0x26 0x01 0xA0) 1) (refused 4)
    ∷ []
