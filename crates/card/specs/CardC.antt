-- Card C, a version 3 card, and which readers read it (02 g): what the definitions answer, and what the paper says.
use Rattle.std.specs.Prelude.{ℕ, List, [], ◌∷◌, ◌++◌}
use Rattle.leaf.specs.Answers.{Answer, given, refused}
use Rattle.card.specs.Reading.{read_card}
use Rattle.card.specs.Lines.{Line, line}
use Rattle.card.specs.CardA.{card_a_bytes, row}
use Rattle.card.specs.declared.Settings.{Settings}

-- "Card C: `003103A0006450 A0784B14 A0504B16 A0644B16 A0504B16 50281414 9B1E1416 A03C4B16 64640001 0F00140032 1E2832460A`": card A's
-- settings, functions, X and Y, and the pairs behind them
abbrev pub card_c_bytes : List ℕ
card_c_bytes = card_a_bytes 0x31 0x03 0xA0 ++ (0x0F ∷ 0x00 ∷ 0x14 ∷ 0x00 ∷ 0x32 ∷ 0x1E ∷ 0x28 ∷ 0x32 ∷ 0x46 ∷ 0x0A ∷ [])

-- what it says
abbrev pub card_c : Settings
card_c =
    record {
      vmax = 160;
      tick = 100;
      bts = 80;
      conditional_clear = row 160 120 75 20;
      announcement = row 160 80 75 22;
      preannouncement = row 160 100 75 22;
      caution = row 160 80 75 22;
      before_stop = row 80 40 20 20;
      crossing = row 155 30 20 22;
      limit = row 160 60 75 22;
      start = row 100 100 0 1;
      functions = 15;
      x = 20;
      y = 50;
      pairs = record { ten_ten = 30; ten_eleven = 40; eleven_ten = 50; eleven_eleven = 70; distance = 10 };
    }

-- "Reader: highest 1..3, else 6; version 3 under highest 1 or 2 .. is 3." (g2)
abbrev pub card_c_lines : List Line
card_c_lines =
    line (Answer Settings) (read_card card_c_bytes 3) (given card_c)
    ∷ line (Answer Settings) (read_card card_c_bytes 1) (refused 3)
    ∷ line (Answer Settings) (read_card card_c_bytes 2) (refused 3)
    ∷ line (Answer Settings) (read_card card_c_bytes 4) (refused 6)
    ∷ []
