-- The starred card lines of "Both sides of each line", and those of card C (02 g), whole answers compared.
use mathlib.Core.Path.{refl}
use Rattle.leaf.specs.Bytes.{byte, word}
use Rattle.leaf.specs.Checks.{or_fault}
use Rattle.card.specs.Card.{row_at, pairs_at}
use Rattle.card.specs.Ranges.{settings_fault, fault_of}
use Rattle.card.specs.Reading.{functions_from, pairs_from, settings_from, answer_by, read_card}
use Rattle.card.specs.Lines.{Holds}
use Rattle.card.specs.CardA.{card_lines}
use Rattle.card.specs.CardC.{card_c_lines}

pub card_lines_lem : Holds card_lines
unfolding read_card answer_by or_fault settings_fault fault_of settings_from functions_from pairs_from row_at byte word
card_lines_lem = (refl, (refl, (refl, tt)))

pub card_c_lines_lem : Holds card_c_lines
unfolding read_card answer_by or_fault settings_fault fault_of settings_from functions_from pairs_from pairs_at row_at byte word
card_c_lines_lem = (refl, (refl, (refl, (refl, tt))))
