use Rattle.shown_card.specs.Shown.{card_text}
use Rattle.text.specs.Typing.{then_typed}
use Rattle.shown_card.proofs.put_read.Goals as goal

pub returns : goal.returns
unfolding card_text
returns c = then_typed _ _ _ (rw c.byte_at.ensures at c.put_settings-at.ensures) (rw c.word_at.ensures at c.put_behind.ensures)
