use Rattle.shown_card.specs.Shown.{row_text}
use Rattle.text.specs.Typing.{then_typed}
use Rattle.shown_card.proofs.put_row.Goals as goal

pub returns : goal.returns
unfolding row_text
returns c = then_typed _ _ _ (then_typed _ _ _ (then_typed _ _ _ c.put_row_name-at.ensures (rw c.from.ensures at c.put_labelled-at.ensures)) (rw c.from-2.ensures at c.put_labelled-at-2.ensures)) c.put_fall.ensures
