use Rattle.refused_card.specs.Refused.{range_text}
use Rattle.text.specs.Typing.{then_typed}
use Rattle.refused_card.proofs.put_range.Goals as goal

pub returns : goal.returns
unfolding range_text
returns c = then_typed _ _ _ (then_typed _ _ _ (rw c.value_at.ensures at c.put_labelled-at.ensures) c.put_due-at.ensures) (rw c.missed.ensures at c.put_text.ensures)
