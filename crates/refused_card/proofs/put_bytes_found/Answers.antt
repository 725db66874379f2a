use Rattle.refused_card.specs.Refused.{bytes_found}
use Rattle.text.specs.Typing.{then_typed}
use Rattle.refused_card.proofs.put_bytes_found.Goals as goal

pub returns : goal.returns
unfolding bytes_found
returns c = then_typed _ _ _ (rw c.counted.ensures at c.put_labelled-at.ensures) (rw c.bytes_due.ensures at c.put_labelled.ensures)
