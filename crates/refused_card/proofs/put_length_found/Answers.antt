use Rattle.refused_card.specs.Refused.{length_found}
use Rattle.text.specs.Typing.{then_typed}
use Rattle.refused_card.proofs.put_length_found.Goals as goal

pub returns : goal.returns
unfolding length_found
returns c = then_typed _ _ _ (rw (c.from.ensures, c.word_at.ensures) at c.put_labelled-at.ensures) (rw (c.length_of.ensures, c.byte_at.ensures) at c.put_labelled.ensures)
