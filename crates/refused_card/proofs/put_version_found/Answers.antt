use Rattle.refused_card.specs.Refused.{version_found}
use Rattle.text.specs.Typing.{then_typed}
use Rattle.refused_card.proofs.put_version_found.Goals as goal

pub returns : goal.returns
unfolding version_found
returns c = then_typed _ _ _ (rw (c.from.ensures, c.byte_at.ensures) at c.put_labelled-at.ensures) (rw c.from-2.ensures at c.put_labelled.ensures)
