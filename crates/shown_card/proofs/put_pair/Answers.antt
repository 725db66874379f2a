use Rattle.shown_card.specs.Shown.{pair_text}
use Rattle.text.specs.Typing.{then_typed}
use Rattle.shown_card.proofs.put_pair.Goals as goal

pub returns : goal.returns
unfolding pair_text
returns c = then_typed _ _ _ (then_typed _ _ _ (rw c.pair_name.ensures at c.put_text-at.ensures) (rw c.from.ensures at c.put_number-at.ensures)) c.put_text.ensures
