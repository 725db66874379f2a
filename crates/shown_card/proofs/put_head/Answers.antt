use Rattle.shown_card.specs.Shown.{head_text}
use Rattle.text.specs.Typing.{then_typed}
use Rattle.shown_card.proofs.put_head.Goals as goal

pub returns : goal.returns
unfolding head_text
returns c = then_typed _ _ _ (then_typed _ _ _ (then_typed _ _ _ (then_typed _ _ _ (then_typed _ _ _ (rw c.from.ensures at c.put_labelled-at.ensures) (rw c.from-2.ensures at c.put_labelled-at-2.ensures)) c.put_text-at.ensures) (rw c.from-3.ensures at c.put_tenths-at.ensures)) (rw c.from-4.ensures at c.put_labelled-at-3.ensures)) c.put_text.ensures
