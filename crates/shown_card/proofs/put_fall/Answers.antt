use Rattle.shown_card.specs.Shown.{fall_text}
use Rattle.text.specs.Typing.{then_typed}
use Rattle.shown_card.proofs.put_fall.Goals as goal

pub returns : goal.returns
unfolding fall_text
returns c = then_typed _ _ _ (then_typed _ _ _ (then_typed _ _ _ (then_typed _ _ _ c.put_text-at.ensures (rw c.from.ensures at c.put_tenths-at.ensures)) c.put_text-at-2.ensures) (rw c.from-2.ensures at c.put_hundredths-at.ensures)) c.put_text.ensures
