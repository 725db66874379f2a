use Rattle.shown_card.specs.Shown.{many_text}
use Rattle.text.specs.Typing.{then_typed}
use Rattle.shown_card.proofs.put_many.Goals as goal

pub returns : goal.returns
unfolding many_text
returns c = then_typed _ _ _ (rw c.saturating_sub.ensures at c.put_number-at.ensures) (rw c.or_more.ensures at c.put_text.ensures)
