use Rattle.shown_card.specs.Shown.{reminder_line}
use Rattle.text.specs.Typing.{then_typed}
use Rattle.shown_card.proofs.put_reminder_line.Goals as goal

pub returns-then-on : goal.returns-then-on
unfolding reminder_line
returns-then-on c = rw c.if-on.true (then_typed _ _ _ (then_typed _ _ _ (rw c.from.ensures at c.put_labelled-at.ensures) (rw c.from-then-on.ensures at c.put_labelled-at-then-on.ensures)) c.put_text.ensures)

pub returns : goal.returns
unfolding reminder_line
returns c = rw c.if-on.false c.put_function_line.ensures
