use Rattle.shown_card.specs.Shown.{functions_text}
use Rattle.text.specs.Typing.{then_typed}
use Rattle.shown_card.proofs.put_functions.Goals as goal

pub returns : goal.returns
unfolding functions_text
returns c = then_typed _ _ _ (then_typed _ _ _ (then_typed _ _ _ (rw c.functions_of-functions.ensures at c.put_function_line-at.ensures) (rw c.functions_of-functions.ensures at c.put_function_line-at-2.ensures)) (rw c.functions_of-functions.ensures at c.put_reminder_line-at.ensures)) (rw c.functions_of-functions.ensures at c.put_function_line.ensures)
