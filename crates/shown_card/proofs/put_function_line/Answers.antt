use Rattle.shown_card.specs.Shown.{function_line}
use Rattle.text.specs.Typing.{then_typed}
use Rattle.shown_card.proofs.put_function_line.Goals as goal

pub returns : goal.returns
unfolding function_line
returns c = then_typed _ _ _ (then_typed _ _ _ c.put_labelled-at.ensures (rw c.function_name.ensures at c.put_text-at.ensures)) (rw c.state.ensures at c.put_text.ensures)
