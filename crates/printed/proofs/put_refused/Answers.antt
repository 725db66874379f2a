use Rattle.text.specs.Typing.{then_typed}
use Rattle.printed.specs.Printed.{refused_line}
use Rattle.printed.proofs.put_refused.Goals as goal

pub returns : goal.returns
unfolding refused_line
returns c = then_typed _ _ _ c.put_text-at.ensures (rw c.into.ensures at c.put_ended.ensures)
