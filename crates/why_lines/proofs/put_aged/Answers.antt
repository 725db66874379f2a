use Rattle.text.specs.Typing.{then_typed}
use Rattle.why_lines.specs.Words.{aged_text}
use Rattle.why_lines.proofs.put_aged.Goals as goal

pub returns : goal.returns
unfolding aged_text
returns c = then_typed _ _ _ (then_typed _ _ _ c.put_text-at.ensures (rw c.into.ensures at c.put_tenths-at.ensures)) c.put_text.ensures
