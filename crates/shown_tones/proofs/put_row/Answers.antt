use Rattle.shown_tones.specs.Shown.{row_text}
use Rattle.text.specs.Typing.{then_typed}
use Rattle.shown_tones.proofs.put_row.Goals as goal

pub returns : goal.returns
unfolding row_text
returns c = then_typed _ _ _ (rw c.from.ensures at c.put_row_name-at.ensures) c.put_reason.ensures
