use Rattle.shown_tones.specs.Shown.{row_name}
use Rattle.text.specs.Typing.{then_typed}
use Rattle.shown_tones.proofs.put_row_name.Goals as goal

pub returns : goal.returns
unfolding row_name
returns c = then_typed _ _ _ c.put_labelled-at.ensures c.put_row_kind.ensures
