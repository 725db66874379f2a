use Rattle.shown_tones.specs.Shown.{bad_text}
use Rattle.text.specs.Typing.{then_typed}
use Rattle.shown_tones.proofs.put_bad.Goals as goal

pub returns : goal.returns
unfolding bad_text
returns c = then_typed _ _ _ c.put_refusal-at.ensures c.put_text.ensures
