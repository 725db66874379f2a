use Rattle.text.specs.Typing.{then_typed}
use Rattle.shown_tones.proofs.put_beacon.Goals as goal

pub returns : goal.returns
returns c = then_typed _ _ _ c.put_labelled-at.ensures c.put_text.ensures
