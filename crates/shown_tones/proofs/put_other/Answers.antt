use Rattle.shown_tones.specs.Shown.{other_text}
use Rattle.text.specs.Typing.{then_typed}
use Rattle.shown_tones.proofs.put_other.Goals as goal

pub returns : goal.returns
unfolding other_text
returns c = then_typed _ _ _ (then_typed _ _ _ c.put_text-at.ensures c.put_text-at-2.ensures) c.put_text.ensures
