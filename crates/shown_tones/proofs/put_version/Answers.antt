use Rattle.shown_tones.specs.Shown.{version_text}
use Rattle.text.specs.Typing.{then_typed}
use Rattle.shown_tones.proofs.put_version.Goals as goal

pub returns : goal.returns
unfolding version_text
returns c = then_typed _ _ _ (rw (c.from.ensures, c.byte_at.ensures) at c.put_labelled-at.ensures) c.put_labelled.ensures
