use Rattle.shown_tones.specs.Shown.{length_text}
use Rattle.text.specs.Typing.{then_typed}
use Rattle.shown_tones.proofs.put_length.Goals as goal

pub returns : goal.returns
unfolding length_text
returns c = then_typed _ _ _ (then_typed _ _ _ (rw (c.from.ensures, c.word_at.ensures) at c.put_labelled-at.ensures) (rw c.counted.ensures at c.put_labelled-at-2.ensures)) c.put_text.ensures
