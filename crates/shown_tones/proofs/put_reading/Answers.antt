use Rattle.shown_tones.specs.Shown.{reading_text}
use Rattle.text.specs.Typing.{then_typed}
use Rattle.shown_tones.proofs.put_reading.Goals as goal

pub returns-in-Beacon : goal.returns-in-Beacon
unfolding reading_text
returns-in-Beacon c = rw c.in-Beacon.is (then_typed _ _ _ (then_typed _ _ _ (rw c.from.ensures at c.put_labelled-at.ensures) c.put_text-at.ensures) c.put_float.ensures)

pub returns-in-Permanent : goal.returns-in-Permanent
unfolding reading_text
returns-in-Permanent c = rw c.in-Permanent.is (then_typed _ _ _ c.put_text-at-in-Permanent.ensures c.put_float-in-Permanent.ensures)
