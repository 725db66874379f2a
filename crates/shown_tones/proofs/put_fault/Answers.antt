use Rattle.shown_tones.specs.Shown.{fault_text}
use Rattle.text.specs.Typing.{then_typed}
use Rattle.shown_tones.proofs.put_fault.Goals as goal

pub returns : goal.returns
unfolding fault_text
returns c = then_typed _ _ _ (then_typed _ _ _ (then_typed _ _ _ c.put_refusal-at.ensures c.put_text-at.ensures) c.put_place-at.ensures) c.put_text.ensures
