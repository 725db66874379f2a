use Rattle.refused_card.specs.Refused.{fault_text}
use Rattle.text.specs.Typing.{then_typed}
use Rattle.refused_card.proofs.put_fault.Goals as goal

pub returns : goal.returns
unfolding fault_text
returns c = then_typed _ _ _ (then_typed _ _ _ (then_typed _ _ _ (then_typed _ _ _ c.put_refusal-at.ensures c.put_text-at.ensures) (rw c.from.ensures at c.put_setting_name-at.ensures)) (rw c.from-2.ensures at c.put_range-at.ensures)) c.put_text.ensures
