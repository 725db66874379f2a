use Rattle.refused_card.specs.Refused.{refused_text}
use Rattle.text.specs.Typing.{then_typed}
use Rattle.refused_card.proofs.put_refused.Goals as goal

pub returns : goal.returns
unfolding refused_text
returns c = then_typed _ _ _ (then_typed _ _ _ (then_typed _ _ _ (then_typed _ _ _ (then_typed _ _ _ c.put_refusal-at.ensures c.put_text-at.ensures) (rw c.reason.ensures at c.put_text-at-2.ensures)) c.put_found-at.ensures) c.put_text-at-3.ensures) (rw c.hint.ensures at c.put_text.ensures)
