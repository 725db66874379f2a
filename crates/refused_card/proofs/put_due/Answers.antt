use Rattle.refused_card.specs.Refused.{due_text}
use Rattle.text.specs.Decimal.{decimal, lower_of, upper_of}
use Rattle.text.specs.Typing.{then_typed}
use Rattle.refused_card.proofs.put_due.Goals as goal

pub returns-then-is_speed : goal.returns-then-is_speed
unfolding due_text decimal upper_of lower_of
returns-then-is_speed c = rw (← c.is_speed.ensures, c.if-is_speed.true) c.put_text.ensures

pub returns : goal.returns
unfolding due_text
returns c = rw (← c.is_speed.ensures, c.if-is_speed.false) (then_typed _ _ _ (rw c.low_end.ensures at c.put_labelled-at.ensures) (rw c.high_end.ensures at c.put_labelled.ensures))
