use Rattle.printed.specs.Printed.{card_text}
use Rattle.printed.proofs.Texts.{card_refused}
use Rattle.printed.proofs.put_read.Goals as goal

pub returns-in-Ok : goal.returns-in-Ok
unfolding card_text
returns-in-Ok c = rw (c.in-Ok.is, ← c.start.ensures) c.put_started.ensures

pub returns-in-Err : goal.returns-in-Err
returns-in-Err c = rw (c.in-Err.is, card_refused, ← c.number.ensures) c.put_refused.ensures
