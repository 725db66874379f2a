use Rattle.printed.specs.Printed.{started_text}
use Rattle.printed.proofs.Texts.{started_refused}
use Rattle.printed.proofs.put_started.Goals as goal

pub returns-in-Ok : goal.returns-in-Ok
unfolding started_text
returns-in-Ok c = rw c.in-Ok.is (rw c.fresh.ensures at c.put_lines.ensures)

pub returns-in-Err : goal.returns-in-Err
returns-in-Err c = rw (c.in-Err.is, started_refused, ← c.number.ensures) c.put_refused.ensures
