use Rattle.printed_why.specs.PrintedWhy.{why_below}
use Rattle.printed_why.proofs.WhyTexts.{below_refused}
use Rattle.printed_why.proofs.put_started.Goals as goal

pub returns-in-Ok : goal.returns-in-Ok
unfolding why_below
returns-in-Ok c = rw c.in-Ok.is (rw c.fresh.ensures at c.put_lines.ensures)

pub returns-in-Err : goal.returns-in-Err
returns-in-Err c = rw (c.in-Err.is, below_refused, ← c.number.ensures) c.put_refused.ensures
