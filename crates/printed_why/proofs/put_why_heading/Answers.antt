use Rattle.text.specs.Typing.{typed}
use Rattle.printed_why.proofs.put_why_heading.Goals as goal

pub returns-in-Words : goal.returns-in-Words
unfolding typed
returns-in-Words c = rw c.in-Words.is
