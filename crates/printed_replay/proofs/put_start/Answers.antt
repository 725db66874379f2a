use Rattle.printed_replay.specs.Quotas.{start_text}
use Rattle.text.specs.Typing.{then_typed}
use Rattle.printed_replay.proofs.put_start.Goals as goal

pub returns-clause-length_after : goal.returns-clause-length_after
unfolding start_text
returns-clause-length_after c = then_typed _ _ _ c.put_heading-at.ensures
    (rw c.start_on-opened.ensures at c.put_begun-length.ensures)
