use Rattle.text.specs.Typing.{held}
use Rattle.printed_replay.proofs.print_heading.Goals as goal

pub returns-clause-value : goal.returns-clause-value
returns-clause-value c = let h = held _ _ _ c.put_heading.ensures in h.counted

pub returns-clause-out_after : goal.returns-clause-out_after
returns-clause-out_after c = let h = held _ _ _ c.put_heading.ensures in h.bytes

pub returns-clause-upper_bound : goal.returns-clause-upper_bound
returns-clause-upper_bound c = let h = held _ _ _ c.put_heading.ensures in h.inside
