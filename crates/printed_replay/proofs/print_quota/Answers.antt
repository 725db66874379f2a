use Rattle.text.specs.Typing.{held}
use Rattle.printed_replay.proofs.print_quota.Goals as goal

pub returns-clause-length_value : goal.returns-clause-length_value
returns-clause-length_value c = let h = held _ _ _ c.put_quota.ensures.length_after in
    h.counted

pub returns-clause-out_after : goal.returns-clause-out_after
returns-clause-out_after c = let h = held _ _ _ c.put_quota.ensures.length_after in
    h.bytes

pub returns-clause-length_in_bounds : goal.returns-clause-length_in_bounds
returns-clause-length_in_bounds c = let h = held _ _ _ c.put_quota.ensures.length_after in
    h.inside
