use Rattle.text.specs.Typing.{typed}
use Rattle.printed_replay.specs.Quotas.{begun_text}
use Rattle.printed_replay.proofs.ReplayTexts.{begun_refused}
use Rattle.printed_replay.proofs.put_begun.Goals as goal

pub returns-in-Ok : goal.returns-in-Ok
unfolding begun_text typed
returns-in-Ok c = simp c.in-Ok.is

pub returns-in-Err : goal.returns-in-Err
returns-in-Err c = rw (c.in-Err.is, begun_refused, ← c.number.ensures) c.put_refused.ensures
