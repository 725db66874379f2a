use mathlib.Core.List.{append-nil}
use Rattle.shown_tones.specs.Shown.{reason_text}
use Rattle.text.specs.Typing.{then_typed}
use Rattle.shown_tones.proofs.put_reason.Goals as goal

pub returns-then-lacks_nothing : goal.returns-then-lacks_nothing
unfolding reason_text
returns-then-lacks_nothing c = rw (← c.row_in-row.ensures, ← c.lacks_nothing.ensures, c.if-lacks_nothing.true)
    (then_typed _ _ _ (rw c.reason.ensures at c.put_text-at.ensures) (rw c.first_shared.ensures at c.put_row_name.ensures))

pub returns : goal.returns
unfolding reason_text
returns c = rw (← c.row_in-row.ensures, ← c.lacks_nothing.ensures, c.if-lacks_nothing.false, append-nil) (rw c.reason.ensures at c.put_text-at.ensures)
