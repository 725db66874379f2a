use borrow.Author.Tests.{le-leb, lt-leb}
use Rattle.text.specs.Typing.{typed, then_typed}
use Rattle.shown_card.specs.Shown.{behind_text}
use Rattle.shown_card.proofs.put_behind.Goals as goal

pub returns-then-bytes-record : goal.returns-then-bytes-record
unfolding behind_text typed
returns-then-bytes-record c = rw (← c.counted-bytes.ensures, le-leb _ _ c.if-bytes-record.true)

pub returns : goal.returns
unfolding behind_text
returns c = rw (← c.counted-bytes.ensures, lt-leb _ _ c.if-bytes-record.false) (then_typed _ _ _ (then_typed _ _ _ (then_typed _ _ _ (then_typed _ _ _ c.put_text-at.ensures c.put_many-at.ensures) c.put_text-at-2.ensures) c.put_lines-at.ensures) c.put_more.ensures)
