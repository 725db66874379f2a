use borrow.Author.Tests.{le-leb, lt-leb}
use Rattle.text.specs.Typing.{typed, then_typed}
use Rattle.shown_card.specs.Shown.{more_text}
use Rattle.shown_card.proofs.put_more.Goals as goal

pub returns-then-bytes-first : goal.returns-then-bytes-first
unfolding more_text typed
returns-then-bytes-first c = rw (le-leb _ _ c.if-bytes-first.true)

pub returns : goal.returns
unfolding more_text
returns c = rw (lt-leb _ _ c.if-bytes-first.false) (then_typed _ _ _ (then_typed _ _ _ c.put_text-at.ensures c.put_many-at.ensures) c.put_text.ensures)
