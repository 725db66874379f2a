use Rattle.case_lines.proofs.Said.{two_read}
use Rattle.case_lines.proofs.word_said.Goals as goal

pub returns : goal.returns
returns c = rw (c.word_at.ensures, c.unhex.ensures.held.bytes) (two_read _)
