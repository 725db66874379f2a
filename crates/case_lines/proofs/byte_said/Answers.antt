use Rattle.case_lines.proofs.Said.{one_read}
use Rattle.case_lines.proofs.byte_said.Goals as goal

pub returns : goal.returns
returns c = rw (c.byte_at.ensures, c.unhex.ensures.held.bytes) (one_read _)
