use Rattle.why_lines.proofs.Names.{same_test}
use Rattle.why_lines.proofs.is_renamed.Goals as goal

pub returns : goal.returns
returns c = simp (c.ne.ensures, c.name_in.ensures, c.name_in-2.ensures, same_test)
