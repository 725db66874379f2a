use Rattle.std.proofs.Common.{rules}
use Rattle.tone.proofs.Laws.{code_ok}
use Rattle.tone.proofs.ToneRow.is_ok.Goals as goal

pub returns-then-self-4 : goal.returns-then-self-4
returns-then-self-4 c = rw (← code_ok c.args.self) (search rules)

pub returns-else-self-4 : goal.returns-else-self-4
returns-else-self-4 c = rw (← code_ok c.args.self) (search rules)
