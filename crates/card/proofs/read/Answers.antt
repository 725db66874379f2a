use Rattle.std.proofs.Common.{rules}
use Rattle.leaf.specs.Checks.{or_fault}
use Rattle.card.specs.Reading.{read_card, answer_by}
use Rattle.card.specs.declared.Settings.{Settings}
use Rattle.card.proofs.Checked.{failed, failed_at}
use Rattle.card.proofs.read.Goals as goal

pub returns-in_err-check : goal.returns-in_err-check
unfolding read_card answer_by or_fault
returns-in_err-check c =
    let none = failed _ _ _ c.in_err-check.ensures in
    let place = failed_at {A = Settings} _ _ _ c.in_err-check.ensures in
    search rules
