use Rattle.std.proofs.Common.{arith}
use Rattle.std.proofs.lemmas.Grind.{common_steps}
use Rattle.leaf.specs.Checks.{or_fault}
use Rattle.card.specs.Reading.{answer_by}
use Rattle.card.specs.Writing.{write_card}
use Rattle.card.proofs.Checked.{failed, failed_at}
use Rattle.card.proofs.write.Goals as goal

pub returns-in_err-check-clause-result_value : goal.returns-in_err-check-clause-result_value
unfolding write_card answer_by or_fault
returns-in_err-check-clause-result_value c =
    let none = failed _ _ _ c.in_err-check.ensures in
    let place = failed_at {A = Unit} _ _ _ c.in_err-check.ensures in
    grind (arith, common_steps)
