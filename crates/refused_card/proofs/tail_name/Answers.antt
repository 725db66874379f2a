use Rattle.std.proofs.Common.{arith, sym}
use Rattle.refused_card.proofs.Words.{none_behind}
use Rattle.refused_card.proofs.tail_name.Goals as goal

pub returns-in_default : goal.returns-in_default
returns-in_default c =
    sym (none_behind _ (omega arith) (omega arith) (omega arith) (omega arith) (omega arith) (omega arith) (omega arith) (omega arith))
