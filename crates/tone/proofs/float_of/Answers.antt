use mathlib.Core.Path.{◌∙◌, sym}
use Rattle.std.proofs.Common.{arith}
use Rattle.tone.proofs.Laws.{nan_made, no_nan, reads_nan}
use Rattle.tone.proofs.float_of.Goals as goal

pub float_from_bits-result : goal.float_from_bits-result
float_from_bits-result c = no_nan c.args.bits (omega arith)

pub returns-then-bits-gt2139095040 : goal.returns-then-bits-gt2139095040
returns-then-bits-gt2139095040 c = nan_made ∙ sym (reads_nan c.args.bits (omega arith))
