use Rattle.tone.proofs.Laws.{zero_is}
use Rattle.tone.proofs.blank_sheet.Goals as goal

pub returns : goal.returns
returns c = simp zero_is
