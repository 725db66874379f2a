use Rattle.text.specs.Typing.{held}
use Rattle.shown_tones.proofs.print_sheet.Goals as goal

pub returns : goal.returns
returns c = held _ _ _ c.put_sheet.ensures
