use Rattle.std.proofs.Common.{rules}
use Rattle.std.proofs.lemmas.Iterator.{YieldsList-from_slice}
use Rattle.std.proofs.lemmas.Iterator.Search.{all_from_yields_List}
use Rattle.shown_tones.proofs.Texts.{is_digit, digits_all}
use Rattle.shown_tones.proofs.only_digits.Goals as goal

pub returns : goal.returns
returns c = rw (← digits_all c.args.line.now) (all_from_yields_List is_digit _ _ _ c.all.ensures.ran (YieldsList-from_slice c.args.line.now cc) (λ x b q k. search rules))
