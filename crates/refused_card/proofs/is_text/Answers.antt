use Rattle.std.proofs.Common.{rules}
use Rattle.std.proofs.lemmas.Iterator.{YieldsList-from_slice}
use Rattle.std.proofs.lemmas.Iterator.Search.{all_from_yields_List}
use Rattle.refused_card.specs.Refused.{is_character}
use Rattle.refused_card.proofs.Words.{text_all}
use Rattle.refused_card.proofs.is_text.Goals as goal

pub returns : goal.returns
returns c = rw (← text_all c.args.area.now) (all_from_yields_List is_character _ _ _ c.all.ensures.ran (YieldsList-from_slice c.args.area.now cc) (λ x b q k. search rules))
