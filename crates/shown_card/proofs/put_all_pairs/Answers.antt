use Rattle.shown_card.specs.Shown.{all_pairs_text}
use Rattle.text.specs.Typing.{then_typed}
use Rattle.shown_card.proofs.put_all_pairs.Goals as goal

pub returns : goal.returns
unfolding all_pairs_text
returns c = then_typed _ _ _ (then_typed _ _ _ (then_typed _ _ _ (then_typed _ _ _ (then_typed _ _ _ c.put_pair-at.ensures c.put_pair-at-2.ensures) c.put_pair-at-3.ensures) c.put_pair-at-4.ensures) (rw c.from.ensures at c.put_labelled-at.ensures)) c.put_text.ensures
