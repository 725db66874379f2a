-- The promise of `Receiver::start` determines its result: any two results that it allows are equal. (Those of `take` and `end` are
-- equations of their result.)
use mathlib.Core.Path.{◌≡◌, sym, ◌∙◌}
use Rattle.std.specs.Prelude.{Result}
use Rattle.leaf.specs.declared.refusal.Refusal.{Refusal}
use Rattle.leaf.proofs.OnPaper.{result_one}
use Rattle.card.specs.declared.Card.{Card}
use Rattle.receiver.specs.Receiver.{started_of, start_receiver}
use Rattle.receiver.specs.declared.Receiver.{Receiver}

pub start_determined : (card : Card) (a b : Result Receiver Refusal) → started_of a ≡ start_receiver card → started_of b ≡ start_receiver card → a ≡ b
start_determined card a b pa pb = result_one a b (pa ∙ sym pb)
