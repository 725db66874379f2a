-- Each promise determines its result: any two results that it allows are equal.
use Prim.Native.Nat.{ℕ}
use mathlib.Core.Path.{◌≡◌, sym, ◌∙◌}
use Rattle.std.specs.Prelude.{Result}
use Rattle.leaf.specs.declared.refusal.Refusal.{Refusal}
use Rattle.leaf.proofs.OnPaper.{result_one}
use Rattle.card.specs.declared.Card.{Card}
use Rattle.session.specs.declared.Session.{Session}
use Rattle.session.specs.Session.{Outcome, judged_of, judge_card, opened_of, open_session, outcome_of}

-- ---- two results that are the same on paper are the same

pub opened_one : (a b : Result Session Refusal) → opened_of a ≡ opened_of b → a ≡ b
opened_one a b h = result_one a b h

pub outcome_one : (a b : Outcome) → outcome_of a ≡ outcome_of b → a ≡ b
outcome_one a b h = result_one a b h

pub judged_one : (a b : Result Unit Refusal) → judged_of a ≡ judged_of b → a ≡ b
judged_one a b h = result_one a b h

-- ---- the promises of judging a card and of opening; that of a sample is an equation of its result

pub judge_determined : (card : Card) (a b : Result Unit Refusal) → judged_of a ≡ judge_card card → judged_of b ≡ judge_card card → a ≡ b
judge_determined card a b pa pb = judged_one a b (pa ∙ sym pb)

pub open_determined : (card : Card) (train : ℕ) (a b : Result Session Refusal) → opened_of a ≡ open_session card train
    → opened_of b ≡ open_session card train → a ≡ b
open_determined card train a b pa pb = opened_one a b (pa ∙ sym pb)
