-- Each promise determines its result: any two results that it allows are equal, and so is what the buffer holds.
use Prim.Native.Nat.{ℕ}
use mathlib.Core.Path.{◌≡◌, sym, ◌∙◌}
use mathlib.Core.List.{List}
use lib.ListN.{length}
use Rattle.std.specs.Prelude.{Result}
use Rattle.leaf.specs.Answers.{Answer}
use Rattle.leaf.specs.declared.refusal.Refusal.{Refusal}
use Rattle.leaf.proofs.OnPaper.{result_one}
use Rattle.card.specs.Ranges.{checked_of}
use Rattle.card.specs.Reading.{paper_of, found_of, card_in}
use Rattle.card.specs.Writing.{written_of, write_card, leaves}
use Rattle.card.specs.declared.Settings.{Settings}
use Rattle.card.specs.declared.Card.{Card}

-- ---- two results that are the same on paper are the same

pub paper_one : (a b : Result Settings Refusal) → paper_of a ≡ paper_of b → a ≡ b
paper_one = result_one

pub written_one : (a b : Result Unit Refusal) → written_of a ≡ written_of b → a ≡ b
written_one = result_one

pub checked_one : (a b : Result Unit Refusal) → checked_of a ≡ checked_of b → a ≡ b
checked_one = result_one

-- ---- the promises, whatever answer they name

-- the reader
pub read_determined : (x : Answer Settings) (a b : Result Settings Refusal) → paper_of a ≡ x → paper_of b ≡ x → a ≡ b
read_determined x a b pa pb = paper_one a b (pa ∙ sym pb)

-- the check, on this card and on a card of any kind
pub check_determined : (x : Answer Unit) (a b : Result Unit Refusal) → checked_of a ≡ x → checked_of b ≡ x → a ≡ b
check_determined x a b pa pb = checked_one a b (pa ∙ sym pb)

-- the writer's answer
pub answer_determined : (x : Answer Unit) (a b : Result Unit Refusal) → written_of a ≡ x → written_of b ≡ x → a ≡ b
answer_determined x a b pa pb = written_one a b (pa ∙ sym pb)

-- the writer's answer, and every byte of the buffer after it
pub write_determined : (v : ℕ) (s : Settings) (buffer after after' : List ℕ) (a b : Result Unit Refusal) → written_of a ≡ write_card v s (length buffer)
    → after ≡ leaves (written_of a) v s buffer → written_of b ≡ write_card v s (length buffer) → after' ≡ leaves (written_of b) v s buffer
    → (a ≡ b) × (after ≡ after')
write_determined v s buffer after after' a b pa la pb lb = (answer_determined _ a b pa pb, rw (la, lb, pa, pb))

-- the card in an area
pub found_one : (a b : Result Card Refusal) → found_of a ≡ found_of b → a ≡ b
found_one = result_one

pub card_in_determined : (area : List ℕ) (highest : ℕ) (a b : Result Card Refusal) → found_of a ≡ card_in area highest → found_of b ≡ card_in area highest → a ≡ b
card_in_determined area highest a b pa pb = found_one a b (pa ∙ sym pb)
