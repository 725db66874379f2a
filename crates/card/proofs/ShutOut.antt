-- Readers, writers and checks that the exact statements shut out: one that answers 5 without its place, one that answers 5 where
-- another number is due before it, one that answers another where 5 is.
use Prim.Native.Nat.{ℕ}
use native.Mathlib.Omega.{arith}
use mathlib.Core.Path.{◌≡◌, refl, sym, ◌∙◌}
use mathlib.Core.List.{List}
use Rattle.leaf.specs.Bytes.{byte, word}
use Rattle.leaf.specs.Checks.{or_fault}
use Rattle.leaf.specs.Answers.{refused, refused_at}
use Rattle.card.specs.Card.{row_at}
use Rattle.card.specs.Ranges.{settings_fault, fault_of}
use Rattle.card.specs.Reading.{functions_from, pairs_from, settings_from, answer_by, read_card}
use Rattle.card.specs.Writing.{write_card}
use Rattle.card.specs.CardA.{card_a_bytes, card_a_at}
use Rattle.card.specs.Plain.{CheckedAs, ReadAs, WrittenAs}
use Rattle.card.specs.declared.Kind.{Kind}
use Rattle.card.specs.declared.Settings.{Settings}
use Rattle.card.proofs.Exactly.{read_exactly, write_exactly}

-- ---- 5 comes with its place

pub read_not_bare : (area : List ℕ) (h : ℕ) → ReadAs area h (refused 5) → ⊥
read_not_bare area h way = elim way [ ]

pub write_not_bare : (v : ℕ) (s : Settings) (room : ℕ) → WrittenAs v s room (refused 5) → ⊥
write_not_bare v s room way = elim way [ ]

pub check_not_bare : (kind : Kind) (v : ℕ) (s : Settings) (n : ℕ) → CheckedAs kind v s (refused n) → ⊥
check_not_bare kind v s n way = elim way [ ]

-- ---- 5 is last of the reader's order, and second of the writer's

-- card A with length field 38 and vmax 79 is refused by 4, and not by 5 at 3
pub four_before_five : read_card (card_a_bytes 0x26 0x01 79) 1 ≡ refused 4
unfolding read_card answer_by or_fault settings_fault fault_of settings_from functions_from pairs_from row_at byte word
four_before_five = refl

pub not_five_at_3 : ReadAs (card_a_bytes 0x26 0x01 79) 1 (refused_at 5 3) → ⊥
not_five_at_3 way =
    let e = sym four_before_five ∙ (read_exactly (card_a_bytes 0x26 0x01 79) 1 (refused_at 5 3)).1 way in
    let z : ◌≡◌ {A = ℕ} 0 1 = cc in
    omega arith

-- its settings with vmax 79, and a buffer of 10 bytes, are refused by 5 at 3, and not by 13
pub five_before_thirteen : write_card 1 (card_a_at 79) 10 ≡ refused_at 5 3
unfolding write_card answer_by or_fault settings_fault fault_of
five_before_thirteen = refl

pub not_thirteen : WrittenAs 1 (card_a_at 79) 10 (refused 13) → ⊥
not_thirteen way =
    let e = sym five_before_thirteen ∙ (write_exactly 1 (card_a_at 79) 10 (refused 13)).1 way in
    let z : ◌≡◌ {A = ℕ} 0 1 = cc in
    omega arith
