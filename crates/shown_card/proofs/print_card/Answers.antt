use Rattle.std.proofs.Common.{ℕ}
use mathlib.Core.Path.{◌≡◌, refl}
use mathlib.Core.List.{List}
use Rattle.leaf.specs.Answers.{refusal_of}
use Rattle.leaf.specs.declared.refusal.Refusal.{Refusal}
use Rattle.leaf.proofs.ByNumber.{by_place}
use Rattle.refused_card.specs.Refused.{numbered_text, why_text}
use Rattle.shown_card.specs.Shown.{HIGHEST, card_text}
use Rattle.shown_card.specs.Shown.{shown_card}
use Rattle.text.specs.Typing.{held}
use Rattle.shown_card.proofs.print_card.Goals as goal

-- of a refusal it is said why
why-said : (area : List ℕ) (why : Refusal) → card_text area (refusal_of why) ≡ why_text area HIGHEST why
unfolding card_text why_text
why-said area why = by_place (card_text area) (numbered_text area HIGHEST) (λ n. refl) (λ n place. refl) why

pub returns-in-Ok : goal.returns-in-Ok
unfolding shown_card
returns-in-Ok c = rw (← c.read-reading.ensures, c.in-Ok.is) (held _ _ _ c.put_read.ensures)

pub returns-in-Err : goal.returns-in-Err
unfolding shown_card
returns-in-Err c = rw (← c.read-reading.ensures, c.in-Err.is, why-said) (held _ _ _ c.put_why_of.ensures)
