-- Demand 3 of a line as it is printed.
use Prim.Native.Nat.{ℕ}
use mathlib.Core.Path.{◌≡◌}
use mathlib.Core.List.{List, [], ◌++◌, flatten}
use Rattle.leaf.specs.Answers.{given}
use Rattle.card.specs.declared.Card.{Card}
use Rattle.card.specs.Card.{Same}
use Rattle.card.specs.Reading.{card_in}
use Rattle.card.proofs.Silence.{card_silence}
use Rattle.laws.proofs.Ranges.{card_only}
use Rattle.receiver.specs.Receiver.{fresh_receiver}
use Rattle.receiver.proofs.Receivers.{received_cut}
use Rattle.printed.specs.declared.Columns.{Columns}
use Rattle.printed.specs.Printed.{highest, heading}
use Rattle.printed_pieces.specs.Pieces.{start_on, begun_text, start_text, piece_text, end_text, line_text, line_printed}
use Rattle.printed_pieces.proofs.PieceTexts.{pieces_text_lem}
use Rattle.demands.specs.Demand3.{SameSpeaking, SameWithout}
use Rattle.demands.specs.Pieces as paper
use Rattle.demands.specs.Pieces.{after_bytes, NoneSpeaks}
use Rattle.demands.proofs.Cards.{its_range}
use Rattle.demands.proofs.Demand3.{settings_alike}
use Rattle.demands.proofs.Once.{starts}
use Rattle.demands.proofs.SilentLine.{text_alike, end_text_alike, versions_quiet}

-- a card that is read starts a receiver
card_starts : (area : List ℕ) (card : Card) → card_in area highest ≡ given card → start_on area ≡ given (fresh_receiver card)
unfolding start_on
card_starts area card read =
    let inside = card_only card (its_range area highest card read) in
    rw read ((starts card (given (fresh_receiver card))).1 (paper.StartedAs.ready inside.version inside.settings))

-- what is printed then: the heading, and the text of the bytes put together and of the end
pub line_printed_lem : (columns : Columns) (area : List ℕ) (card : Card) (pieces : List (List ℕ)) → card_in area highest ≡ given card
    → line_printed columns area pieces ≡ (heading columns ++ []) ++ (piece_text columns (fresh_receiver card) (flatten pieces) ++ end_text columns (after_bytes card (flatten pieces)))
unfolding line_printed start_text begun_text line_text
line_printed_lem columns area card pieces read =
    rw (card_starts area card read, pieces_text_lem columns (fresh_receiver card) pieces, received_cut (fresh_receiver card) pieces)

pub silent_print : (columns : Columns) (a b : List ℕ) → SameSpeaking a b → (pieces : List (List ℕ)) → line_printed columns a pieces ≡ line_printed columns b pieces
unfolding line_printed start_text start_on
silent_print columns a b m pieces = rw (card_silence a b highest m.whole_a m.whole_b m.same)

module _ (columns : Columns) (a b : List ℕ) (s t : Card) (read_a : card_in a highest ≡ given s) (read_b : card_in b highest ≡ given t) where
  pub functions_print : Same a b 3 39 → (pieces : List (List ℕ)) → NoneSpeaks t (fresh_receiver s) (flatten pieces) → line_printed columns a pieces ≡ line_printed columns b pieces
  functions_print same pieces none =
      let one = settings_alike a b highest highest s t read_a read_b same in
      let in_a = its_range a highest s read_a in
      let in_b = its_range b highest t read_b in
      rw (line_printed_lem columns a s pieces read_a, line_printed_lem columns b t pieces read_b, text_alike s t one in_a in_b (flatten pieces) none columns, end_text_alike s t one in_a in_b (flatten pieces) none columns)

  pub versions_print : SameWithout a b → (pieces : List (List ℕ)) → line_printed columns a pieces ≡ line_printed columns b pieces
  versions_print m pieces = functions_print m.common pieces (versions_quiet a b highest highest s t read_a read_b m (flatten pieces))
