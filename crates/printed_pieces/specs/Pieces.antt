-- Document 02 a): the lines of a ride that comes in pieces. "A call gives the answers of all samples its piece completes, then the refusal
-- if the fault is in it" (a6), each as the printed ride's line.
use Rattle.std.specs.Prelude.{ℕ, List, [], ◌∷◌, ◌++◌}
use Rattle.leaf.specs.Answers.{Answer, given, refused, refused_at}
use Rattle.card.specs.declared.Card.{Card}
use Rattle.card.specs.Reading.{card_in}
use Rattle.receiver.specs.Receiver.{start_receiver, take_of, end_of, number_now, received_all, received_pieces}
use Rattle.receiver.specs.declared.Receiver.{Receiver}
use Rattle.printed.specs.Printed.{heading, highest, refused_line, shown_text}
use Rattle.printed.specs.declared.Columns.{Columns}

-- ---- the start: "The card is judged when the receiver starts, before any byte" (a11)

-- a receiver on a card that was read, or the reader's refusal
abbrev pub start_after : Answer Card → Answer Receiver
start_after (given card) = start_receiver card
start_after (refused n) = refused n
start_after (refused_at n place) = refused_at n place

unfoldable pub start_on : List ℕ → Answer Receiver
start_on card = start_after (card_in card highest)

-- the line of what refuses the start, or nothing
unfoldable pub begun_text : Answer Receiver → List ℕ
begun_text (given r) = []
begun_text (refused n) = refused_line n
begun_text (refused_at n place) = refused_line n

-- what is printed before any byte
unfoldable pub start_text : Columns → List ℕ → List ℕ
start_text columns card = heading columns ++ begun_text (start_on card)

-- ---- pieces, and the end

-- the lines of what the bytes of a piece show, the samples numbered from the recording's first
unfoldable pub piece_text : Columns → Receiver → List ℕ → List ℕ
piece_text columns r [] = []
piece_text columns r (b ∷ piece) = shown_text columns (number_now r) (take_of r b).shown ++ piece_text columns (take_of r b).receiver piece

-- the line of what an announced end shows: its refusal, or nothing
unfoldable pub end_text : Columns → Receiver → List ℕ
end_text columns r = shown_text columns (number_now r) (end_of r).shown

-- the texts of pieces, one behind the other
unfoldable pub pieces_text : Columns → Receiver → List (List ℕ) → List ℕ
pieces_text columns r [] = []
pieces_text columns r (piece ∷ rest) = piece_text columns r piece ++ pieces_text columns (received_all r piece) rest

-- ---- all of a line put together: what is printed of a recording that comes in these pieces, its end announced behind the last

unfoldable pub line_text : Columns → Answer Receiver → List (List ℕ) → List ℕ
line_text columns (given r) pieces = pieces_text columns r pieces ++ end_text columns (received_pieces r pieces)
line_text columns (refused n) pieces = []
line_text columns (refused_at n place) pieces = []

unfoldable pub line_printed : Columns → List ℕ → List (List ℕ) → List ℕ
line_printed columns card pieces = start_text columns card ++ line_text columns (start_on card) pieces
