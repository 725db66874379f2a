use Rattle.std.proofs.Common.{drop, ◌≡◌}
use Rattle.text.specs.Typing.{typed}
use Rattle.receiver.specs.Receiver.{received_all}
use Rattle.printed_pieces.specs.Pieces.{piece_text}
use Rattle.printed_pieces.proofs.put_piece.Given as goal

abbrev pub invariant-loop-byte : goal.invariant-loop-byte
invariant-loop-byte l =
    (received_all l.going (drop l.byte-index l.piece) ≡ received_all l.initial.going l.piece)
    × (typed (piece_text l.columns l.going (drop l.byte-index l.piece)) (l.out, l.place)
    ≡ typed (piece_text l.columns l.initial.going l.piece) (l.initial.out, l.initial.place))
