use Rattle.std.proofs.lemmas.List.{drop_more}
use Rattle.receiver.specs.Receiver.{received_all}
use Rattle.text.specs.Typing.{typed_append}
use Rattle.printed_pieces.specs.Pieces.{piece_text}
use Rattle.printed_pieces.proofs.put_piece.Goals as goal

pub loop-byte-preserved : goal.loop-byte-preserved
unfolding received_all piece_text
loop-byte-preserved c = let l = c.loop-byte in
    let next = drop_more c.args.piece.now l.byte-index 0 c.loop-byte-test.true in (
      rw c.take-received.ensures (rw next at l.invariant.0),
      rw (c.put_shown-place.ensures, c.take-received.ensures, ← typed_append) (rw next at l.invariant.1),
    )
