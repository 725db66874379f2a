use Rattle.std.proofs.Common.{suc, ◌<◌, ◌≡◌, [], drop, length, get_or, add-one, drop-cons, drop_of_length-le}
use Rattle.shown_card.proofs.Bytes.{byte_goes, bytes_end}
use Rattle.shown_card.proofs.put_bytes.Goals as goal

pub loop-byte-preserved : goal.loop-byte-preserved
loop-byte-preserved c = let l = c.loop-byte in
    let bytes = c.args.bytes.now in
    let here : l.byte-index < length bytes = c.loop-byte-test.true in
    let goes = byte_goes (get_or bytes l.byte-index 0) (drop (suc l.byte-index) bytes) (l.out, l.place) in
    rw (add-one, c.put_byte-place.ensures, ← goes) (rw (drop-cons bytes l.byte-index 0 here) at l.invariant)

pub returns : goal.returns
returns c = let l = c.loop-byte in
    let none : drop l.byte-index c.args.bytes.now ≡ [] = drop_of_length-le c.args.bytes.now c.loop-byte-test.false in
    rw (none, bytes_end (l.out, l.place)) at l.invariant
