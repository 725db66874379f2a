use Rattle.std.proofs.Common.{◌≡◌, drop}
use Rattle.text.specs.Typing.{typed}
use Rattle.shown_card.specs.Shown.{hex_bytes}
use Rattle.shown_card.proofs.put_bytes.Given as goal

abbrev pub invariant-loop-byte : goal.invariant-loop-byte
invariant-loop-byte l = typed (hex_bytes (drop l.byte-index l.bytes)) (l.out, l.place) ≡ typed (hex_bytes l.bytes) (l.initial.out, l.initial.place)
