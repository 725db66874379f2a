use Rattle.std.proofs.Common.{◌≡◌, drop}
use Rattle.text.specs.Typing.{typed}
use Rattle.text.proofs.put_text.Given as goal

abbrev pub invariant-loop-byte : goal.invariant-loop-byte
invariant-loop-byte l = typed (drop l.byte-index l.text) (l.out, l.place) ≡ typed l.text (l.initial.out, l.initial.place)
