use Rattle.std.proofs.Common.{◌≡◌, drop}
use Rattle.text.specs.Typing.{typed}
use Rattle.text.specs.Decimal.{decimal}
use Rattle.text.proofs.Digits.{digits_of}
use Rattle.text.proofs.put_number.Given as goal

abbrev pub invariant-loop-power : goal.invariant-loop-power
invariant-loop-power l =
    typed (digits_of (drop l.power-index l.power-items) l.n) (l.out, l.place) ≡ typed (decimal l.n) (l.initial.out, l.initial.place)
