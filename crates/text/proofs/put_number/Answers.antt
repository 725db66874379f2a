use Rattle.std.proofs.Common.{◌∙◌, sym}
use Rattle.text.proofs.Digits.{next_digit}
use Rattle.text.proofs.put_number.Goals as goal

pub loop-power-preserved : goal.loop-power-preserved
loop-power-preserved c = let l = c.loop-power in
    rw c.put_digit-place.ensures (sym (next_digit _ l.power-index c.args.n _ c.loop-power-test.true) ∙ l.invariant)
