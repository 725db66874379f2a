use Rattle.std.proofs.Common.{◌≡◌, drop}
use Rattle.shown_tones.specs.Shown.{bits_from}
use Rattle.shown_tones.proofs.bits_in.Given as goal

abbrev pub invariant-loop-b : goal.invariant-loop-b
invariant-loop-b l = bits_from l.bits (drop l.b-index l.line) ≡ bits_from 0 l.line
