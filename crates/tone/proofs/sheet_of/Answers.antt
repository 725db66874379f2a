use Rattle.std.proofs.Common.{arith}
use mathlib.Core.Path.{◌≡◌, ap, refl}
use lib.ListN.{length, length-set}
use Rattle.tone.specs.declared.Sheet.{Sheet}
use Rattle.tone.specs.Tones.{rows_of}
use Rattle.tone.proofs.Laws.{rows_more, sheet_all}
use Rattle.tone.proofs.sheet_of.Goals as goal

pub loop-k-init : goal.loop-k-init
unfolding rows_of
loop-k-init c = (ap (λ (s : Sheet). length s.rows) c.blank_sheet-sheet.ensures, refl)

pub loop-k-preserved : goal.loop-k-preserved
loop-k-preserved c =
    let inv = c.loop-k.invariant in
    (simp length-set inv.0, rows_more _ c.loop-k.row-items c.loop-k.k _ (omega arith) inv.1 (rw (c.into.ensures, c.place_of.ensures) at c.row_at.ensures))

pub returns : goal.returns
returns c =
    let n : length c.loop-k.row-items ≡ 12 = c.loop-k.invariant.0 in
    let e : c.loop-k.k ≡ 12 = omega arith in
    sheet_all _ _ (omega arith) (rw e at c.loop-k.invariant.1)
