use Rattle.std.proofs.Common.{arith}
use mathlib.Core.Path.{◌≡◌}
use mathlib.Core.List.{[]}
use lib.ListN.{drop, drop_of_length-le}
use Rattle.text.specs.Typing.{typed}
use Rattle.case_lines.specs.Lines.{pairs_of, digit_run, run_ends, run_odd, run_pair}
use Rattle.text.specs.Typing.{held}
use Rattle.case_lines.proofs.unhex.Goals as goal

pub returns-then-high-gt15-clause-held : goal.returns-then-high-gt15-clause-held
unfolding pairs_of typed
returns-then-high-gt15-clause-held c = let l = c.loop-i in
    let line = c.args.line.now in
    let none = run_ends line l.i (omega arith) in
    held _ _ (l.bytes, l.n) (rw none at l.invariant.1)

pub returns-then-high-gt15-clause-next_value : goal.returns-then-high-gt15-clause-next_value
unfolding pairs_of typed
returns-then-high-gt15-clause-next_value c = let l = c.loop-i in
    let line = c.args.line.now in
    let none = run_ends line l.i (omega arith) in
    omega (arith, rw none at l.invariant.2)

pub returns-then-low-gt15-clause-held : goal.returns-then-low-gt15-clause-held
unfolding pairs_of typed
returns-then-low-gt15-clause-held c = let l = c.loop-i in
    let line = c.args.line.now in
    let one = run_odd line l.i (omega arith) (omega arith) in
    held _ _ (l.bytes, l.n) (rw one at l.invariant.1)

pub returns-then-low-gt15-clause-next_value : goal.returns-then-low-gt15-clause-next_value
unfolding pairs_of typed
returns-then-low-gt15-clause-next_value c = let l = c.loop-i in
    let line = c.args.line.now in
    let one = run_odd line l.i (omega arith) (omega arith) in
    omega (arith, rw one at l.invariant.2)

pub loop-i-preserved : goal.loop-i-preserved
unfolding pairs_of typed
loop-i-preserved c = let l = c.loop-i in
    let line = c.args.line.now in
    let two = run_pair line l.i (omega arith) (omega arith) in (
      omega arith,
      rw (c.put-n.ensures, c.digit_at-low.ensures, c.digit_at-high.ensures) (rw two at l.invariant.1),
      omega (arith, rw two at l.invariant.2),
    )

pub returns-clause-held : goal.returns-clause-held
unfolding digit_run pairs_of typed
returns-clause-held c = let l = c.loop-i in
    let line = c.args.line.now in
    let none : drop l.i line ≡ [] = drop_of_length-le line c.loop-i-test.false in
    held _ _ (l.bytes, l.n) (rw none at l.invariant.1)

pub returns-clause-next_value : goal.returns-clause-next_value
unfolding digit_run pairs_of typed
returns-clause-next_value c = let l = c.loop-i in
    let line = c.args.line.now in
    let none : drop l.i line ≡ [] = drop_of_length-le line c.loop-i-test.false in
    omega (arith, rw none at l.invariant.2)
