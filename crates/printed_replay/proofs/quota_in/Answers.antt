use Rattle.std.proofs.Common.{◌<◌, ◌≤◌, ◌≡◌, ◌≢◌, ◌∙◌, sym, arith}
use borrow.Author.Tests.{eqb-true, eqb-false}
use lib.ListN.{length, get_or}
use Rattle.text.specs.Hex.{hex_value}
use Rattle.printed_replay.proofs.Words.{none_said, one_more, other, whole, no_word}
use Rattle.printed_replay.proofs.quota_in.Goals as goal

pub returns-then-is_empty : goal.returns-then-is_empty
returns-then-is_empty c =
    let none : length c.args.word.now ≡ 0 = eqb-true _ _ (sym c.is_empty.ensures ∙ c.if-is_empty.true) in
    no_word c.args.word.now (omega (arith, none))

pub loop-byte-init : goal.loop-byte-init
loop-byte-init c = none_said _

pub returns-in_err-decimal_digit : goal.returns-in_err-decimal_digit
returns-in_err-decimal_digit c = let l = c.loop-byte in
    let word = c.args.word.now in
    let here : l.byte-index < length word = c.loop-byte-test.true in
    let digit : 10 ≤ hex_value (get_or word l.byte-index 0) = c.in_err-decimal_digit.ensures in
    rw c.from_residual.ensures (other word l.byte-index l.quota l.invariant here digit)

pub loop-byte-preserved : goal.loop-byte-preserved
loop-byte-preserved c = let l = c.loop-byte in
    let word = c.args.word.now in
    let here : l.byte-index < length word = c.loop-byte-test.true in
    let same = c.in_ok-decimal_digit.ensures.0 in
    let low = c.in_ok-decimal_digit.ensures.1 in
    let digit : hex_value (get_or word l.byte-index 0) < 10 = omega (arith, same, low) in
    rw (c.next_quota-quota.ensures, same) (one_more word l.byte-index l.quota l.invariant here digit)

pub returns : goal.returns
returns c = let l = c.loop-byte in
    let word = c.args.word.now in
    let some : length word ≢ 0 = eqb-false _ _ (sym c.is_empty.ensures ∙ c.if-is_empty.false) in
    let end : length word ≤ l.byte-index = c.loop-byte-test.false in
    whole word l.byte-index l.quota l.invariant (omega arith) end
