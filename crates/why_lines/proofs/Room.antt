-- How long a line can be: of numbers 66 bytes, in words 140.
use Prim.Native.Nat.{ℕ, zero, suc, ◌/◌, ◌%◌, ◌≤◌}
use native.Mathlib.Omega.{arith}
use mathlib.Core.Path.{◌≡◌}
use mathlib.Core.Bool.{true, not}
use mathlib.Core.List.{[]}
use lib.Dec.{ltb, eqb, lit≤}
use lib.ListN.{length, length-append}
use borrow.Author.Tests.{lt-ltb}
use Rattle.signals.specs.declared.control.MainKind.{MainKind}
use Rattle.signals.specs.declared.control.MainKind.TheVariants as main
use Rattle.sides.specs.declared.crossing.CrossingKind.{CrossingKind}
use Rattle.sides.specs.declared.crossing.CrossingKind.TheVariants as crossing
use Rattle.step.specs.declared.speed.Reason.{Reason}
use Rattle.step.specs.declared.speed.Reason.TheVariants as reason
use Rattle.step.specs.Reason.{reason_number}
use Rattle.session.specs.declared.Session.{Session}
use Rattle.session.specs.declared.Why.{Why}
use Rattle.session.specs.Why.{why_now}
use Rattle.text.specs.Decimal.{upper_of, lower_of, decimal, tenths, hundredths}
use Rattle.text.specs.Words.{ascii, word_of}
use Rattle.text.proofs.Lengths.{decimal-length, pick-length}
use Rattle.why_lines.specs.Numbers.{why_line}
use Rattle.why_lines.specs.Words.{main_text, crossing_text, name_text, name_in, kmh_text, aged_text, age_text, cause_text, braked_text, brake_text, named_text, words_line, says_in, words_text}

pub why_length : (number : ℕ) (why : Why) → length (why_line number why) ≤ 66
unfolding why_line
why_length number why =
    simp length-append
    (omega (arith, decimal-length number, decimal-length why.speed, decimal-length (reason_number why.reason), decimal-length why.age, decimal-length why.cause, decimal-length why.since))

-- ---- numbers with decimals, each of which is one digit

below : (n power : ℕ) → n ≤ 9 → 10 ≤ power → ltb n power ≡ true
below n power few many = lt-ltb n power (omega arith)

digit_length : (n : ℕ) → n ≤ 9 → length (decimal n) ≤ 1
unfolding decimal upper_of lower_of
digit_length n few =
    simp (
      below n 1000000000 few (lit≤ tt),
      below n 100000000 few (lit≤ tt),
      below n 10000000 few (lit≤ tt),
      below n 1000000 few (lit≤ tt),
      below n 100000 few (lit≤ tt),
      below n 10000 few (lit≤ tt),
      below n 1000 few (lit≤ tt),
      below n 100 few (lit≤ tt),
      below n 10 few (lit≤ tt),
    )
    (lit≤ tt)

tenths-length : (n : ℕ) → length (tenths n) ≤ 12
unfolding tenths
tenths-length n = simp length-append (omega (arith, decimal-length (n / 10), digit_length (n % 10) (omega arith)))

hundredths-length : (n : ℕ) → length (hundredths n) ≤ 13
unfolding hundredths
hundredths-length n =
    simp length-append
    (omega (arith, decimal-length (n / 100), digit_length (n / 10 % 10) (omega arith), digit_length (n % 10) (omega arith)))

-- ---- words

main_length : (m : MainKind) → length (main_text m) ≤ 20
main_length main.Clear = lit≤ tt
main_length main.Start = lit≤ tt
main_length main.ConditionalClear = lit≤ tt
main_length main.Announcement = lit≤ tt
main_length main.Preannouncement = lit≤ tt
main_length main.Caution = lit≤ tt
main_length main.BeforeStop = lit≤ tt
main_length main.Stop = lit≤ tt
main_length main.Zone = lit≤ tt

crossing_length : (c : CrossingKind) → length (crossing_text c) ≤ 20
crossing_length crossing.Absent = lit≤ tt
crossing_length crossing.Protected = lit≤ tt
crossing_length crossing.Unprotected = lit≤ tt

name_length : (r : Reason) (m : MainKind) (c : CrossingKind) → length (name_text r m c) ≤ 20
name_length reason.None m c = lit≤ tt
name_length reason.Vmax m c = lit≤ tt
name_length reason.Train m c = lit≤ tt
name_length reason.Bts m c = lit≤ tt
name_length reason.Main m c = main_length m
name_length reason.Alongside m c = lit≤ tt
name_length reason.Crossing m c = crossing_length c
name_length reason.Limit m c = lit≤ tt
name_length reason.Paired m c = lit≤ tt

cause_length : (cause : ℕ) → length (cause_text cause) ≤ 37
unfolding word_of
cause_length zero = lit≤ tt
cause_length (suc zero) = lit≤ tt
cause_length (suc (suc zero)) = lit≤ tt
cause_length (suc (suc (suc zero))) = lit≤ tt
cause_length (suc (suc (suc (suc zero)))) = lit≤ tt
cause_length (suc (suc (suc (suc (suc zero))))) = lit≤ tt
cause_length (suc (suc (suc (suc (suc (suc zero)))))) = lit≤ tt
cause_length (suc (suc (suc (suc (suc (suc (suc more))))))) = lit≤ tt

-- ---- the parts of a line

kmh_length : (speed : ℕ) → length (kmh_text speed) ≤ 13
unfolding kmh_text
kmh_length speed = pick-length (eqb (speed % 100) 0) _ _ 13 (omega (arith, decimal-length (speed / 100))) (hundredths-length speed)

aged_length : (age : ℕ) → length (aged_text age) ≤ 20
unfolding aged_text
aged_length age = simp length-append (omega (arith, tenths-length age))

age_length : (r : Reason) (age : ℕ) → length (age_text r age) ≤ 20
unfolding age_text
age_length r age = pick-length (ltb (reason_number r) 4) _ _ 20 (lit≤ tt) (aged_length age)

named_length : (s : Session) (why : Why) → length (named_text s why) ≤ 60
unfolding named_text name_in
named_length s why =
    simp length-append
    (omega (arith, kmh_length why.speed, name_length (why_now s).reason s.desk.main.kind s.desk.beside.crossing.kind, age_length why.reason why.age))

braked_length : (cause since : ℕ) → length (braked_text cause since) ≤ 66
unfolding braked_text
braked_length cause since = simp length-append (omega (arith, tenths-length since, cause_length cause))

brake_length : (before cause since : ℕ) → length (brake_text before cause since) ≤ 66
unfolding brake_text
brake_length before cause since =
    pick-length (not (eqb cause 0)) (braked_text cause since) _ 66 (braked_length cause since)
    (pick-length (not (eqb before 0)) (ascii "; brake off") [] 66 (lit≤ tt) (lit≤ tt))

line_length : (number : ℕ) (before after : Session) → length (words_line number before after) ≤ 140
unfolding words_line
line_length number before after =
    simp length-append
    (omega (arith, decimal-length number, named_length after (why_now after), brake_length before.desk.brake.cause (why_now after).cause (why_now after).since))

pub words_length : (number : ℕ) (before after : Session) → length (words_text number before after) ≤ 140
unfolding words_text
words_length number before after = pick-length (says_in number before after) _ _ 140 (line_length number before after) (lit≤ tt)
