-- A line's words, bytes in hexadecimal digits, and how an answer is written.
use Rattle.std.specs.Prelude.{ℕ, zero, suc, ◌+◌, ◌*◌, min, ◌≤◌, ◌<◌, ◌≡◌, List, [], ◌∷◌, ◌++◌, eqb, ltb, length, drop, get_or}
use Rattle.std.proofs.Common.{arith, add-one, ◌∙◌, drop_of_length-le, drop-cons, lt-ltb, le-ltb, eq-eqb, ne_eqb}
use Rattle.std.proofs.Math.Seq.{drop-nil}
use Rattle.leaf.specs.Bytes.{byte}
use Rattle.leaf.specs.Choosing.{pick}
use Rattle.text.specs.Decimal.{blank, ended}
use Rattle.text.specs.Hex.{hex_value}
use Rattle.step.specs.declared.Answer.{Answer}

-- how many bytes a text has up to its first such mark, the mark among them; all where it has none
unfoldable pub up_to : ℕ → List ℕ → ℕ
up_to mark [] = 0
up_to mark (b ∷ rest) = pick (eqb b mark) 1 (suc (up_to mark rest))

-- the place behind the next such mark from a place on; the text's end where there is none
unfoldable pub behind_mark : List ℕ → ℕ → ℕ → ℕ
behind_mark text from mark = min from (length text) + up_to mark (drop from text)

-- the values of the digits at a text's start, up to what is no digit
unfoldable pub digit_run : List ℕ → List ℕ
digit_run [] = []
digit_run (b ∷ rest) = pick (ltb (hex_value b) 16) (hex_value b ∷ digit_run rest) []

-- two digits a byte, the high one first; an odd last one says nothing
unfoldable pub pairs_of : List ℕ → List ℕ
pairs_of [] = []
pairs_of (high ∷ []) = []
pairs_of (high ∷ low ∷ rest) = (high * 16 + low) ∷ pairs_of rest

-- an answer's fields as numbers, 1 for a limit that stands; a blank behind each but the last
unfoldable pub answer_text : Answer → ℕ → List ℕ
answer_text a end =
    ended a.speed blank ++ ended a.lamps blank ++ ended a.cause blank ++ ended a.icon blank ++ ended (pick a.limit 1 0) end

-- ---- laws

-- a mark ends the search
pub behind_here : (text : List ℕ) (at mark : ℕ) → at < length text → get_or text at 0 ≡ mark → behind_mark text at mark ≡ at + 1
unfolding behind_mark up_to
behind_here text at mark h e =
    let m : min at (length text) ≡ at = omega arith in
    rw (m, drop-cons text at 0 h, eq-eqb _ _ e)

-- any other byte is passed
pub behind_goes : (text : List ℕ) (at mark : ℕ) → at < length text → (get_or text at 0 ≡ mark → ⊥)
    → behind_mark text at mark ≡ behind_mark text (at + 1) mark
unfolding behind_mark up_to
behind_goes text at mark h n =
    let m : min at (length text) ≡ at = omega arith in
    let k : min (suc at) (length text) ≡ suc at = omega arith in
    rw (add-one, m, k, drop-cons text at 0 h, ne_eqb _ _ n) (omega arith)

-- a place behind the text's end is its end
pub behind_end : (text : List ℕ) (at mark : ℕ) → length text ≤ at → behind_mark text at mark ≡ length text
unfolding behind_mark up_to
behind_end text at mark h =
    let m : min at (length text) ≡ length text = omega arith in
    rw (m, drop_of_length-le text h) (omega arith)

-- a digit stands within the line
pub digit_inside : (line : List ℕ) (at : ℕ) → hex_value (byte line at) < 16 → at < length line
unfolding hex_value byte
digit_inside [] at h = omega arith
digit_inside (b ∷ rest) zero h = omega arith
digit_inside (b ∷ rest) (suc at) h = let k : at < length rest = digit_inside rest at h in omega arith

-- a digit, and those behind it
pub run_goes : (line : List ℕ) (at : ℕ) → hex_value (byte line at) < 16
    → digit_run (drop at line) ≡ hex_value (byte line at) ∷ digit_run (drop (at + 1) line)
unfolding digit_run byte
run_goes line at h =
    let here : at < length line = digit_inside line at h in
    rw (add-one, drop-cons line at 0 here, lt-ltb _ _ h)

-- what is no digit ends them, and so does the line's end
pub run_ends : (line : List ℕ) (at : ℕ) → 16 ≤ hex_value (byte line at) → digit_run (drop at line) ≡ []
unfolding digit_run byte
run_ends [] at h = rw drop-nil
run_ends (b ∷ rest) zero h = rw (le-ltb _ _ h)
run_ends (b ∷ rest) (suc at) h = run_ends rest at h

-- an odd last digit
pub run_odd : (line : List ℕ) (at : ℕ) → hex_value (byte line at) < 16 → 16 ≤ hex_value (byte line (at + 1))
    → digit_run (drop at line) ≡ hex_value (byte line at) ∷ []
run_odd line at h n = run_goes line at h ∙ rw (run_ends line (at + 1) n)

-- two digits, and those behind them
pub run_pair : (line : List ℕ) (at : ℕ) → hex_value (byte line at) < 16 → hex_value (byte line (at + 1)) < 16
    → digit_run (drop at line) ≡ hex_value (byte line at) ∷ hex_value (byte line (at + 1)) ∷ digit_run (drop (at + 2) line)
run_pair line at h l =
    let next : at + 1 + 1 ≡ at + 2 = omega arith in
    run_goes line at h ∙ rw (run_goes line (at + 1) l, next)
