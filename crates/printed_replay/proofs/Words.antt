-- A word's digits, one at a time, and that a number which is cut off at the greatest quota on the way is the one that is cut off at its end.
use Prim.Native.Nat.{ℕ, suc, ◌+◌, ◌*◌, ◌<◌, ◌≤◌, min}
use native.Mathlib.Omega.{arith}
use native.Mathlib.Numerals.{add-one}
use mathlib.Core.Path.{◌≡◌, refl, ap, ◌∙◌}
use mathlib.Core.Bool.{true, false}
use mathlib.Core.List.{List, [], ◌∷◌, ◌++◌}
use lib.ListN.{length, get_or, take, drop}
use lib.Seq.{take-suc, take_all, split_at}
use borrow.Author.Tests.{lt-ltb, le-ltb}
use Rattle.leaf.specs.Choosing.{and_split}
use Rattle.text.specs.Hex.{hex_value}
use Rattle.printed_replay.specs.Word.{most_quota, is_digit, all_digits, is_number, value_behind, value_of, quota_in}
use Rattle.std.specs.Prelude.{Some, None}

-- where there is a byte, all of them decide
is_number_lem : (word : List ℕ) → 0 < length word → is_number word ≡ all_digits word
is_number_lem [] h = absurd (omega arith)
is_number_lem (b ∷ word) h = refl

digits_append : (p q : List ℕ) → all_digits p ≡ true → all_digits (p ++ q) ≡ all_digits q
unfolding all_digits
digits_append [] q h = refl
digits_append (b ∷ p) q h =
    let both = and_split (is_digit b) (all_digits p) h in
    rw both.0 (digits_append p q both.1)

value_append : (n : ℕ) (p q : List ℕ) → value_behind n (p ++ q) ≡ value_behind (value_behind n p) q
unfolding value_behind
value_append n [] q = refl
value_append n (b ∷ p) q = value_append (n * 10 + hex_value b) p q

-- one more digit: the number so far may be cut off before it
cut_off : (v d : ℕ) → min (min v most_quota * 10 + d) most_quota ≡ min (v * 10 + d) most_quota
cut_off v d = omega arith

pub no_word : (word : List ℕ) → length word ≤ 0 → None ≡ quota_in word
unfolding quota_in
no_word [] h = refl
no_word (b ∷ word) h = absurd (omega arith)

-- after the first i bytes, all of them digits
pub record Said (word : List ℕ) (i n : ℕ) : Type 0 where
  pub inside : i ≤ length word
  pub digits : all_digits (take i word) ≡ true
  pub number : n ≡ min (value_of (take i word)) most_quota

pub none_said : (word : List ℕ) → Said word 0 0
unfolding all_digits value_behind
none_said word = record { inside = omega arith; digits = refl; number = refl }

module _ (word : List ℕ) (i n : ℕ) (said : Said word i n) where
  pub one_more : i < length word → hex_value (get_or word i 0) < 10 → Said word (i + 1) (min (n * 10 + hex_value (get_or word i 0)) most_quota)
  unfolding all_digits value_behind
  one_more here digit =
      let next = take-suc word i 0 here in
      record {
        inside = omega arith;
        digits = rw (add-one, next, digits_append (take i word) (get_or word i 0 ∷ []) said.digits, lt-ltb _ _ digit);
        number = rw (add-one, next, value_append 0 (take i word) (get_or word i 0 ∷ []), said.number) (cut_off (value_of (take i word)) (hex_value (get_or word i 0)));
      }

  -- a byte that is none
  pub other : i < length word → 10 ≤ hex_value (get_or word i 0) → None ≡ quota_in word
  unfolding all_digits quota_in
  other here digit =
      let behind = digits_append (take i word) (get_or word i 0 ∷ drop (suc i) word) said.digits in
      let bad : all_digits word ≡ false = ap all_digits (split_at word i 0 here) ∙ behind ∙ rw (le-ltb _ _ digit) in
      rw (is_number_lem word (omega arith), bad)

  -- at the word's end
  pub whole : 0 < i → length word ≤ i → Some n ≡ quota_in word
  unfolding quota_in
  whole some end =
      let all = take_all i word end in
      rw (is_number_lem word (omega arith), ← all, said.digits, said.number)
