-- A list of words has no word behind its last; a text is judged a byte at a time.
use Rattle.std.specs.Prelude.{ℕ, zero, suc, ◌+◌, ◌<◌, ◌≡◌, ◌≢◌, Bool, true, false, List, [], ◌∷◌, eqb}
use Rattle.std.specs.List.{list_all}
use Rattle.std.proofs.Common.{arith, refl, ap}
use Rattle.leaf.specs.Choosing.{pick}
use Rattle.text.specs.Words.{bar, word_of}
use Rattle.refused_card.specs.Names.{behind_rows}
use Rattle.refused_card.specs.Refused.{is_character, is_text}

-- how many bars a list of words has
abbrev pub bars : List ℕ → ℕ
bars [] = 0
bars (b ∷ rest) = pick (eqb b bar) 1 0 + bars rest

pub no_word : (words : List ℕ) (k : ℕ) → bars words < k → word_of words k ≡ []
unfolding word_of
no_word [] k h = refl
no_word (b ∷ rest) zero h = absurd (omega arith)
no_word (b ∷ rest) (suc k) h = go (eqb b bar) h (λ n. no_word rest n)
  where
    go : (t : Bool) → pick t 1 0 + bars rest < suc k → ((n : ℕ) → bars rest < n → word_of rest n ≡ []) → word_of rest (pick t k (suc k)) ≡ []
    go true h none = none k (omega arith)
    go false h none = none (suc k) (omega arith)

-- behind the rows, at what is no setting's first byte
pub none_behind : (k : ℕ) → k ≢ 0 → k ≢ 1 → k ≢ 3 → k ≢ 5 → k ≢ 6 → k ≢ 7 → k ≢ 8 → k ≢ 9 → word_of behind_rows k ≡ []
unfolding word_of
none_behind zero a b c d e f g h = absurd (a refl)
none_behind (suc zero) a b c d e f g h = absurd (b refl)
none_behind (suc (suc zero)) a b c d e f g h = refl
none_behind (suc (suc (suc zero))) a b c d e f g h = absurd (c refl)
none_behind (suc (suc (suc (suc zero)))) a b c d e f g h = refl
none_behind (suc (suc (suc (suc (suc zero))))) a b c d e f g h = absurd (d refl)
none_behind (suc (suc (suc (suc (suc (suc zero)))))) a b c d e f g h = absurd (e refl)
none_behind (suc (suc (suc (suc (suc (suc (suc zero))))))) a b c d e f g h = absurd (f refl)
none_behind (suc (suc (suc (suc (suc (suc (suc (suc zero)))))))) a b c d e f g h = absurd (g refl)
none_behind (suc (suc (suc (suc (suc (suc (suc (suc (suc zero))))))))) a b c d e f g h = absurd (h refl)
none_behind (suc (suc (suc (suc (suc (suc (suc (suc (suc (suc k)))))))))) a b c d e f g h = refl

pub text_all : (area : List ℕ) → list_all is_character area ≡ is_text area
unfolding is_text
text_all [] = refl
text_all (b ∷ rest) = rw (← text_all rest) refl
