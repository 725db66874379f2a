-- Words as text, in ASCII: a list of words, words with a number behind them, a refusal.
use Rattle.std.specs.Prelude.{ℕ, zero, suc, ◌-◌, ◌≡◌, true, false, ◌&&◌, List, [], ◌∷◌, ◌++◌, Option, Some, None, eqb}
use Rattle.std.proofs.Common.{arith}
use Prim.Native.Char.{code}
use Prim.Native.String.{String, [] as none, ◌∷◌ as ◌then◌}
use Rattle.std.proofs.Math.Dec.{eqb-suc-zero}
use Rattle.leaf.specs.Choosing.{pick}
use Rattle.leaf.specs.Answers.{number_of, place_of}
use Rattle.leaf.specs.declared.refusal.Refusal.{Refusal}
use Rattle.text.specs.Decimal.{decimal}

-- the bytes of quoted words: the codes of their characters
abbrev pub ascii : String → List ℕ
ascii none = []
ascii (c then rest) = code c ∷ ascii rest

-- what parts the words of a list
abbrev pub bar : ℕ
bar = 0x7C

-- the word of a list that k bars stand before; none where there are fewer
unfoldable pub word_of : List ℕ → ℕ → List ℕ
word_of [] k = []
word_of (b ∷ rest) zero = pick (eqb b bar) [] (b ∷ word_of rest zero)
word_of (b ∷ rest) (suc k) = word_of rest (pick (eqb b bar) k (suc k))

-- words, and the number that they name
abbrev pub labelled : List ℕ → ℕ → List ℕ
labelled words n = words ++ decimal n

-- "A refusal returns its number (and place for 5, 12)": `refused 1`, `refused 5 at 11`
abbrev pub refused_by : ℕ → List ℕ
refused_by n = labelled (ascii "refused ") n

abbrev pub refused_at_place : ℕ → ℕ → List ℕ
refused_at_place n place = refused_by n ++ labelled (ascii " at ") place

abbrev pub numbered_text : ℕ → Option ℕ → List ℕ
numbered_text n None = refused_by n
numbered_text n (Some place) = refused_at_place n place

abbrev pub refusal_text : Refusal → List ℕ
refusal_text why = numbered_text (number_of why) (place_of why)

-- ---- laws of a list of words, a byte at a time

-- the bar behind the word ends it
pub word_ends : (b : ℕ) (rest : List ℕ) (k : ℕ) → (eqb k 0 && eqb b bar) ≡ true → word_of (b ∷ rest) k ≡ []
unfolding word_of
word_ends b rest zero e = rw e
word_ends b rest (suc k) e = let n : false ≡ true = rw eqb-suc-zero at e in cc

-- any other byte is the word's, where no bar is left before it
pub word_goes : (b : ℕ) (rest : List ℕ) (k : ℕ) → (eqb k 0 && eqb b bar) ≡ false
    → word_of (b ∷ rest) k ≡ pick (eqb k 0) (b ∷ []) [] ++ word_of rest (pick (eqb b bar) (k - 1) k)
unfolding word_of
word_goes b rest zero e = rw e
word_goes b rest (suc k) e =
    let less : suc k - 1 ≡ k = omega arith in
    rw (eqb-suc-zero, less)
