-- Any two results that a promise allows are equal. Assumes nothing.
use mathlib.Core.Path.{◌≡◌, sym, ◌∙◌}
use mathlib.Core.List.{List}
use Prim.Native.Nat.{ℕ}
use lib.Ieee.{Float}
use Rattle.std.specs.Prelude.{Result}
use Rattle.leaf.specs.declared.refusal.Refusal.{Refusal}
use Rattle.leaf.proofs.OnPaper.{result_one}
use Rattle.tone.specs.declared.Sheet.{Sheet}
use Rattle.tone.specs.declared.Reading.{Reading}
use Rattle.tone.specs.Tones.{read_sheet, beside_of, classify_of, paper_of}

-- two answers of the classifier that are the same on paper are the same
pub same_paper : (r q : Result Reading Refusal) → paper_of r ≡ paper_of q → r ≡ q
same_paper = result_one

pub one_classified : (area : List ℕ) (tone : Float) (r q : Result Reading Refusal) → paper_of r ≡ classify_of area tone → paper_of q ≡ classify_of area tone → r ≡ q
one_classified area tone r q a b = same_paper r q (a ∙ sym b)

pub one_read : (area : List ℕ) (r q : Result Sheet Refusal) → r ≡ beside_of (read_sheet area) → q ≡ beside_of (read_sheet area) → r ≡ q
one_read area r q a b = a ∙ sym b
