-- What is said of a refused card is so, besides the range of a setting (proofs/Ranges.antt): a final misses the end that is named; the
-- bytes are fewer than those that are due, the version is above the highest, the length field is another than the one due; and a file of
-- text is refused by its version.
use Prim.Native.Nat.{ℕ, ◌-◌, ◌%◌, ◌≤◌, ◌<◌}
use native.Mathlib.Omega.{arith}
use mathlib.Core.Path.{◌≡◌, refl}
use mathlib.Core.Bool.{Bool, true, false, ◌||◌}
use mathlib.Core.List.{List, [], ◌∷◌}
use mathlib.Core.Logic.{◌⊎◌, inl, inr}
use lib.Dec.{leb, ltb, eqb}
use lib.ListN.{length}
use borrow.Author.Tests.{eqb-true, ne_eqb, lt-leb, lt-ltb, le-ltb, leb-true, ltb-true, ltb-false}
use Rattle.leaf.specs.Choosing.{and_split}
use Rattle.leaf.specs.Numbers.{within}
use Rattle.leaf.specs.Bytes.{byte, word}
use Rattle.leaf.specs.Answers.{refused, refused_at}
use Rattle.card.specs.Card.{length_of}
use Rattle.card.specs.Reading.{read_card}
use Rattle.card.specs.Plain.{Within, Known, ReadAs, under_3, version_above, other_length, short}
use Rattle.text.specs.Words.{ascii}
use Rattle.card.proofs.Area.{length_is, length_only}
use Rattle.card.proofs.Exactly.{read_exactly}
use Rattle.refused_card.specs.Refused.{bytes_due, is_character, is_text, low_end, row_high_end, high_end, value_at, is_final, is_above, is_below, missed_text}
use Rattle.refused_card.specs.Told.{Printed}
use Rattle.refused_card.proofs.Ranges.{outside}

-- ---- a final

-- it is above its initial, or below 1, and that is what is said
abbrev Above : List ℕ → ℕ → Type 0
Above area at = (byte area (at - 1) < byte area at) × (missed_text area at ≡ ascii ": above its initial")

abbrev Below : List ℕ → ℕ → Type 0
Below area at = (byte area at < 1) × (missed_text area at ≡ ascii ": below 1")

module _ (area : List ℕ) (at : ℕ) (final : is_final at ≡ true) where
  -- a final's range is 1 to the byte before it
  final_outside : (Printed area at (value_at area at) → ⊥) → Within 1 (byte area (at - 1)) (byte area at) → ⊥
  unfolding low_end high_end row_high_end value_at
  final_outside out =
      let split = and_split (within 7 38 at) (eqb ((at - 7) % 4) 1) final in
      let ends = and_split (leb 7 at) (leb at 38) split.0 in
      let low = leb-true 7 at ends.0 in
      let high = leb-true at 38 ends.1 in
      let field = eqb-true ((at - 7) % 4) 1 split.1 in
      simp (ne_eqb at 3 (λ e. omega arith), ne_eqb at 4 (λ e. omega arith), ne_eqb at 39 (λ e. omega arith), ne_eqb at 40 (λ e. omega arith), ne_eqb at 42 (λ e. omega arith), lt-leb 44 at (omega arith), le-ltb at 7 low, lt-ltb at 39 (omega arith), field) at out

  missed : (Within 1 (byte area (at - 1)) (byte area at) → ⊥) → Above area at ⊎ Below area at
  unfolding is_above is_below missed_text
  missed out = cases (ltb (byte area (at - 1)) (byte area at)) refl
    where
      cases : (t : Bool) → ltb (byte area (at - 1)) (byte area at) ≡ t → Above area at ⊎ Below area at
      cases true e = inl (ltb-true _ _ e, rw (final, e))
      cases false e =
          let low : byte area at < 1 = below (ltb (byte area at) 1) refl in
          inr (low, rw (final, e, lt-ltb _ _ low))
        where
          below : (t : Bool) → ltb (byte area at) 1 ≡ t → byte area at < 1
          below true l = ltb-true _ _ l
          below false l = absurd (out (ltb-false _ _ l, ltb-false _ _ e))

module _ (area : List ℕ) (highest : ℕ) where
  -- "final 1..initial": of a final that is refused the end is named that it misses
  pub final_told : (n at : ℕ) → read_card area highest ≡ refused_at n at → is_final at ≡ true → Above area at ⊎ Below area at
  final_told n at e final = missed area at final (final_outside area at final (outside area highest n at e))

  -- ---- a header

  -- "1 | card area under 3 bytes, or shorter than its record"
  few_told : ReadAs area highest (refused 1) → length area < bytes_due area
  few_told (under_3 known few) = rw (lt-ltb _ _ few) few
  few_told (short known some version stated few) =
      rw (le-ltb _ _ some) (omega (arith, length_only (version.0, omega (arith, version.1, known.1)) stated))

  pub length_told : read_card area highest ≡ refused 1 → length area < bytes_due area
  length_told e = few_told ((read_exactly area highest (refused 1)).0 e)

  -- "3 | card version above the reader's highest"
  above_told : ReadAs area highest (refused 3) → highest < byte area 2
  above_told (version_above known some above) = above

  pub version_told : read_card area highest ≡ refused 3 → highest < byte area 2
  version_told e = above_told ((read_exactly area highest (refused 3)).0 e)

  -- "4 | length field is not its version's length"
  other_told : ReadAs area highest (refused 4) → word area 0 ≡ length_of (byte area 2) → ⊥
  other_told (other_length known some version other) e = other (rw e (length_is (byte area 2)))

  pub field_told : read_card area highest ≡ refused 4 → word area 0 ≡ length_of (byte area 2) → ⊥
  field_told e = other_told ((read_exactly area highest (refused 4)).0 e)

-- ---- a file of text

character_high : (b : ℕ) → is_character b ≡ true → 3 < b
character_high b e = cases (within 0x20 0x7E b) refl e
  where
    cases : (t : Bool) → within 0x20 0x7E b ≡ t → (t || within 0x09 0x0D b) ≡ true → 3 < b
    cases true h e = omega (arith, leb-true 0x20 b (and_split _ _ h).0)
    cases false h e = omega (arith, leb-true 0x09 b (and_split _ _ e).0)

text_version : (area : List ℕ) → 3 ≤ length area → is_text area ≡ true → 3 < byte area 2
unfolding is_text byte
text_version [] some e = absurd (omega arith)
text_version (a ∷ []) some e = absurd (omega arith)
text_version (a ∷ b ∷ []) some e = absurd (omega arith)
text_version (a ∷ b ∷ c ∷ rest) some e =
    let behind_a = (and_split (is_character a) (is_text (b ∷ c ∷ rest)) e).1 in
    let behind_b = (and_split (is_character b) (is_text (c ∷ rest)) behind_a).1 in
    character_high c (and_split (is_character c) (is_text rest) behind_b).0

-- "3 | card version above the reader's highest": of a file of text that is not all that is said
pub text_refused : (area : List ℕ) (highest : ℕ) → Known highest → 3 ≤ length area → is_text area ≡ true → read_card area highest ≡ refused 3
text_refused area highest known some e =
    (read_exactly area highest (refused 3)).1 (version_above known some (omega (arith, known.1, text_version area some e)))
