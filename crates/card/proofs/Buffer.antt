-- What the writer leaves in the buffer lent to it.
use Prim.Native.Nat.{ℕ, ◌≤◌}
use native.Mathlib.Omega.{arith}
use mathlib.Core.Path.{◌≡◌, refl}
use mathlib.Core.Bool.{false}
use mathlib.Core.List.{List, [], ◌∷◌}
use lib.ListN.{length, drop, length-append, length-drop}
use lib.Seq.{drop_at, length-take-le}
use borrow.Author.Tests.{leb-true}
use Rattle.leaf.specs.Answers.{Answer, given, refused, refused_at}
use Rattle.card.specs.Card.{base_kind, length_of, reminds}
use Rattle.card.specs.Writing.{pairs_bytes, bytes_of, record_of, write_card, written, leaves}
use Rattle.card.specs.Laws.{length-bytes_of, length_of-le, done_checks}
use Rattle.card.specs.Plain.{SettingsMet}
use Rattle.card.specs.declared.Settings.{Settings}
use Rattle.card.proofs.InRange.{reminder_zero}

pub length-record_of : (v : ℕ) (s : Settings) → length (record_of v s) ≡ length_of v
unfolding record_of
length-record_of v s = length-take-le (length_of v) (bytes_of v s) (rw length-bytes_of (length_of-le v))

-- "A refusal .. leaves buffers .. unchanged": where it is not done, the buffer holds what it held
pub refused_leaves : (v : ℕ) (s : Settings) (buffer : List ℕ) → (write_card v s (length buffer) ≡ given written → ⊥)
    → leaves (write_card v s (length buffer)) v s buffer ≡ buffer
refused_leaves v s buffer = cases (write_card v s (length buffer))
  where
    cases : (a : Answer Unit) → (a ≡ given written → ⊥) → leaves a v s buffer ≡ buffer
    cases (given done) h = absurd (h refl)
    cases (refused n) h = refl
    cases (refused_at n p) h = refl

-- it "touches nothing beyond the record"
pub beyond_untouched : (v : ℕ) (s : Settings) (buffer : List ℕ)
    → drop (length_of v) (leaves (write_card v s (length buffer)) v s buffer) ≡ drop (length_of v) buffer
beyond_untouched v s buffer = cases (write_card v s (length buffer))
  where
    cases : (a : Answer Unit) → drop (length_of v) (leaves a v s buffer) ≡ drop (length_of v) buffer
    cases (given done) = drop_at (record_of v s) (drop (length_of v) buffer) (length_of v) (length-record_of v s)
    cases (refused n) = refl
    cases (refused_at n p) = refl

-- the buffer is as long as it was
pub length_kept : (v : ℕ) (s : Settings) (buffer : List ℕ) → length (leaves (write_card v s (length buffer)) v s buffer) ≡ length buffer
length_kept v s buffer = cases (write_card v s (length buffer)) (λ h. leb-true _ _ (done_checks v s (length buffer) h).1.1.0)
  where
    cases : (a : Answer Unit) → (a ≡ given written → length_of v ≤ length buffer) → length (leaves a v s buffer) ≡ length buffer
    cases (given done) fits = let f = fits refl in simp (length-append, length-drop, length-record_of v s) (omega arith)
    cases (refused n) fits = refl
    cases (refused_at n p) fits = refl

-- the writer "zeroes silent bytes": with bit 2 off, bytes 40 to 43 of a version 2 record are 0, and so are those of a version 3 record
pub silent_zero : (s : Settings) → SettingsMet 2 s → reminds s.functions ≡ false → drop 40 (record_of 2 s) ≡ 0 ∷ 0 ∷ 0 ∷ 0 ∷ []
unfolding record_of bytes_of
silent_zero s m e = let z = reminder_zero base_kind m e in rw (z.0, z.1)

pub silent_zero_3 : (s : Settings) → SettingsMet 3 s → reminds s.functions ≡ false → drop 40 (record_of 3 s) ≡ 0 ∷ 0 ∷ 0 ∷ 0 ∷ pairs_bytes s.pairs
unfolding record_of bytes_of
silent_zero_3 s m e = let z = reminder_zero base_kind m e in rw (z.0, z.1)
