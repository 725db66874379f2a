-- The head: what its six bytes make of a fresh receiver.
use Prim.Native.Nat.{ℕ, ◌+◌, ◌*◌, ◌/◌, ◌%◌, ◌<◌, ◌≤◌}
use native.Mathlib.Omega.{arith}
use mathlib.Core.Path.{◌≡◌, refl, ◌∙◌}
use mathlib.Core.Bool.{Bool, true, false, ◌&&◌}
use mathlib.Core.List.{List, [], ◌∷◌}
use lib.Dec.{eqb, leb, lit<}
use borrow.Author.Tests.{le-leb, leb-true, eq-eqb, eqb-true}
use Rattle.leaf.specs.Choosing.{and_split}
use Rattle.leaf.specs.Answers.{given, refused}
use Rattle.card.specs.declared.Card.{Card}
use Rattle.session.specs.declared.Session.{Session}
use Rattle.session.specs.Session.{fresh_session, open_session}
use Rattle.receiver.specs.Receiver.{with_status, with_stated, counted_in, no_part, fresh_receiver, quietly, refused_with, length_top, length_fits, head_fits, stated_with, opened_with, head_takes, take_of, between_samples}
use Rattle.receiver.specs.declared.Receiver.{Receiver}
use Rattle.receiver.specs.declared.Status.TheVariants.{Open, Refused}
use Rattle.receiver.proofs.Receivers.{head_takes_lem}
use Rattle.receiver.proofs.SixBytes.{both, silent, fault}

-- ---- the length

-- it is 6 + 6n with n ≤ 10,000
pub length_met : (stated : ℕ) → length_fits stated ≡ true → (6 ≤ stated) × (stated ≤ length_top) × (stated % 6 ≡ 0)
length_met stated f =
    let p = and_split (leb 6 stated && leb stated length_top) (eqb (stated % 6) 0) f in
    let q = and_split (leb 6 stated) (leb stated length_top) p.0 in
    (leb-true _ _ q.0, leb-true _ _ q.1, eqb-true _ _ p.1)

pub met_length : (stated : ℕ) → 6 ≤ stated → stated ≤ length_top → stated % 6 ≡ 0 → length_fits stated ≡ true
met_length stated low top whole = rw (le-leb _ _ low, le-leb _ _ top, eq-eqb _ _ whole)

-- ---- a byte at a time

module _ (r : Receiver) (going : r.status ≡ Open) where
  -- a byte that may stand is kept,
  pub head_kept : (b : ℕ) → r.taken < 5 → head_fits r.stated r.taken b ≡ true
      → take_of r b ≡ quietly (counted_in (with_stated (stated_with r.stated r.taken b) r))
  unfolding head_takes
  head_kept b h f =
      let early : eqb r.taken 5 ≡ false = not_five (eqb r.taken 5) refl in
      rw (head_takes_lem r b going (omega arith), f, early)
    where
      not_five : (t : Bool) → eqb r.taken 5 ≡ t → eqb r.taken 5 ≡ false
      not_five true e = let five : r.taken ≡ 5 = eqb-true _ _ e in absurd (omega arith)
      not_five false e = e

  -- any other is 14,
  pub head_unfit : (b : ℕ) → r.taken < 6 → head_fits r.stated r.taken b ≡ false → take_of r b ≡ refused_with 14 r
  unfolding head_takes
  head_unfit b h f = rw (head_takes_lem r b going h, f)

  -- and the last opens the session
  pub head_train : (b : ℕ) → r.taken ≡ 5 → take_of r b ≡ opened_with r (open_session r.session.card b)
  unfolding head_takes head_fits
  head_train b e = rw (head_takes_lem r b going (omega arith), e)

-- ---- the whole head

module _ (card : Card) where
  -- so far in the head
  abbrev pub begun : ℕ → ℕ → Receiver
  begun stated taken = record { session = fresh_session card 0; stated = stated; taken = taken; part = no_part; status = Open }

  -- the length and the version
  five : (h l : ℕ) (rest : List ℕ) → length_fits (h * 256 + l) ≡ true
      → both (fresh_receiver card) (0 ∷ 0 ∷ h ∷ l ∷ 1 ∷ rest) ≡ both (begun (h * 256 + l) 5) rest
  unfolding head_fits stated_with
  five h l rest f =
      let top : h * 256 + l ≤ length_top = (length_met (h * 256 + l) f).1 in
      let high : h ≤ length_top / 256 = omega arith in
      let whole : h * 256 / 256 * 256 + l ≡ h * 256 + l = omega arith in
      silent (begun 0 0) (begun 0 1) 0 _ (head_kept (begun 0 0) refl 0 (lit< tt) refl)
      ∙ silent (begun 0 1) (begun 0 2) 0 _ (head_kept (begun 0 1) refl 0 (lit< tt) refl)
      ∙ silent (begun 0 2) (begun (h * 256) 3) h _ (head_kept (begun 0 2) refl h (lit< tt) (le-leb _ _ high))
      ∙ silent (begun (h * 256) 3) (begun (h * 256 + l) 4) l _ (rw whole at (head_kept (begun (h * 256) 3) refl l (lit< tt) (rw whole f)))
      ∙ silent (begun (h * 256 + l) 4) (begun (h * 256 + l) 5) 1 rest (head_kept (begun (h * 256 + l) 4) refl 1 (lit< tt) refl)

  -- a good head opens the session
  pub head_opens : (h l train : ℕ) (s : Session) (rest : List ℕ) → length_fits (h * 256 + l) ≡ true → open_session card train ≡ given s
      → both (fresh_receiver card) (0 ∷ 0 ∷ h ∷ l ∷ 1 ∷ train ∷ rest) ≡ both (between_samples s (h * 256 + l) 6) rest
  unfolding opened_with
  head_opens h l train s rest f o =
      five h l (train ∷ rest) f ∙ silent (begun (h * 256 + l) 5) (between_samples s (h * 256 + l) 6) train rest (head_train (begun (h * 256 + l) 5) refl train refl ∙ rw o)

  -- or is refused with what refuses the opening
  pub head_refuses : (h l train n : ℕ) (rest : List ℕ) → length_fits (h * 256 + l) ≡ true
      → opened_with (begun (h * 256 + l) 5) (open_session card train) ≡ refused_with n (begun (h * 256 + l) 5)
      → both (fresh_receiver card) (0 ∷ 0 ∷ h ∷ l ∷ 1 ∷ train ∷ rest) ≡ (with_status (Refused n) (begun (h * 256 + l) 5), refused n ∷ [])
  head_refuses h l train n rest f o =
      five h l (train ∷ rest) f ∙ fault (begun (h * 256 + l) 5) n train rest (head_train (begun (h * 256 + l) 5) refl train refl ∙ o)
