-- The receiver: bytes in any pieces, and what a byte or an end does to one that is refused, ended, or open.
use Prim.Native.Nat.{ℕ, ◌<◌, ◌≤◌}
use mathlib.Core.Path.{◌≡◌, refl, sym, ap, ◌∙◌}
use mathlib.Core.Bool.{true, false}
use mathlib.Core.List.{List, [], ◌∷◌, ◌++◌, append_assoc, flatten}
use borrow.Author.Tests.{lt-ltb, le-ltb}
use Rattle.leaf.specs.Answers.{Answer, refused, refused_at, refusal_of}
use Rattle.leaf.specs.declared.refusal.Refusal.{Refusal}
use Rattle.leaf.proofs.ByNumber.{by_number, as_it_is}
use Rattle.card.specs.declared.Card.{Card}
use Rattle.step.specs.declared.Answer.{Answer as Told}
use Rattle.rides.specs.Ride.{shown_of, number_of}
use Rattle.receiver.specs.Receiver.{started_after, opened_with, with_status, quietly, refused_with, head_takes, sample_takes, open_takes, take_as, take_of, whole_in, end_as, end_of, received_all, shown_all, received_pieces, shown_pieces}
use Rattle.receiver.specs.declared.Receiver.{Receiver}
use Rattle.receiver.specs.declared.Status.TheVariants.{Open, Ended, Refused}

-- ---- refusals at the start

-- a card that is refused starts no receiver
pub start_refused : (card : Card) (why : Refusal) → started_after (refusal_of why) card ≡ refusal_of why
start_refused card why = as_it_is (λ judged. started_after judged card) (λ n. refl) (λ n place. refl) why

-- a refused opening shows its number, without the place
pub opened_refused : (r : Receiver) (why : Refusal) → opened_with r (refusal_of why) ≡ refused_with (number_of why) r
unfolding opened_with
opened_refused r why = by_number (opened_with r) (λ n. refused_with n r) (λ n. refl) (λ n place. refl) why

-- the same of every number, also of one that no refusal has
pub start_refused_any : (card : Card) → ((n : ℕ) → started_after (refused n) card ≡ refused n) × ((n place : ℕ) → started_after (refused_at n place) card ≡ refused_at n place)
start_refused_any card = (λ n. refl, λ n place. refl)

pub opened_refused_any : (r : Receiver) → ((n : ℕ) → opened_with r (refused n) ≡ refused_with n r) × ((n place : ℕ) → opened_with r (refused_at n place) ≡ refused_with n r)
unfolding opened_with
opened_refused_any r = (λ n. refl, λ n place. refl)

-- ---- pieces

-- one piece and then another are the bytes of both
pub received_append : (r : Receiver) (p q : List ℕ) → received_all r (p ++ q) ≡ received_all (received_all r p) q
unfolding received_all
received_append r [] q = refl
received_append r (b ∷ p) q = received_append (take_of r b).receiver p q

pub shown_append : (r : Receiver) (p q : List ℕ) → shown_all r (p ++ q) ≡ shown_all r p ++ shown_all (received_all r p) q
unfolding received_all shown_all
shown_append r [] q = refl
shown_append r (b ∷ p) q =
    let next = (take_of r b).receiver in
    let here = shown_of (take_of r b).shown in
    ap (λ (l : List (Answer Told)). here ++ l) (shown_append next p q) ∙ sym (append_assoc here (shown_all next p) (shown_all (received_all next p) q))

-- so pieces are their bytes put together, however they are cut
pub received_cut : (r : Receiver) (pieces : List (List ℕ)) → received_pieces r pieces ≡ received_all r (flatten pieces)
unfolding received_pieces received_all flatten
received_cut r [] = refl
received_cut r (piece ∷ rest) = received_cut (received_all r piece) rest ∙ sym (received_append r piece (flatten rest))

pub shown_cut : (r : Receiver) (pieces : List (List ℕ)) → shown_pieces r pieces ≡ shown_all r (flatten pieces)
unfolding shown_pieces shown_all flatten
shown_cut r [] = refl
shown_cut r (piece ∷ rest) =
    ap (λ (l : List (Answer Told)). shown_all r piece ++ l) (shown_cut (received_all r piece) rest) ∙ sym (shown_append r piece (flatten rest))

-- an empty piece changes nothing
pub received_none : (r : Receiver) → (received_all r [] ≡ r) × (shown_all r [] ≡ [])
unfolding received_all shown_all
received_none r = (refl, refl)

-- ---- once refused, and after a good end

module _ (r : Receiver) where
  -- "once refused, every later call .. gets the same number and no answers" (a7)
  pub refused_takes : (n b : ℕ) → r.status ≡ Refused n → take_of r b ≡ quietly r
  unfolding take_of take_as
  refused_takes n b e = rw e

  pub refused_ends : (n : ℕ) → r.status ≡ Refused n → end_of r ≡ quietly r
  unfolding end_of end_as
  refused_ends n e = rw e

  -- "After a good end an empty piece or a second end changes nothing; a byte is 14." (a9)
  pub ended_takes : (b : ℕ) → r.status ≡ Ended → take_of r b ≡ refused_with 14 r
  unfolding take_of take_as
  ended_takes b e = rw e

  pub ended_ends : r.status ≡ Ended → end_of r ≡ quietly r
  unfolding end_of end_as
  ended_ends e = rw e

  -- an end is good exactly when all stated bytes are in, and 14 where it is early
  pub good_end : r.status ≡ Open → whole_in r ≡ true → end_of r ≡ quietly (with_status Ended r)
  unfolding end_of end_as
  good_end e w = rw (e, w)

  pub early_end : r.status ≡ Open → whole_in r ≡ false → end_of r ≡ refused_with 14 r
  unfolding end_of end_as
  early_end e w = rw (e, w)

  -- "the first byte past the stated length" is 14 (a2)
  pub past_takes : (b : ℕ) → r.status ≡ Open → 6 ≤ r.taken → r.stated ≤ r.taken → take_of r b ≡ refused_with 14 r
  unfolding take_of take_as open_takes
  past_takes b e h p = rw (e, le-ltb _ _ h, le-ltb _ _ p)

  -- else a byte of the head, or of a sample
  pub head_takes_lem : (b : ℕ) → r.status ≡ Open → r.taken < 6 → take_of r b ≡ head_takes r b
  unfolding take_of take_as open_takes
  head_takes_lem b e h = rw (e, lt-ltb _ _ h)

  pub sample_takes_lem : (b : ℕ) → r.status ≡ Open → 6 ≤ r.taken → r.taken < r.stated → take_of r b ≡ sample_takes r b
  unfolding take_of take_as open_takes
  sample_takes_lem b e h p = rw (e, le-ltb _ _ h, lt-ltb _ _ p)

pub refused_stays : (r : Receiver) (n : ℕ) (piece : List ℕ) → r.status ≡ Refused n → (received_all r piece ≡ r) × (shown_all r piece ≡ [])
unfolding received_all shown_all
refused_stays r n [] e = (refl, refl)
refused_stays r n (b ∷ piece) e =
    let rest = refused_stays r n piece e in
    (rw (refused_takes r n b e) rest.0, rw (refused_takes r n b e) rest.1)
