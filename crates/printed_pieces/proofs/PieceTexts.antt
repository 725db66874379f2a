-- The lines of pieces: those of the bytes put together, however they are cut; and how large a buffer holds those of a piece.
use Prim.Native.Nat.{ℕ, ◌+◌, ◌*◌, ◌/◌, ◌%◌, ◌≤◌, ◌<◌}
use native.Mathlib.Omega.{arith}
use native.Mathlib.Numerals.{add-one}
use mathlib.Core.Path.{◌≡◌, refl, sym, ap, ◌∙◌}
use mathlib.Core.Logic.{◌⊎◌, inl, inr}
use mathlib.Core.List.{List, [], ◌∷◌, ◌++◌, append_assoc, append-nil, flatten}
use lib.ListN.{length, get_or, take, length-append}
use lib.Seq.{take-suc}
use Rattle.leaf.specs.Answers.{refused, refused_at, refusal_of}
use Rattle.leaf.specs.declared.refusal.Refusal.{Refusal}
use Rattle.leaf.proofs.ByNumber.{by_number, as_it_is}
use Rattle.rides.specs.Ride.{number_of}
use Rattle.rides.specs.declared.ride.Shown.{Shown}
use Rattle.rides.specs.declared.ride.Shown.TheVariants.{Nothing}
use Rattle.receiver.specs.Receiver.{take_of, end_of, number_now, received_all}
use Rattle.receiver.specs.declared.Receiver.{Receiver}
use Rattle.receiver.specs.declared.Status.TheVariants.{Refused}
use Rattle.receiver.proofs.Receivers.{received_append, refused_takes}
use Rattle.receiver.proofs.Steps.{Step, step_of}
use Rattle.printed.specs.Printed.{refused_line, shown_text}
use Rattle.printed_pieces.specs.Pieces.{start_after, begun_text, piece_text, end_text, pieces_text}
use Rattle.printed.specs.declared.Columns.{Columns}
use Rattle.printed.proofs.Room.{shown_length}

-- ---- the start on a card that is refused

pub start_refused : (why : Refusal) → start_after (refusal_of why) ≡ refusal_of why
start_refused why = as_it_is start_after (λ n. refl) (λ n place. refl) why

pub begun_refused : (why : Refusal) → begun_text (refusal_of why) ≡ refused_line (number_of why)
unfolding begun_text
begun_refused why = by_number begun_text refused_line (λ n. refl) (λ n place. refl) why

-- the same of every number, also of one that no refusal has
pub start_refused_any : ((n : ℕ) → start_after (refused n) ≡ refused n) × ((n place : ℕ) → start_after (refused_at n place) ≡ refused_at n place)
start_refused_any = (λ n. refl, λ n place. refl)

pub begun_refused_any : ((n : ℕ) → begun_text (refused n) ≡ refused_line n) × ((n place : ℕ) → begun_text (refused_at n place) ≡ refused_line n)
unfolding begun_text
begun_refused_any = (λ n. refl, λ n place. refl)

-- ---- pieces put together

pub piece_append : (columns : Columns) (r : Receiver) (p q : List ℕ)
    → piece_text columns r (p ++ q) ≡ piece_text columns r p ++ piece_text columns (received_all r p) q
unfolding piece_text received_all
piece_append columns r [] q = refl
piece_append columns r (b ∷ p) q =
    let here = shown_text columns (number_now r) (take_of r b).shown in
    let next = (take_of r b).receiver in
    ap (λ (l : List ℕ). here ++ l) (piece_append columns next p q) ∙ sym (append_assoc here (piece_text columns next p) (piece_text columns (received_all next p) q))

-- the texts of pieces are one text, that of their bytes, however they are cut
pub pieces_text_lem : (columns : Columns) (r : Receiver) (pieces : List (List ℕ)) → pieces_text columns r pieces ≡ piece_text columns r (flatten pieces)
unfolding pieces_text piece_text flatten
pieces_text_lem columns r [] = refl
pieces_text_lem columns r (piece ∷ rest) =
    ap (λ (l : List ℕ). piece_text columns r piece ++ l) (pieces_text_lem columns (received_all r piece) rest) ∙ sym (piece_append columns r piece (flatten rest))

-- one byte more
module _ (columns : Columns) (r : Receiver) (piece : List ℕ) (i : ℕ) (here : i < length piece) where
  abbrev so_far : Receiver
  so_far = received_all r (take i piece)

  pub received_next : received_all r (take (i + 1) piece) ≡ (take_of so_far (get_or piece i 0)).receiver
  unfolding received_all
  received_next = rw (add-one, take-suc piece i 0 here) (received_append r (take i piece) (get_or piece i 0 ∷ []))

  pub text_next : piece_text columns r (take (i + 1) piece)
      ≡ piece_text columns r (take i piece) ++ shown_text columns (number_now so_far) (take_of so_far (get_or piece i 0)).shown
  unfolding piece_text
  text_next =
      rw (add-one, take-suc piece i 0 here)
      (piece_append columns r (take i piece) (get_or piece i 0 ∷ []) ∙ ap (λ (l : List ℕ). piece_text columns r (take i piece) ++ l) (append-nil (shown_text columns (number_now so_far) (take_of so_far (get_or piece i 0)).shown)))

-- ---- how large a buffer holds the lines of a piece

-- once refused, nothing more is printed
pub refused_prints : (columns : Columns) (r : Receiver) (n : ℕ) (piece : List ℕ) → r.status ≡ Refused n → piece_text columns r piece ≡ []
unfolding piece_text shown_text
refused_prints columns r n [] e = refl
refused_prints columns r n (b ∷ piece) e = rw (refused_takes r n b e) (refused_prints columns r n piece e)

nothing-length : (columns : Columns) (number : ℕ) (sh : Shown) → sh ≡ Nothing → length (shown_text columns number sh) ≡ 0
unfolding shown_text
nothing-length columns number sh e = rw e

-- of a piece of n bytes that begins in the middle of a sample
room : (columns : Columns) (r : Receiver) (piece : List ℕ) → length (piece_text columns r piece) ≤ 66 * ((length piece + r.taken % 6) / 6) + 66
unfolding piece_text
room columns r [] = omega arith
room columns r (b ∷ piece) = cases (step_of r b) (room columns (take_of r b).receiver piece)
  where
    next : Receiver
    next = (take_of r b).receiver

    here : List ℕ
    here = shown_text columns (number_now r) (take_of r b).shown

    line : length here ≤ 66
    line = shown_length columns (number_now r) (take_of r b).shown

    cases : Step r (take_of r b) → length (piece_text columns next piece) ≤ 66 * ((length piece + next.taken % 6) / 6) + 66
        → length (here ++ piece_text columns next piece) ≤ 66 * ((length (b ∷ piece) + r.taken % 6) / 6) + 66
    cases (inl k) rest = rw length-append (shows k.shows)
      where
        shows : ((take_of r b).shown ≡ Nothing) ⊎ (r.taken % 6 ≡ 5)
            → length here + length (piece_text columns next piece) ≤ 66 * ((length (b ∷ piece) + r.taken % 6) / 6) + 66
        shows (inl none) = omega (arith, rest, k.counted, nothing-length columns (number_now r) (take_of r b).shown none)
        shows (inr five) = omega (arith, rest, k.counted, line, five)
    cases (inr (n, out)) rest = rw (refused_prints columns next n piece out.after, append-nil) (omega (arith, line))

-- a line for every six bytes begun, and a refusal's
pub piece_length : (columns : Columns) (r : Receiver) (piece : List ℕ) → length (piece_text columns r piece) ≤ 66 * ((length piece + 5) / 6 + 1)
piece_length columns r piece = omega (arith, room columns r piece)

pub end_length : (columns : Columns) (r : Receiver) → length (end_text columns r) ≤ 66
unfolding end_text
end_length columns r = shown_length columns (number_now r) (end_of r).shown
