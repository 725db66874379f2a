-- The text of a line: of a good recording and then the end it is the text of the whole ride.
use Prim.Native.Nat.{ℕ, zero, suc, ◌+◌, ◌%◌, ◌≤◌}
use native.Mathlib.Omega.{arith}
use mathlib.Core.Path.{◌≡◌, refl, sym, ap, ◌∙◌}
use mathlib.Core.Bool.{Bool, true, false}
use mathlib.Core.List.{List, [], ◌∷◌, ◌++◌, append-nil, append_assoc, flatten}
use mathlib.Core.Logic.{inl, inr}
use lib.Dec.{eqb}
use lib.ListN.{length, take, drop, take-append-drop}
use lib.Seq.{length-take-le}
use Rattle.leaf.specs.Answers.{Answer, given, refused, refused_at}
use Rattle.leaf.specs.Bytes.{long}
use Rattle.card.specs.declared.Card.{Card}
use Rattle.card.specs.Reading.{card_in}
use Rattle.step.specs.declared.Answer.{Answer as Told}
use Rattle.session.specs.declared.Session.{Session}
use Rattle.session.specs.Session.{open_session}
use Rattle.text.specs.Decimal.{line}
use Rattle.rides.specs.Recording.{good_recording, samples_in, train_of, place_of, sample_at, samples_from, first_samples}
use Rattle.rides.specs.Ride.{fresh_ride, shown_of, turn_of, turn_at, run_of, shown_by}
use Rattle.rides.specs.declared.ride.Ride.{Ride}
use Rattle.rides.specs.declared.ride.Shown.{Shown}
use Rattle.rides.specs.declared.ride.Shown.TheVariants as shown
use Rattle.rides.proofs.Recordings.{six, good_met}
use Rattle.rides.proofs.Runs.{turn_paper, recording_run}
use Rattle.rides.proofs.Refusals.{starts_good}
use Rattle.receiver.specs.Receiver.{with_status, fresh_receiver, opened_with, refused_with, take_of, end_of, received_all, shown_all, number_now}
use Rattle.receiver.specs.declared.Receiver.{Receiver}
use Rattle.receiver.specs.declared.Status.TheVariants.{Refused}
use Rattle.receiver.proofs.Receivers.{refused_stays, refused_ends}
use Rattle.receiver.proofs.Head.{begun}
use Rattle.receiver.proofs.Steps.{Step, step_of}
use Rattle.printed.specs.declared.Columns.{Columns}
use Rattle.printed.specs.Printed.{refused_line, columns_of, shown_text, lines_of, started_text, card_text, highest, printed_ride, turn_text, printed_as}
use Rattle.printed.specs.declared.Form.TheVariants.{Answers}
use Rattle.printed_pieces.specs.Pieces.{start_on, begun_text, start_text, piece_text, end_text, line_text, line_printed}
use Rattle.printed_pieces.proofs.PieceTexts.{piece_append, refused_prints}
use Rattle.demands.specs.Pieces.{after_bytes}
use Rattle.demands.proofs.Line.{Opened, Stands, After, later, stands, one_more}
use Rattle.demands.proofs.Whole.{good_enough, good_head, good_all, good_stated, refused_head, whole_ends}
use Rattle.demands.proofs.PrintedLine.{line_printed_lem}

-- ---- what bytes of one sample show, a line each with the sample's number

module _ (columns : Columns) (n : ℕ) where
  abbrev text_of : List (Answer Told) → List ℕ
  text_of [] = []
  text_of (given a ∷ rest) = line n (columns_of columns a) ++ text_of rest
  text_of (refused m ∷ rest) = refused_line m ++ text_of rest
  text_of (refused_at m place ∷ rest) = refused_line m ++ text_of rest

  shown_text_lem : (sh : Shown) → shown_text columns n sh ≡ text_of (shown_of sh)
  unfolding shown_text
  shown_text_lem (shown.Answered a) = sym (append-nil (line n (columns_of columns a)))
  shown_text_lem (shown.Refused m) = sym (append-nil (refused_line m))
  shown_text_lem shown.Nothing = refl

  text_append : (a b : List (Answer Told)) → text_of (a ++ b) ≡ text_of a ++ text_of b
  text_append [] b = refl
  text_append (given x ∷ a) b =
      ap (λ (l : List ℕ). line n (columns_of columns x) ++ l) (text_append a b) ∙ sym (append_assoc (line n (columns_of columns x)) (text_of a) (text_of b))
  text_append (refused m ∷ a) b =
      ap (λ (l : List ℕ). refused_line m ++ l) (text_append a b) ∙ sym (append_assoc (refused_line m) (text_of a) (text_of b))
  text_append (refused_at m place ∷ a) b =
      ap (λ (l : List ℕ). refused_line m ++ l) (text_append a b) ∙ sym (append_assoc (refused_line m) (text_of a) (text_of b))

-- a byte, and what the rest of the sample's bytes show
module _ (columns : Columns) (r : Receiver) (b : ℕ) (l : List ℕ) where
  abbrev next : Receiver
  next = (take_of r b).receiver

  byte_text : piece_text columns next l ≡ text_of columns (number_now r) (shown_all next l)
      → piece_text columns r (b ∷ l) ≡ text_of columns (number_now r) (shown_all r (b ∷ l))
  unfolding piece_text shown_all
  byte_text rest =
      rw (shown_text_lem columns (number_now r) (take_of r b).shown, rest)
      (sym (text_append columns (number_now r) (shown_of (take_of r b).shown) (shown_all next l)))

-- the number stays as long as the sample does; once refused nothing is printed or shown
part_text : (columns : Columns) (r : Receiver) (l : List ℕ) → r.taken % 6 + length l ≤ 6
    → piece_text columns r l ≡ text_of columns (number_now r) (shown_all r l)
unfolding piece_text shown_all
part_text columns r [] h = refl
part_text columns r (b ∷ []) h = byte_text columns r b [] refl
part_text columns r (b ∷ c ∷ l) h = byte_text columns r b (c ∷ l) (cases (step_of r b) (part_text columns (take_of r b).receiver (c ∷ l)))
  where
    at : Receiver
    at = (take_of r b).receiver

    cases : Step r (take_of r b)
        → (at.taken % 6 + length (c ∷ l) ≤ 6 → piece_text columns at (c ∷ l) ≡ text_of columns (number_now at) (shown_all at (c ∷ l)))
        → piece_text columns at (c ∷ l) ≡ text_of columns (number_now r) (shown_all at (c ∷ l))
    cases (inl k) rest =
        let more : at.taken ≡ r.taken + 1 = k.counted in
        let same : number_now at ≡ number_now r = omega arith in
        rest (omega arith) ∙ ap (λ (n : ℕ). text_of columns n (shown_all at (c ∷ l))) same
    cases (inr (m, out)) rest = rw (refused_prints columns at m (c ∷ l) out.after, (refused_stays at m (c ∷ l) out.after).1)

-- ---- a line, six bytes at a time

module _ (columns : Columns) where
  -- the bytes of the sample that k samples stand before print its line
  sample_text : (r : Receiver) (ride : Ride) (stated : ℕ) (bytes : List ℕ) (k : ℕ) → Stands r ride stated (place_of k) → place_of k + 6 ≤ stated
      → piece_text columns r (six bytes k) ≡ shown_text columns (suc k) (turn_of ride (sample_at bytes k)).shown
  unfolding turn_of shown_text
  sample_text r ride stated bytes k at due = cases (eqb ride.ended 0) refl
    where
      cases : (t : Bool) → eqb ride.ended 0 ≡ t → piece_text columns r (six bytes k) ≡ shown_text columns (suc k) (turn_of ride (sample_at bytes k)).shown
      cases true e =
          let taken : r.taken ≡ place_of k = ap (λ (q : Receiver). q.taken) (at.goes e) in
          let number : number_now r ≡ suc k = omega arith in
          part_text columns r (six bytes k) (omega arith)
          ∙ rw (number, (later r ride stated bytes k at due).1, ← turn_paper ride (sample_at bytes k)) (sym (shown_text_lem columns (suc k) (turn_of ride (sample_at bytes k)).shown))
      cases false e = rw (refused_prints columns r ride.ended (six bytes k) (at.stops e).0, e)

  module _ (card : Card) (recording : List ℕ) (s : Session) (head : Opened card recording s) where
    abbrev Text : ℕ → Type 0
    Text k = piece_text columns (fresh_receiver card) (take (place_of k) recording) ≡ lines_of (Answers columns) (fresh_ride s) recording k

    -- the head prints nothing
    head-text : After card recording s head 0 → Text 0
    unfolding lines_of shown_by samples_from
    head-text after =
        let six_bytes : length (take 6 recording) ≡ 6 = length-take-le 6 recording head.enough in
        part_text columns (fresh_receiver card) (take 6 recording) (omega arith) ∙ rw after.shown

    next_text : (k : ℕ) → place_of k + 6 ≤ length recording → place_of k + 6 ≤ long recording 0 → After card recording s head k → Text k → Text (suc k)
    unfolding lines_of turn_text turn_at
    next_text k h p after before =
        let r = after_bytes card (take (place_of k) recording) in
        let here = sample_text r (run_of (fresh_ride s) (first_samples recording k)) (long recording 0) recording k after.place p in
        rw (one_more card recording s head k h, recording_run (fresh_ride s) recording 0 k)
        (piece_append columns (fresh_receiver card) (take (place_of k) recording) (six recording k) ∙ rw (before, here))

    texts : (k : ℕ) → place_of k ≤ length recording → place_of k ≤ long recording 0 → Text k
    texts zero h p = head-text (stands card recording s head 0 h p)
    texts (suc k) h p = next_text k (omega arith) (omega arith) (stands card recording s head k (omega arith) (omega arith)) (texts k (omega arith) (omega arith))

  -- an end that shows nothing prints nothing
  no_end : (r : Receiver) → shown_of (end_of r).shown ≡ [] → end_text columns r ≡ []
  unfolding end_text
  no_end r e = shown_text_lem columns (number_now r) (end_of r).shown ∙ rw e

  -- ---- a good recording and then the end

  module _ (card : Card) (recording : List ℕ) (good : good_recording recording ≡ true) where
    lines_as_whole : (s : Session) → open_session card (train_of recording) ≡ given s
        → piece_text columns (fresh_receiver card) recording ++ end_text columns (after_bytes card recording)
        ≡ lines_of (Answers columns) (fresh_ride s) recording (samples_in recording)
    lines_as_whole s opens =
        let same = good_stated recording good in
        let whole = (good_met recording good).whole in
        let all = texts card recording s (good_head recording good card s opens) (samples_in recording) (omega arith) (omega arith) in
        let end = no_end (after_bytes card recording) (whole_ends card recording good s opens).0 in
        rw (end, append-nil) (rw (good_all recording good) at all)

    refused_text : (n : ℕ)
        → opened_with (begun card (long recording 0) 5) (open_session card (train_of recording)) ≡ refused_with n (begun card (long recording 0) 5)
        → piece_text columns (fresh_receiver card) recording ++ end_text columns (after_bytes card recording) ≡ refused_line n
    refused_text n out =
        let fresh = fresh_receiver card in
        let a = with_status (Refused n) (begun card (long recording 0) 5) in
        let first = take 6 recording in
        let rest = drop 6 recording in
        let e = rw append-nil at (refused_head recording good card n [] out) in
        let r : received_all fresh first ≡ a = ap (λ (z : Receiver × List (Answer Told)). z.0) e in
        let told : shown_all fresh first ≡ refused n ∷ [] = ap (λ (z : Receiver × List (Answer Told)). z.1) e in
        let six_bytes : length first ≡ 6 = length-take-le 6 recording (good_enough recording good) in
        let head : piece_text columns fresh first ≡ refused_line n = part_text columns fresh first (omega arith) ∙ rw told (append-nil (refused_line n)) in
        let cut : recording ≡ first ++ rest = sym (take-append-drop 6 recording) in
        let all : piece_text columns fresh recording ≡ refused_line n =
        ap (piece_text columns fresh) cut ∙ piece_append columns fresh first rest ∙ rw (r, head, refused_prints columns a n rest refl, append-nil) in
        let after : after_bytes card recording ≡ a =
        ap (received_all fresh) cut ∙ ap (λ (z : Receiver × List (Answer Told)). z.0) (refused_head recording good card n rest out) in
        let end : end_text columns a ≡ [] = no_end a (rw (refused_ends a n refl)) in
        rw (all, after, end, append-nil)

    -- where the opening is refused, its line
    text_as_whole : piece_text columns (fresh_receiver card) recording ++ end_text columns (after_bytes card recording)
        ≡ started_text (Answers columns) recording (samples_in recording) (open_session card (train_of recording))
    unfolding started_text opened_with
    text_as_whole = cases (open_session card (train_of recording)) refl
      where
        cases : (a : Answer Session) → open_session card (train_of recording) ≡ a
            → piece_text columns (fresh_receiver card) recording ++ end_text columns (after_bytes card recording) ≡ started_text (Answers columns) recording (samples_in recording) a
        cases (given s) e = lines_as_whole s e
        cases (refused n) e = refused_text n (rw e)
        cases (refused_at n place) e = refused_text n (rw e)

-- ---- so is all that is printed, with any card

pub prints_as_whole : (columns : Columns) (area : List ℕ) (pieces : List (List ℕ)) → good_recording (flatten pieces) ≡ true
    → line_printed columns area pieces ≡ printed_ride columns area (flatten pieces)
unfolding line_printed start_text start_on begun_text line_text printed_ride printed_as card_text
prints_as_whole columns area pieces good = cases (card_in area highest) refl
  where
    cases : (a : Answer Card) → card_in area highest ≡ a → line_printed columns area pieces ≡ printed_ride columns area (flatten pieces)
    cases (given card) read =
        line_printed_lem columns area card pieces read
        ∙ rw (append-nil, text_as_whole columns card (flatten pieces) good, read, starts_good card (flatten pieces) good)
    cases (refused n) read = rw (read, append-nil)
    cases (refused_at n place) read = rw (read, append-nil)
