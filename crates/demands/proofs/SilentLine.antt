-- Demand 3 of what a receiver shows. Receivers whose cards differ in version and later functions alone go alike, byte by byte, as long as no function
-- that differs speaks at a sample that the bytes complete: the head, then the samples, then the end. And so do the lines of two cards.
use Prim.Native.Nat.{ℕ, ◌+◌, ◌%◌, ◌<◌, ◌≤◌}
use native.Mathlib.Omega.{arith}
use mathlib.Core.Bool.{Bool, true, false}
use mathlib.Core.Path.{◌≡◌, refl, ap, ◌∙◌}
use mathlib.Core.List.{List, [], ◌∷◌, flatten}
use lib.Dec.{eqb, ltb, lit<}
use borrow.Author.Tests.{eqb-true, eqb-false, ltb-true, ltb-false}
use Rattle.std.specs.Prelude.{Ok, Err}
use Rattle.leaf.specs.Choosing.{pick}
use Rattle.leaf.specs.Answers.{Answer, given, refused, refused_at}
use Rattle.step_laws.proofs.Choosing.{pick_has}
use Rattle.card.specs.declared.Card.{Card}
use Rattle.card.specs.Card.{Same}
use Rattle.card.specs.Reading.{card_in}
use Rattle.card.proofs.Silence.{card_silence}
use Rattle.session.specs.declared.Sample.{Sample}
use Rattle.session.specs.declared.Session.{Session}
use Rattle.session.specs.Session.{Outcome}
use Rattle.session.specs.Types.{type_allowed}
use Rattle.session.specs.Session.{fresh_session, open_session, card_inside, ran_of, sample_of}
use Rattle.session.specs.Runs.{accepted}
use Rattle.session.proofs.Runs.{accepted_runs, refused_stays}
use Rattle.rides.specs.Ride.{number_of, fresh_ride, told_of, turn_of}
use Rattle.rides.specs.declared.ride.Turned.{Turned}
use Rattle.receiver.specs.Receiver.{with_stated, with_part, with_session, with_status, counted_in, no_part, fresh_receiver, quietly, refused_with, head_fits, stated_with, opened_with, head_takes, place_in, part_fits, part_with, completed_by, sample_takes, open_takes, take_as, take_of, whole_in, end_as, end_of, received_all, shown_all}
use Rattle.receiver.specs.declared.Receiver.{Receiver}
use Rattle.receiver.specs.declared.Received.{Received}
use Rattle.receiver.specs.declared.Status.{Status}
use Rattle.receiver.specs.declared.Status.TheVariants.{Open, Ended, Refused}
use Rattle.receiver.proofs.Receivers.{received_cut, shown_cut, past_takes, head_takes_lem, sample_takes_lem}
use Rattle.receiver.proofs.SixBytes.{held}
use Rattle.printed.specs.declared.Columns.{Columns}
use Rattle.printed_pieces.specs.Pieces.{piece_text, end_text}
use Rattle.demands.specs.Demand3.{SameSpeaking, SameWithout}
use Rattle.demands.specs.Speaks.{later_functions, differing_speaks}
use Rattle.demands.specs.Pieces.{line_on, line_of, after_bytes, shown_bytes, Answers, NoneSpeaks}
use Rattle.demands.proofs.Later.{later, AllSilent, all_silent, all_fresh, all_stay}
use Rattle.demands.proofs.Alike.{entries, beside, BothInside, Quiet, refusal_alike, ran_alike}
use Rattle.demands.proofs.Cards.{its_range, opens}
use Rattle.demands.proofs.Line.{turn_session}
use Rattle.demands.proofs.Demand3.{settings_alike, says_same, version_one, version_two}
use Rattle.demands.proofs.Hushed.{card_kept, hushed}
use Rattle.session.proofs.Opening.{opening_fresh}

-- ---- the line

-- refused is not open
shut_out : (n : ℕ) → Refused n ≡ Open → ⊥
shut_out n e = let z : ◌≡◌ {A = ℕ} 0 1 = cc in omega arith

module _ (t : Card) where
  -- on a card with the later functions of t, all else as it is
  abbrev beside_r : Receiver → Receiver
  beside_r r = with_session (beside t r.session) r

  abbrev beside_turned : Turned → Turned
  beside_turned turned = record { ride = record { session = beside t turned.ride.session; ended = turned.ride.ended }; shown = turned.shown }

  abbrev beside_got : Received → Received
  beside_got got = record { receiver = beside_r got.receiver; shown = got.shown }

  -- ---- one sample

  -- an accepted one is answered
  answered : (u : Session) (x : Sample) → accepted u x ≡ true → Answers (turn_of (fresh_ride u) x).shown
  unfolding turn_of told_of ran_of
  answered u x e = rw (accepted_runs u x e) tt

  module _ (u : Session) (x : Sample) (both : BothInside t u) (quiet : Quiet t u) (none : accepted u x ≡ true → differing_speaks u t x ≡ false) where
    silent_at : accepted u x ≡ true → AllSilent later_functions u t x
    unfolding differing_speaks
    silent_at e = all_silent later_functions u t x (none e)

    -- it is refused alike, or run alike
    sampled_alike : sample_of (beside t u) x ≡ record { session = beside t (sample_of u x).session; outcome = (sample_of u x).outcome }
    sampled_alike = cases (accepted u x) refl
      where
        cases : (a : Bool) → accepted u x ≡ a
            → sample_of (beside t u) x ≡ record { session = beside t (sample_of u x).session; outcome = (sample_of u x).outcome }
        cases true e =
            rw (accepted_runs u x e, accepted_runs (beside t u) x (rw (refusal_alike t u x both) e), ran_alike t u x both quiet (silent_at e))
        cases false e =
            rw (refused_stays u x e, refused_stays (beside t u) x (rw (refusal_alike t u x both) e), refusal_alike t u x both)

    -- and what holds of both sessions still holds
    both_after : BothInside t (sample_of u x).session × Quiet t (sample_of u x).session
    unfolding ran_of
    both_after = cases (accepted u x) refl
      where
        ran_after : accepted u x ≡ true → BothInside t (ran_of u x).session × Quiet t (ran_of u x).session
        ran_after e = (both, all_stay entries u t x quiet (silent_at e))

        cases : (a : Bool) → accepted u x ≡ a → BothInside t (sample_of u x).session × Quiet t (sample_of u x).session
        cases true e = rw (accepted_runs u x e) (ran_after e)
        cases false e = rw (refused_stays u x e) (both, quiet)

    turn_alike : turn_of (fresh_ride (beside t u)) x ≡ beside_turned (turn_of (fresh_ride u) x)
    unfolding turn_of told_of
    turn_alike = rw sampled_alike (told (sample_of u x).session (sample_of u x).outcome)
      where
        told : (v : Session) (o : Outcome) → told_of (beside t v) o ≡ beside_turned (told_of v o)
        told v (Ok a) = refl
        told v (Err why) = refl

  -- ---- one byte

  module _ (s : Card) (inside : card_inside s ≡ true) (also : card_inside (later s t) ≡ true) where
    -- a receiver on card s: in the head, in the samples, or no longer open
    data Place : Receiver → Type 0 where
      head : (stated taken : ℕ) → taken < 6 → Place (held (fresh_session s 0) stated taken no_part)
      within : (u : Session) (stated taken : ℕ) (part : Sample) → 6 ≤ taken → BothInside t u → Quiet t u → Place (held u stated taken part)
      over : {r : Receiver} → (r.status ≡ Open → ⊥) → Place r

    -- the byte does the same beside t
    abbrev Alike : Received → Received → Type 0
    Alike got other = (other ≡ beside_got got) × Place got.receiver

    -- refused with the same number
    refused_alike : (n : ℕ) (r : Receiver) → Alike (refused_with n r) (refused_with n (beside_r r))
    unfolding refused_with
    refused_alike n r = (refl, over (shut_out _))

    -- byte 5: opened alike, or 7 for both
    opened_alike : (b stated taken : ℕ) → taken ≡ 5
        → Alike (opened_with (held (fresh_session s 0) stated taken no_part) (open_session s b))
        (opened_with (beside_r (held (fresh_session s 0) stated taken no_part)) (open_session (later s t) b))
    unfolding opened_with
    opened_alike b stated taken five = rw (opens s b inside, opens (later s t) b also) (cases (type_allowed b s.settings.vmax))
      where
        r : Receiver
        r = held (fresh_session s 0) stated taken no_part

        cases : (allowed : Bool)
            → Alike (opened_with r (pick allowed (given (fresh_session s b)) (refused 7)))
            (opened_with (beside_r r) (pick allowed (given (fresh_session (later s t) b)) (refused 7)))
        cases true = (refl, within (fresh_session s b) stated (taken + 1) no_part (omega arith) (inside, also) (all_fresh entries s t))
        cases false = refused_alike 7 r

    -- a byte of the head
    head_alike : (b stated taken : ℕ) → taken < 6
        → Alike (head_takes (held (fresh_session s 0) stated taken no_part) b) (head_takes (beside_r (held (fresh_session s 0) stated taken no_part)) b)
    unfolding head_takes
    head_alike b stated taken low = cases (head_fits stated taken b) (eqb taken 5) refl
      where
        r : Receiver
        r = held (fresh_session s 0) stated taken no_part

        next : ℕ
        next = stated_with stated taken b

        cases : (fits five : Bool) → eqb taken 5 ≡ five
            → Alike (pick fits (pick five (opened_with r (open_session s b)) (quietly (counted_in (with_stated next r)))) (refused_with 14 r))
            (pick fits (pick five (opened_with (beside_r r) (open_session (later s t) b)) (quietly (counted_in (with_stated next (beside_r r))))) (refused_with 14 (beside_r r)))
        cases true true e = opened_alike b stated taken (eqb-true taken 5 e)
        cases true false e = (refl, let other = eqb-false taken 5 e in head next (taken + 1) (omega arith))
        cases false five e = refused_alike 14 r

    -- a byte of a sample: it is kept, it completes the sample, or it is 9 for both
    sample-alike : (b : ℕ) (u : Session) (stated taken : ℕ) (part : Sample) → 6 ≤ taken → BothInside t u → Quiet t u
        → (Answers (sample_takes (held u stated taken part) b).shown → differing_speaks u t (part_with part (taken % 6) b) ≡ false)
        → Alike (sample_takes (held u stated taken part) b) (sample_takes (beside_r (held u stated taken part)) b)
    unfolding sample_takes completed_by
    sample-alike b u stated taken part high both quiet none = cases (part_fits (taken % 6) b) (eqb (taken % 6) 5) none
      where
        r : Receiver
        r = held u stated taken part

        x : Sample
        x = part_with part (taken % 6) b

        turned : Turned
        turned = turn_of (fresh_ride u) x

        next : (accepted u x ≡ true → differing_speaks u t x ≡ false) → Place (counted_in (with_part no_part (with_session turned.ride.session r)))
        next none =
            let after = both_after u x both quiet none in
            rw (turn_session u x) (within (sample_of u x).session stated (taken + 1) no_part (omega arith) after.0 after.1)

        completed : (accepted u x ≡ true → differing_speaks u t x ≡ false) → (going : Bool)
            → Alike
            (record { receiver = pick going (counted_in (with_part no_part (with_session turned.ride.session r))) (with_status (Refused turned.ride.ended) r); shown = turned.shown })
            (record { receiver = pick going (counted_in (with_part no_part (with_session (beside t turned.ride.session) (beside_r r)))) (with_status (Refused turned.ride.ended) (beside_r r)); shown = turned.shown })
        completed none true = (refl, next none)
        completed none false = (refl, over (shut_out _))

        cases : (fits last : Bool)
            → (Answers (pick fits (pick last (completed_by r turned) (quietly (counted_in (with_part x r)))) (refused_with 9 r)).shown → differing_speaks u t x ≡ false)
            → Alike (pick fits (pick last (completed_by r turned) (quietly (counted_in (with_part x r)))) (refused_with 9 r))
            (pick fits (pick last (completed_by (beside_r r) (turn_of (fresh_ride (beside t u)) x)) (quietly (counted_in (with_part x (beside_r r))))) (refused_with 9 (beside_r r)))
        cases true true none =
            let silent : accepted u x ≡ true → differing_speaks u t x ≡ false = λ e. none (answered u x e) in
            rw (turn_alike u x both quiet silent) (completed silent (eqb turned.ride.ended 0))
        cases true false none = (refl, within u stated (taken + 1) x (omega arith) both quiet)
        cases false last none = refused_alike 9 r

    -- any byte
    byte_alike : (b : ℕ) (r : Receiver) → Place r → (Answers (take_of r b).shown → differing_speaks r.session t (part_with r.part (place_in r) b) ≡ false)
        → Alike (take_of r b) (take_of (beside_r r) b)
    unfolding take_of take_as
    byte_alike b r (head stated taken low) none =
        let q : Receiver = held (fresh_session s 0) stated taken no_part in
        rw (head_takes_lem q b refl low, head_takes_lem (beside_r q) b refl low) (head_alike b stated taken low)
    byte_alike b r (within u stated taken part high both quiet) none = cases (ltb taken stated) refl
      where
        q : Receiver
        q = held u stated taken part

        cases : (due : Bool) → ltb taken stated ≡ due → Alike (take_of q b) (take_of (beside_r q) b)
        cases true e =
            let p = ltb-true taken stated e in
            rw (sample_takes_lem q b refl high p, sample_takes_lem (beside_r q) b refl high p) (sample-alike b u stated taken part high both quiet (rw (sample_takes_lem q b refl high p) at none))
        cases false e =
            let p = ltb-false taken stated e in
            rw (past_takes q b refl high p, past_takes (beside_r q) b refl high p) (refused_alike 14 q)
    byte_alike b r (over shut) none = cases r.status refl
      where
        cases : (now : Status) → r.status ≡ now → Alike (take_as now r b) (take_as now (beside_r r) b)
        cases Open e = absurd (shut e)
        cases Ended e = refused_alike 14 r
        cases (Refused n) e = (refl, over shut)

    -- ---- all the bytes

    received_alike : (r : Receiver) (bytes : List ℕ) → Place r → NoneSpeaks t r bytes → received_all (beside_r r) bytes ≡ beside_r (received_all r bytes)
    unfolding received_all
    received_alike r [] place none = refl
    received_alike r (b ∷ rest) place none =
        let p = byte_alike b r place none.0 in
        rw p.0 (received_alike (take_of r b).receiver rest p.1 none.1)

    shown_alike : (r : Receiver) (bytes : List ℕ) → Place r → NoneSpeaks t r bytes → shown_all (beside_r r) bytes ≡ shown_all r bytes
    unfolding shown_all
    shown_alike r [] place none = refl
    shown_alike r (b ∷ rest) place none =
        let p = byte_alike b r place none.0 in
        rw (p.0, shown_alike (take_of r b).receiver rest p.1 none.1)

    printed_alike : (columns : Columns) (r : Receiver) (bytes : List ℕ) → Place r → NoneSpeaks t r bytes → piece_text columns (beside_r r) bytes ≡ piece_text columns r bytes
    unfolding piece_text
    printed_alike columns r [] place none = refl
    printed_alike columns r (b ∷ rest) place none =
        let p = byte_alike b r place none.0 in
        rw (p.0, printed_alike columns (take_of r b).receiver rest p.1 none.1)

    -- a fresh receiver is in the head
    fresh_place : Place (fresh_receiver s)
    fresh_place = head 0 0 (lit< tt)

  -- ---- the end

  end_alike : (r : Receiver) → end_of (beside_r r) ≡ beside_got (end_of r)
  unfolding end_of end_as refused_with
  end_alike r = cases r.status
    where
      whole : Bool → Receiver → Received
      whole all q = pick all (quietly (with_status Ended q)) (refused_with 14 q)

      open_end : (all : Bool) → whole all (beside_r r) ≡ beside_got (whole all r)
      open_end true = refl
      open_end false = refl

      cases : (now : Status) → end_as now (beside_r r) ≡ beside_got (end_as now r)
      cases Open = open_end (whole_in r)
      cases Ended = refl
      cases (Refused n) = refl

-- ---- two cards

-- of cards that are the same but for version and later functions, and bytes at which none that differs speaks
module _ (s t : Card) (one : t ≡ later s t) (inside : card_inside s ≡ true) (also : card_inside t ≡ true) (bytes : List ℕ) (none : NoneSpeaks t (fresh_receiver s) bytes) where
  also_later : card_inside (later s t) ≡ true
  also_later = rw one at also

  place : Place t s inside also_later (fresh_receiver s)
  place = fresh_place t s inside also_later

  -- the receivers differ in later functions alone, and the same is shown
  after_alike : after_bytes t bytes ≡ beside_r t (after_bytes s bytes)
  after_alike = ap (λ (q : Card). after_bytes q bytes) one ∙ received_alike t s inside also_later (fresh_receiver s) bytes place none

  answers_alike : shown_bytes t bytes ≡ shown_bytes s bytes
  answers_alike = ap (λ (q : Card). shown_bytes q bytes) one ∙ shown_alike t s inside also_later (fresh_receiver s) bytes place none

  -- and as printed, with the end
  pub text_alike : (columns : Columns) → piece_text columns (fresh_receiver t) bytes ≡ piece_text columns (fresh_receiver s) bytes
  text_alike columns =
      ap (λ (q : Card). piece_text columns (fresh_receiver q) bytes) one ∙ printed_alike t s inside also_later columns (fresh_receiver s) bytes place none

  pub end_text_alike : (columns : Columns) → end_text columns (after_bytes t bytes) ≡ end_text columns (after_bytes s bytes)
  unfolding end_text
  end_text_alike columns = rw (after_alike, end_alike t (after_bytes s bytes))

  line_alike : (pieces : List (List ℕ)) → flatten pieces ≡ bytes → line_on s pieces ≡ line_on t pieces
  line_alike pieces cut =
      rw (received_cut (fresh_receiver s) pieces, received_cut (fresh_receiver t) pieces, shown_cut (fresh_receiver s) pieces, shown_cut (fresh_receiver t) pieces, cut, after_alike, answers_alike, end_alike t (after_bytes s bytes))

-- ---- version 1 and 2: no function differs

-- no byte changes the card of a receiver's session
module _ (r : Receiver) where
  abbrev Carded : Received → Type 0
  Carded got = got.receiver.session.card ≡ r.session.card

  refused_carded : (n : ℕ) → Carded (refused_with n r)
  unfolding refused_with
  refused_carded n = refl

  opened_carded : (a : Answer Session) (train : ℕ) → open_session r.session.card train ≡ a → Carded (opened_with r a)
  unfolding opened_with
  opened_carded (given s) train e = ap (λ (q : Session). q.card) (opening_fresh r.session.card train s e)
  opened_carded (refused n) train e = refused_carded n
  opened_carded (refused_at n place) train e = refused_carded n

  head_carded : (b : ℕ) → Carded (head_takes r b)
  unfolding head_takes
  head_carded b =
      pick_has Carded (head_fits r.stated r.taken b)
      (pick_has Carded (eqb r.taken 5) (opened_carded (open_session r.session.card b) b refl) refl) (refused_carded 14)

  told_carded : (u : Session) (o : Outcome) → u.card ≡ r.session.card → Carded (completed_by r (told_of u o))
  unfolding completed_by told_of refused_with
  told_carded u (Ok a) e = e
  told_carded u (Err why) e = cases (eqb (number_of why) 0)
    where
      cases : (none : Bool) → (pick none (counted_in (with_part no_part (with_session u r))) (with_status (Refused (number_of why)) r)).session.card ≡ r.session.card
      cases true = e
      cases false = refl

  sample_carded : (b : ℕ) → Carded (sample_takes r b)
  unfolding sample_takes turn_of
  sample_carded b =
      let x : Sample = part_with r.part (place_in r) b in
      pick_has Carded (part_fits (place_in r) b)
      (pick_has Carded (eqb (place_in r) 5) (told_carded (sample_of r.session x).session (sample_of r.session x).outcome (card_kept r.session x)) refl) (refused_carded 9)

  card_stays : (b : ℕ) → Carded (take_of r b)
  unfolding take_of take_as open_takes
  card_stays b = cases r.status
    where
      cases : (now : Status) → Carded (take_as now r b)
      cases Open = pick_has Carded (ltb r.taken 6) (head_carded b) (pick_has Carded (ltb r.taken r.stated) (sample_carded b) (refused_carded 14))
      cases Ended = refused_carded 14
      cases (Refused n) = refl

module _ (s t : Card) (says : t.settings ≡ s.settings) (one : s.version ≡ 1) (two : t.version ≡ 2) where
  pub none_speaks : (r : Receiver) (bytes : List ℕ) → r.session.card ≡ s → NoneSpeaks t r bytes
  none_speaks r [] e = tt
  none_speaks r (b ∷ rest) e =
      (λ shown. hushed s t says one two r.session (part_with r.part (place_in r) b) e, none_speaks (take_of r b).receiver rest (card_stays r b ∙ e))

-- ---- the statements

pub silent_bytes : (a b : List ℕ) (h : ℕ) → SameSpeaking a b → (pieces : List (List ℕ)) → line_of b h pieces ≡ line_of a h pieces
silent_bytes a b h m pieces = rw (card_silence a b h m.whole_a m.whole_b m.same)

module _ (a b : List ℕ) (h g : ℕ) (s t : Card) (read_a : card_in a h ≡ given s) (read_b : card_in b g ≡ given t) where
  pub functions_silent : Same a b 3 39 → (pieces : List (List ℕ)) → NoneSpeaks t (fresh_receiver s) (flatten pieces) → line_of a h pieces ≡ line_of b g pieces
  functions_silent same pieces none =
      rw (read_a, read_b)
      (ap given (line_alike s t (settings_alike a b h g s t read_a read_b same) (its_range a h s read_a) (its_range b g t read_b) (flatten pieces) none pieces refl))

  pub versions_quiet : SameWithout a b → (bytes : List ℕ) → NoneSpeaks t (fresh_receiver s) bytes
  versions_quiet m bytes =
      none_speaks s t (says_same a b h g s t read_a read_b m) (version_one a b h g s t read_a read_b m) (version_two a b h g s t read_a read_b m) (fresh_receiver s) bytes refl

  pub versions_silent : SameWithout a b → (pieces : List (List ℕ)) → line_of a h pieces ≡ line_of b g pieces
  versions_silent m pieces = functions_silent m.common pieces (versions_quiet m (flatten pieces))
