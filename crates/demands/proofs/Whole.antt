-- A line and the whole ride: a good recording and then the end are answered as the whole; a line that is not refused has shown the answers of
-- its complete samples; an end is good exactly where the bytes are a good recording.
use Prim.Native.Nat.{ℕ, suc, ◌+◌, ◌*◌, ◌-◌, ◌/◌, ◌%◌, ◌≤◌, ◌<◌}
use native.Mathlib.Omega.{arith}
use mathlib.Core.Path.{◌≡◌, refl, sym, ap, ◌∙◌}
use mathlib.Core.Bool.{Bool, true, false}
use mathlib.Core.List.{List, [], ◌∷◌, ◌++◌, append-nil}
use mathlib.Core.Logic.{◌⊎◌, inl, inr}
use lib.Dec.{eqb, leb}
use lib.ListN.{length, take, drop, take-append-drop, length-map, length-drop}
use lib.Seq.{take_all, length-take-le}
use borrow.Author.Tests.{eqb-true, leb-true, le-leb, eq-eqb}
use Rattle.leaf.specs.Choosing.{and_split}
use Rattle.leaf.specs.Answers.{Answer, given, refused, refused_at}
use Rattle.leaf.specs.Bytes.{byte, long}
use Rattle.card.specs.declared.Card.{Card}
use Rattle.step.specs.declared.Answer.{Answer as Told}
use Rattle.session.specs.declared.Sample.{Sample}
use Rattle.session.specs.declared.Session.{Session}
use Rattle.session.specs.Session.{open_session, sample_of, outcome_of}
use Rattle.session.specs.Runs.{after, outcomes}
use Rattle.rides.specs.Recording.{good_recording, RecordingMet, samples_in, train_of, place_of, first_samples, samples_of}
use Rattle.rides.specs.Ride.{fresh_ride, shown_of, run_of, shown_by, shown_from, whole_ride}
use Rattle.rides.specs.declared.ride.Ride.{Ride}
use Rattle.rides.specs.declared.ride.Shown.TheVariants.{Nothing}
use Rattle.rides.proofs.Recordings.{good_met, met_good}
use Rattle.rides.proofs.Refusals.{starts_good}
use Rattle.receiver.specs.Receiver.{with_status, fresh_receiver, refused_with, length_fits, opened_with, take_of, whole_in, end_of, received_all, shown_all, between_samples}
use Rattle.receiver.specs.declared.Receiver.{Receiver}
use Rattle.receiver.specs.declared.Received.{Received}
use Rattle.receiver.specs.declared.Status.{Status}
use Rattle.receiver.specs.declared.Status.TheVariants.{Open, Ended, Refused}
use Rattle.receiver.proofs.Receivers.{received_append, shown_append, refused_ends, good_end, early_end, past_takes}
use Rattle.receiver.proofs.SixBytes.{both, fault}
use Rattle.receiver.proofs.Head.{length_met, met_length, begun, head_refuses}
use Rattle.receiver.proofs.Steps.{Step, step_of, kept-open}
use Rattle.laws.specs.Ranges.{Inside}
use Rattle.laws.proofs.Ranges.{inside_only}
use Rattle.demands.specs.Demand1.{Exactly}
use Rattle.demands.specs.Pieces.{after_bytes, shown_bytes, Going, after_end, shown_to_end, as_shown, ended_by, AsWhole, AtOnce, Due, at_end, EndAs}
use Rattle.demands.specs.Pieces as paper
use Rattle.demands.proofs.Answered.{exactly}
use Rattle.demands.proofs.Line.{still_open, open_before, Opened, head_bytes, stated_low, samples_length, Stands, stands, gone, due_between}

-- ---- 2. a good recording

-- its head
module _ (recording : List ℕ) (good : good_recording recording ≡ true) where
  pub good_first : (byte recording 0 ≡ 0) × (byte recording 1 ≡ 0)
  unfolding long
  good_first = let m = good_met recording good in (omega (arith, m.stated, m.whole, m.few), omega (arith, m.stated, m.whole, m.few))

  pub good_fits : length_fits (long recording 0) ≡ true
  good_fits =
      let m = good_met recording good in
      met_length (long recording 0) (omega (arith, m.stated, m.whole)) (omega (arith, m.stated, m.whole, m.few)) (omega (arith, m.stated, m.whole))

  pub good_enough : 6 ≤ length recording
  good_enough = let whole = (good_met recording good).whole in omega arith

  pub good_head : (card : Card) (s : Session) → open_session card (train_of recording) ≡ given s → Opened card recording s
  good_head card s opens =
      record {
        enough = good_enough;
        first_none = good_first.0;
        second_none = good_first.1;
        fits = good_fits;
        version = (good_met recording good).version;
        opens = opens;
      }

  -- all of its samples
  pub good_all : take (place_of (samples_in recording)) recording ≡ recording
  good_all = let whole = (good_met recording good).whole in take_all (place_of (samples_in recording)) recording (omega arith)

  pub good_stated : place_of (samples_in recording) ≡ long recording 0
  good_stated = let m = good_met recording good in omega (arith, m.stated, m.whole)

  -- where the opening is refused, so is the line at the head's last byte, whatever follows
  pub refused_head : (card : Card) (n : ℕ) (rest : List ℕ)
      → opened_with (begun card (long recording 0) 5) (open_session card (train_of recording)) ≡ refused_with n (begun card (long recording 0) 5)
      → both (fresh_receiver card) (take 6 recording ++ rest) ≡ (with_status (Refused n) (begun card (long recording 0) 5), refused n ∷ [])
  refused_head card n rest e =
      let stated = stated_low recording good_first.0 good_first.1 in
      rw (head_bytes recording good_enough, good_first.0, good_first.1, (good_met recording good).version, stated)
      (head_refuses card (byte recording 2) (byte recording 3) (byte recording 5) n rest (rw stated at good_fits) (rw stated at e))

-- a receiver that stands where a ride stands, with all stated bytes in, ends as the ride does
ending : (r : Receiver) (ride : Ride) (stated : ℕ) → Stands r ride stated stated → 6 ≤ stated
    → (shown_of (end_of r).shown ≡ []) × ((end_of r).receiver.session ≡ ride.session) × ((end_of r).receiver.status ≡ ended_by ride.ended)
ending r ride stated at h = cases (eqb ride.ended 0) refl
  where
    cases : (t : Bool) → eqb ride.ended 0 ≡ t
        → (shown_of (end_of r).shown ≡ []) × ((end_of r).receiver.session ≡ ride.session) × ((end_of r).receiver.status ≡ ended_by ride.ended)
    cases true e =
        let b = between_samples ride.session stated stated in
        let w : whole_in b ≡ true = rw (le-leb _ _ h, eq-eqb stated stated refl) in
        rw (at.goes e, good_end b refl w, e) (refl, refl, refl)
    cases false e = rw (refused_ends r ride.ended (at.stops e).0, e) (refl, (at.stops e).1, (at.stops e).0)

module _ (card : Card) (recording : List ℕ) (good : good_recording recording ≡ true) where
  module _ (s : Session) (opens : open_session card (train_of recording) ≡ given s) where
    abbrev ride : Ride
    ride = run_of (fresh_ride s) (samples_of recording)

    whole_stands : Stands (after_bytes card recording) ride (long recording 0) (long recording 0) × (shown_bytes card recording ≡ shown_by (fresh_ride s) (samples_of recording))
    whole_stands =
        let same = good_stated recording good in
        let whole = (good_met recording good).whole in
        let at = stands card recording s (good_head recording good card s opens) (samples_in recording) (omega arith) (omega arith) in
        (rw (good_all recording good, same) at at.place, rw (good_all recording good) at at.shown)

    pub whole_ends : (shown_of (end_of (after_bytes card recording)).shown ≡ []) × ((after_end card recording).session ≡ ride.session) × ((after_end card recording).status ≡ ended_by ride.ended)
    whole_ends =
        let same = good_stated recording good in
        ending (after_bytes card recording) ride (long recording 0) whole_stands.0 (omega arith)

  refused_whole : (n : ℕ)
      → opened_with (begun card (long recording 0) 5) (open_session card (train_of recording)) ≡ refused_with n (begun card (long recording 0) 5)
      → shown_to_end card recording ≡ refused n ∷ []
  refused_whole n out =
      let a = with_status (Refused n) (begun card (long recording 0) 5) in
      let e = ap (both (fresh_receiver card)) (sym (take-append-drop 6 recording)) ∙ refused_head recording good card n (drop 6 recording) out in
      let r : after_bytes card recording ≡ a = ap (λ (z : Receiver × List (Answer Told)). z.0) e in
      let told : shown_bytes card recording ≡ refused n ∷ [] = ap (λ (z : Receiver × List (Answer Told)). z.1) e in
      rw (told, r, refused_ends a n refl)

  opened_shows : (a : Answer Session) → open_session card (train_of recording) ≡ a → shown_to_end card recording ≡ as_shown (shown_from a (samples_of recording))
  unfolding opened_with
  opened_shows (given s) e = rw ((whole_stands s e).1, (whole_ends s e).0, append-nil)
  opened_shows (refused n) e = refused_whole n (rw e)
  opened_shows (refused_at n place) e = refused_whole n (rw e)

  pub answers_as_whole : shown_to_end card recording ≡ as_shown (whole_ride card recording)
  unfolding whole_ride
  answers_as_whole = rw (starts_good card recording good) (opened_shows (open_session card (train_of recording)) refl)

pub ends_as_whole : (card : Card) (recording : List ℕ) (s : Session) → good_recording recording ≡ true
    → open_session card (train_of recording) ≡ given s → AsWhole card recording s
ends_as_whole card recording s good opens =
    let e = whole_ends card recording good s opens in
    record { session = e.1; status = e.2 }

-- ---- bytes of a line that stays open

taken-open : (r : Receiver) (l : List ℕ) → (received_all r l).status ≡ Open → (received_all r l).taken ≡ r.taken + length l
unfolding received_all
taken-open r [] o = omega arith
taken-open r (b ∷ l) o = omega (arith, (kept-open r b l o).counted, taken-open (take_of r b).receiver l o)

-- behind the head the stated length stays
stated-open : (r : Receiver) (l : List ℕ) → 6 ≤ r.taken → (received_all r l).status ≡ Open → (received_all r l).stated ≡ r.stated
unfolding received_all
stated-open r [] h o = refl
stated-open r (b ∷ l) h o =
    let k = kept-open r b l o in
    stated-open (take_of r b).receiver l (omega (arith, k.counted)) o ∙ k.stated h

-- bytes never end a line
never_ended : (r : Receiver) (l : List ℕ) → (r.status ≡ Ended → ⊥) → (received_all r l).status ≡ Ended → ⊥
unfolding received_all
never_ended r [] n e = n e
never_ended r (b ∷ l) n e = never_ended (take_of r b).receiver l (cases (step_of r b)) e
  where
    cases : Step r (take_of r b) → (take_of r b).receiver.status ≡ Ended → ⊥
    cases (inl k) z = let going = k.going in let y : ◌≡◌ {A = ℕ} 0 1 = cc in omega arith
    cases (inr (m, out)) z = let after = out.after in let y : ◌≡◌ {A = ℕ} 0 1 = cc in omega arith

-- inside a sample a refusal is all that is shown
abbrev told_by : Status → List (Answer Told)
told_by (Refused n) = refused n ∷ []
told_by Open = []
told_by Ended = []

pub shown_inside : (r : Receiver) (l : List ℕ) → r.status ≡ Open → r.taken % 6 + length l < 6 → shown_all r l ≡ told_by (received_all r l).status
unfolding received_all shown_all
shown_inside r [] o h = rw o
shown_inside r (b ∷ l) o h = cases (step_of r b) (shown_inside (take_of r b).receiver l)
  where
    next : Receiver
    next = (take_of r b).receiver

    cases : Step r (take_of r b) → (next.status ≡ Open → next.taken % 6 + length l < 6 → shown_all next l ≡ told_by (received_all next l).status)
        → shown_of (take_of r b).shown ++ shown_all next l ≡ told_by (received_all next l).status
    cases (inl k) rest = shows k.shows
      where
        shows : ((take_of r b).shown ≡ Nothing) ⊎ (r.taken % 6 ≡ 5) → shown_of (take_of r b).shown ++ shown_all next l ≡ told_by (received_all next l).status
        shows (inl none) = rw none (rest k.going (omega (arith, k.counted)))
        shows (inr five) = absurd (omega arith)
    cases (inr (n, out)) rest =
        let all = fault r n b l (out.now o) in
        ap (λ (q : Receiver × List (Answer Told)). q.1) all ∙ sym (ap (λ (q : Receiver × List (Answer Told)). told_by q.0.status) all)

quiet_open : (r : Receiver) (l : List ℕ) → r.taken % 6 + length l < 6 → (received_all r l).status ≡ Open → shown_all r l ≡ []
quiet_open r l h o = shown_inside r l (still_open r l o) h ∙ rw o

-- so bytes behind the last complete sample show nothing
pub shown_complete : (card : Card) (bytes : List ℕ) (k j : ℕ) → length bytes ≡ 6 + 6 * k + j → j < 6 → Going card bytes
    → shown_bytes card bytes ≡ shown_bytes card (take (place_of k) bytes)
shown_complete card bytes k j n few going =
    let first = take (place_of k) bytes in
    let rest = drop (place_of k) bytes in
    let cut : bytes ≡ first ++ rest = sym (take-append-drop (place_of k) bytes) in
    let still : (received_all (fresh_receiver card) (first ++ rest)).status ≡ Open = ap (λ (l : List ℕ). (after_bytes card l).status) (sym cut) ∙ going in
    let taken = taken-open (fresh_receiver card) first (open_before (fresh_receiver card) first rest still) in
    let short : (after_bytes card first).taken % 6 + length rest < 6 = omega (arith, taken, length-take-le (place_of k) bytes (omega arith), length-drop (place_of k) bytes) in
    let none = quiet_open (after_bytes card first) rest short (rw (received_append (fresh_receiver card) first rest) at still) in
    ap (shown_bytes card) cut ∙ shown_append (fresh_receiver card) first rest ∙ rw (none, append-nil)

pub head_shows_none : (card : Card) (bytes : List ℕ) → length bytes < 6 → Going card bytes → shown_bytes card bytes ≡ []
head_shows_none card bytes h going = quiet_open (fresh_receiver card) bytes (omega arith) going

-- ---- 3. complete samples

outcomes-length : (s : Session) (xs : List Sample) → length (outcomes s xs) ≡ length xs
unfolding outcomes
outcomes-length s [] = refl
outcomes-length s (x ∷ xs) = ap suc (outcomes-length (sample_of s x).session xs)

pub at_once : (card : Card) (bytes : List ℕ) (k j : ℕ) → length bytes ≡ 6 + 6 * k + j → j < 6 → Going card bytes
    → AtOnce card bytes k
at_once card bytes k j n few going =
    let g = gone card bytes k (omega arith) going in
    let s = g.session in
    let xs = first_samples bytes k in
    let r = between_samples (after s xs) (long bytes 0) (place_of k) in
    let first = take (place_of k) bytes in
    let rest = drop (place_of k) bytes in
    let cut : bytes ≡ first ++ rest = sym (take-append-drop (place_of k) bytes) in
    let holds : after_bytes card bytes ≡ received_all r rest =
    ap (after_bytes card) cut ∙ received_append (fresh_receiver card) first rest ∙ ap (λ (q : Receiver). received_all q rest) g.place in
    let answers = shown_complete card bytes k j n few going ∙ g.shown in
    record {
      opened = s;
      opens = g.head.opens;
      accepted = g.accepted;
      answers = answers;
      as_many = ap length answers ∙ length-map (outcomes s xs) outcome_of ∙ outcomes-length s xs ∙ samples_length bytes k;
      holds = holds;
    }

-- ---- 4.

pub inside : (card : Card) (before : List ℕ) → Due card before → Inside (after_bytes card before).session
inside card before d = inside_only (after_bytes card before).session (due_between card before d).1

-- ---- 5. all stated bytes in

module _ (card : Card) (bytes : List ℕ) (going : Going card bytes) (enough : 6 ≤ length bytes) where
  full : length bytes ≡ long bytes 0 → (s : Session) × (after_bytes card bytes ≡ between_samples s (long bytes 0) (long bytes 0))
  full all =
      let k = (length bytes - 6) / 6 in
      let low : place_of k ≤ length bytes = omega arith in
      let g = gone card bytes k low going in
      let met = length_met (long bytes 0) g.head.fits in
      let same : place_of k ≡ long bytes 0 = omega arith in
      let s = after g.session (first_samples bytes k) in
      let cut : bytes ≡ take (place_of k) bytes = sym (take_all (place_of k) bytes (omega arith)) in
      (s, ap (after_bytes card) cut ∙ g.place ∙ ap (between_samples s (long bytes 0)) same)

pub past : (card : Card) (bytes : List ℕ) (b : ℕ) → Going card bytes → 6 ≤ length bytes → length bytes ≡ long bytes 0
    → take_of (after_bytes card bytes) b ≡ refused_with 14 (after_bytes card bytes)
past card bytes b going enough all =
    let f = full card bytes going enough all in
    rw f.1 (past_takes (between_samples f.0 (long bytes 0) (long bytes 0)) b refl (omega arith) (omega arith))

-- ---- the end

module _ (card : Card) (bytes : List ℕ) where
  abbrev r : Receiver
  r = after_bytes card bytes

  -- what is left and shown of what an end gives
  abbrev left : Received → Status × List (Answer Told)
  left got = (got.receiver.status, shown_of got.shown)

  quiet_end : (n : ℕ) → r.status ≡ Refused n → at_end card bytes ≡ (Refused n, [])
  quiet_end n e = ap left (refused_ends r n e) ∙ rw e

  ended_good : Going card bytes → good_recording bytes ≡ true → at_end card bytes ≡ (Ended, [])
  ended_good going good =
      let enough = good_enough bytes good in
      let f = full card bytes going enough (sym (good_met bytes good).stated) in
      let b = between_samples f.0 (long bytes 0) (long bytes 0) in
      let low : 6 ≤ long bytes 0 = let s = (good_met bytes good).stated in omega arith in
      let w : whole_in b ≡ true = rw (le-leb _ _ low, eq-eqb (long bytes 0) (long bytes 0) refl) in
      ap (λ (q : Receiver). left (end_of q)) f.1 ∙ ap left (good_end b refl w)

  -- an open line of all stated bytes is a good recording
  whole_good : Going card bytes → whole_in r ≡ true → good_recording bytes ≡ true
  whole_good going w =
      let p = and_split (leb 6 r.taken) (eqb r.taken r.stated) w in
      let low : 6 ≤ r.taken = leb-true _ _ p.0 in
      let all : r.taken ≡ r.stated = eqb-true _ _ p.1 in
      let count : r.taken ≡ 0 + length bytes = taken-open (fresh_receiver card) bytes going in
      let k = (length bytes - 6) / 6 in
      let g = at_once card bytes k ((length bytes - 6) % 6) (omega arith) (omega arith) going in
      let h = (gone card bytes k (omega arith) going).head in
      let q = between_samples (after g.opened (first_samples bytes k)) (long bytes 0) (place_of k) in
      let rest = drop (place_of k) bytes in
      let still : (received_all q rest).status ≡ Open = sym (ap (λ (z : Receiver). z.status) g.holds) ∙ going in
      let stated : r.stated ≡ long bytes 0 = ap (λ (z : Receiver). z.stated) g.holds ∙ stated-open q rest (omega arith) still in
      let met = length_met (long bytes 0) h.fits in
      let m : RecordingMet bytes k = record { stated = omega arith; whole = omega arith; few = omega arith; version = h.version } in
      (met_good bytes k m).0

  early_14 : Going card bytes → good_recording bytes ≡ false → at_end card bytes ≡ (Refused 14, refused 14 ∷ [])
  unfolding refused_with
  early_14 going bad = cases (whole_in r) refl
    where
      cases : (t : Bool) → whole_in r ≡ t → at_end card bytes ≡ (Refused 14, refused 14 ∷ [])
      cases true w = let good = whole_good going w in let z : ◌≡◌ {A = ℕ} 0 1 = cc in absurd (omega arith)
      cases false w = ap left (early_end r going w)

  ends_only : (a : Status × List (Answer Told)) → EndAs card bytes a → at_end card bytes ≡ a
  ends_only a (paper.EndAs.ended going good) = ended_good going good
  ends_only a (paper.EndAs.early going bad) = early_14 going bad
  ends_only a (paper.EndAs.refused_before n e) = quiet_end n e

  ends_is : EndAs card bytes (at_end card bytes)
  ends_is = cases r.status refl
    where
      judged : (t : Bool) → good_recording bytes ≡ t → Going card bytes → EndAs card bytes (at_end card bytes)
      judged true e going = rw (ended_good going e) (paper.EndAs.ended going e)
      judged false e going = rw (early_14 going e) (paper.EndAs.early going e)

      cases : (now : Status) → r.status ≡ now → EndAs card bytes (at_end card bytes)
      cases Open e = judged (good_recording bytes) refl e
      cases Ended e = absurd (never_ended (fresh_receiver card) bytes (λ z. let y : ◌≡◌ {A = ℕ} 0 1 = cc in omega arith) e)
      cases (Refused n) e = rw (quiet_end n e) (paper.EndAs.refused_before n e)

  pub ends : Exactly (at_end card bytes) (EndAs card bytes)
  ends = exactly (EndAs card bytes) ends_is ends_only
