-- A line, six bytes at a time: after its head and k samples the receiver stands where the ride of those samples stands, and has shown what
-- it shows. And of a line that is not refused: its head fits, its session opens, and all its complete samples were accepted.
use Prim.Native.Nat.{ℕ, zero, suc, ◌+◌, ◌*◌, ◌-◌, ◌/◌, ◌%◌, ◌≤◌, ◌<◌}
use native.Mathlib.Omega.{arith}
use mathlib.Core.Path.{◌≡◌, refl, sym, ap, ◌∙◌}
use mathlib.Core.Bool.{Bool, true, false, ◌&&◌}
use mathlib.Core.List.{List, [], ◌∷◌, ◌++◌, map, append-nil}
use lib.Dec.{eqb, leb, lit<}
use lib.ListN.{length, get_or, take, drop, take-append-drop, length-append}
use lib.Seq.{take-add, take_all, split_at}
use borrow.Author.Tests.{eqb-true, leb-true, leb-false}
use Rattle.std.specs.Prelude.{Ok, Err}
use Rattle.leaf.specs.Answers.{Answer, given, refused, refused_at}
use Rattle.leaf.specs.Bytes.{byte, word, long}
use Rattle.card.specs.declared.Card.{Card}
use Rattle.step.specs.declared.Answer.{Answer as Told}
use Rattle.session.specs.declared.Sample.{Sample}
use Rattle.session.specs.declared.Session.{Session}
use Rattle.session.specs.declared.Sampled.{Sampled}
use Rattle.session.specs.Session.{Outcome}
use Rattle.session.specs.Session.{open_session, inside_of, refused_by, sample_of, outcome_of}
use Rattle.session.specs.Runs.{accepted, after, outcomes, all_accepted}
use Rattle.session.proofs.Runs as session
use Rattle.rides.specs.Recording.{train_of, place_of, sample_at, samples_from, first_samples}
use Rattle.rides.specs.Ride.{fresh_ride, told_of, turn_of, turn_shows, run_of, shown_by}
use Rattle.rides.specs.declared.ride.Ride.{Ride}
use Rattle.rides.proofs.Recordings.{six, next_six}
use Rattle.rides.proofs.Runs as rides
use Rattle.receiver.specs.Receiver.{with_stated, counted_in, fresh_receiver, refused_with, length_fits, head_fits, stated_with, opened_with, take_of, received_all, shown_all, between_samples, SampleTaken}
use Rattle.receiver.specs.declared.Receiver.{Receiver}
use Rattle.receiver.specs.declared.Status.TheVariants.{Open, Refused}
use Rattle.receiver.proofs.Receivers.{received_append, shown_append, refused_stays, past_takes}
use Rattle.receiver.proofs.SixBytes.{both, silent, fault, six_taken}
use Rattle.receiver.proofs.Head.{length_met, head_kept, head_unfit, head_train, begun, head_opens}
use Rattle.receiver.proofs.Steps.{kept-open}
use Rattle.laws.proofs.Inside.{inside_laws}
use Rattle.demands.specs.Pieces.{after_bytes, shown_bytes, Going, Due}

-- ---- what is open was open

-- a receiver that a byte refuses is open no more
not_open : (r : Receiver) (n b : ℕ) (q : List ℕ) → take_of r b ≡ refused_with n r → (received_all r (b ∷ q)).status ≡ Open → ⊥
not_open r n b q t o =
    let shut = ap (λ (z : Receiver × List (Answer Told)). z.0.status) (fault r n b q t) in
    let z : ◌≡◌ {A = ℕ} 0 1 = cc in
    omega arith

pub still_open : (r : Receiver) (q : List ℕ) → (received_all r q).status ≡ Open → r.status ≡ Open
unfolding received_all
still_open r [] o = o
still_open r (b ∷ q) o = (kept-open r b q o).was

pub open_before : (r : Receiver) (p q : List ℕ) → (received_all r (p ++ q)).status ≡ Open → (received_all r p).status ≡ Open
open_before r p q o = still_open (received_all r p) q (rw (received_append r p q) at o)

-- so is every beginning of a line that is open
begins_open : (r : Receiver) (n : ℕ) (l : List ℕ) → (received_all r l).status ≡ Open → (received_all r (take n l)).status ≡ Open
begins_open r n l o = open_before r (take n l) (drop n l) (rw (take-append-drop n l) o)

-- ---- a line with a good head

pub record Opened (card : Card) (bytes : List ℕ) (s : Session) : Type 0 where
  pub enough : 6 ≤ length bytes
  pub first_none : byte bytes 0 ≡ 0
  pub second_none : byte bytes 1 ≡ 0
  pub fits : length_fits (long bytes 0) ≡ true
  pub version : byte bytes 4 ≡ 1
  pub opens : open_session card (train_of bytes) ≡ given s

pub head_bytes : (bytes : List ℕ) → 6 ≤ length bytes
    → take 6 bytes ≡ byte bytes 0 ∷ byte bytes 1 ∷ byte bytes 2 ∷ byte bytes 3 ∷ byte bytes 4 ∷ byte bytes 5 ∷ []
head_bytes bytes h = next_six bytes 0 h

head_cut : (bytes : List ℕ) → 6 ≤ length bytes
    → bytes ≡ byte bytes 0 ∷ byte bytes 1 ∷ byte bytes 2 ∷ byte bytes 3 ∷ byte bytes 4 ∷ byte bytes 5 ∷ drop 6 bytes
head_cut bytes h = sym (take-append-drop 6 bytes) ∙ ap (λ (l : List ℕ). l ++ drop 6 bytes) (head_bytes bytes h)

-- a length below 65,536
pub stated_low : (bytes : List ℕ) → byte bytes 0 ≡ 0 → byte bytes 1 ≡ 0 → long bytes 0 ≡ byte bytes 2 * 256 + byte bytes 3
unfolding long
stated_low bytes first second = omega arith

-- ---- six bytes at a time

-- what a sample's turn makes of the session
pub turn_session : (s : Session) (x : Sample) → (turn_of (fresh_ride s) x).ride.session ≡ (sample_of s x).session
unfolding turn_of told_of
turn_session s x = told (sample_of s x).outcome
  where
    told : (o : Outcome) → (told_of (sample_of s x).session o).ride.session ≡ (sample_of s x).session
    told (Ok a) = refl
    told (Err why) = refl

-- an accepted sample goes on from the session after it; one that stops the ride leaves the session as it was
turn_goes : (s : Session) (x : Sample) → accepted s x ≡ true → (turn_of (fresh_ride s) x).ride ≡ fresh_ride (sample_of s x).session
unfolding run_of after all_accepted
turn_goes s x e = (rides.ride_goes s (x ∷ []) (rw e)).0

turn_stops : (s : Session) (x : Sample) → eqb (turn_of (fresh_ride s) x).ride.ended 0 ≡ false → (turn_of (fresh_ride s) x).ride.session ≡ s
turn_stops s x f = cases (accepted s x) refl
  where
    cases : (t : Bool) → accepted s x ≡ t → (turn_of (fresh_ride s) x).ride.session ≡ s
    cases true e =
        let zero : (turn_of (fresh_ride s) x).ride.ended ≡ 0 = ap (λ (r : Ride). r.ended) (turn_goes s x e) in
        let never : true ≡ false = rw zero at f in
        cc
    cases false e = turn_session s x ∙ ap (λ (z : Sampled). z.session) (session.refused_stays s x e)

-- the six bytes of the sample that k samples stand before
six_at : (s : Session) (stated : ℕ) (bytes : List ℕ) (k : ℕ) → inside_of s ≡ true → place_of k + 6 ≤ stated
    → SampleTaken s stated (place_of k) (sample_at bytes k) (six bytes k)
unfolding word
six_at s stated bytes k inside due =
    let e : place_of k + 3 + 1 ≡ place_of k + 4 = omega arith in
    let low : 6 ≤ place_of k = omega arith in
    let whole : place_of k % 6 ≡ 0 = omega arith in
    rw e (six_taken s stated (place_of k) _ _ _ _ _ _ inside low due whole)

-- a ride with its next sample
run_next : (r : Ride) (xs : List Sample) (x : Sample) → run_of r (xs ++ x ∷ []) ≡ (turn_of (run_of r xs) x).ride
unfolding run_of
run_next r xs x = rides.run_append r xs (x ∷ [])

shown_next : (r : Ride) (xs : List Sample) (x : Sample) → shown_by r (xs ++ x ∷ []) ≡ shown_by r xs ++ turn_shows (run_of r xs) x
unfolding shown_by
shown_next r xs x = rides.shown_append r xs (x ∷ []) ∙ rw append-nil

pub samples_length : (bytes : List ℕ) (k : ℕ) → length (first_samples bytes k) ≡ k
unfolding samples_from
samples_length bytes zero = refl
samples_length bytes (suc k) = omega (arith, samples_length bytes k, length-append (first_samples bytes k) (sample_at bytes (0 + k) ∷ []))

-- a receiver and a ride that stand at the same place, the receiver having taken so many bytes of those stated
pub record Stands (r : Receiver) (ride : Ride) (stated taken : ℕ) : Type 0 where
  pub inside : inside_of ride.session ≡ true
  pub goes : eqb ride.ended 0 ≡ true → r ≡ between_samples ride.session stated taken
  pub stops : eqb ride.ended 0 ≡ false → (r.status ≡ Refused ride.ended) × (r.session ≡ ride.session)

-- a sample's six bytes later they stand at the same place again, and have shown the same
module _ (r : Receiver) (ride : Ride) (stated : ℕ) (bytes : List ℕ) (k : ℕ) (at : Stands r ride stated (place_of k)) (due : place_of k + 6 ≤ stated) where
  abbrev Later : Type 0
  Later = Stands (received_all r (six bytes k)) (turn_of ride (sample_at bytes k)).ride stated (place_of k + 6) × (shown_all r (six bytes k) ≡ turn_shows ride (sample_at bytes k))

  later_goes : eqb ride.ended 0 ≡ true → Later
  later_goes e =
      let s = ride.session in
      let x = sample_at bytes k in
      let none : ride.ended ≡ 0 = eqb-true _ _ e in
      let fresh : ride ≡ fresh_ride s = rw none in
      let taken = six_at s stated bytes k at.inside due in
      let stands : Stands (received_all (between_samples s stated (place_of k)) (six bytes k)) (turn_of (fresh_ride s) x).ride stated (place_of k + 6) =
      record {
        inside = rw (turn_session s x) (inside_laws.sample_inside s x at.inside);
        goes = taken.goes_on;
        stops = λ f. ((taken.stops f).0, (taken.stops f).1 ∙ sym (turn_stops s x f));
      } in
      rw (at.goes e, fresh) (stands, taken.shows)

  later_stops : eqb ride.ended 0 ≡ false → Later
  unfolding turn_of turn_shows
  later_stops e =
      let over = refused_stays r ride.ended (six bytes k) (at.stops e).0 in
      rw (over.0, over.1, e) (record { inside = at.inside; goes = λ g. cc; stops = at.stops }, refl)

  pub later : Later
  later = cases (eqb ride.ended 0) refl
    where
      cases : (t : Bool) → eqb ride.ended 0 ≡ t → Later
      cases true e = later_goes e
      cases false e = later_stops e

-- ---- a line with a good head, after its head and k samples

module _ (card : Card) (bytes : List ℕ) (s : Session) (head : Opened card bytes s) where
  abbrev ride_at : ℕ → Ride
  ride_at k = run_of (fresh_ride s) (first_samples bytes k)

  -- after the head
  opened_head : both (fresh_receiver card) (take 6 bytes) ≡ (between_samples s (long bytes 0) 6, [])
  unfolding received_all shown_all
  opened_head =
      let stated = stated_low bytes head.first_none head.second_none in
      rw (head_bytes bytes head.enough, head.first_none, head.second_none, head.version, stated)
      (head_opens card (byte bytes 2) (byte bytes 3) (byte bytes 5) s [] (rw stated at head.fits) head.opens)

  -- the receiver stands where the ride stands, and has shown what it shows
  pub record After (k : ℕ) : Type 0 where
    pub place : Stands (after_bytes card (take (place_of k) bytes)) (ride_at k) (long bytes 0) (place_of k)
    pub shown : shown_bytes card (take (place_of k) bytes) ≡ shown_by (fresh_ride s) (first_samples bytes k)

  after_head : After 0
  unfolding samples_from run_of shown_by
  after_head =
      let after = ap (λ (z : Receiver × List (Answer Told)). z.0) opened_head in
      record {
        place = rw after (record { inside = inside_laws.opened_inside card (train_of bytes) s head.opens; goes = λ e. refl; stops = λ e. absurd (never e) });
        shown = ap (λ (z : Receiver × List (Answer Told)). z.1) opened_head;
      }
    where
      never : true ≡ false → ⊥
      never e = let z : ◌≡◌ {A = ℕ} 0 1 = cc in omega arith

  pub one_more : (k : ℕ) → place_of k + 6 ≤ length bytes → take (place_of (suc k)) bytes ≡ take (place_of k) bytes ++ six bytes k
  one_more k h =
      let sum : place_of (suc k) ≡ place_of k + 6 = omega arith in
      rw (sum, take-add (place_of k) 6 bytes, next_six bytes (place_of k) h)

  after_next : (k : ℕ) → place_of k + 6 ≤ length bytes → place_of k + 6 ≤ long bytes 0 → After k → After (suc k)
  after_next k h p before =
      let sum : place_of (suc k) ≡ place_of k + 6 = omega arith in
      let r = after_bytes card (take (place_of k) bytes) in
      let x = sample_at bytes k in
      let next = later r (ride_at k) (long bytes 0) bytes k before.place p in
      record {
        place = rw (one_more k h, sum, received_append, rides.first_suc bytes k, run_next (fresh_ride s) (first_samples bytes k) x) next.0;
        shown = rw (one_more k h, shown_append, rides.first_suc bytes k, shown_next (fresh_ride s) (first_samples bytes k) x, next.1, before.shown);
      }

  pub stands : (k : ℕ) → place_of k ≤ length bytes → place_of k ≤ long bytes 0 → After k
  stands zero h p = after_head
  stands (suc k) h p = after_next k (omega arith) (omega arith) (stands k (omega arith) (omega arith))

-- ---- the head of a line that is not refused

-- a byte of the head that did not refuse it may stand there, and is kept
may_stand : (r : Receiver) (b : ℕ) (l : List ℕ) → r.status ≡ Open → r.taken < 5 → (received_all r (b ∷ l)).status ≡ Open
    → (head_fits r.stated r.taken b ≡ true) × ((received_all (counted_in (with_stated (stated_with r.stated r.taken b) r)) l).status ≡ Open)
may_stand r b l e h o = cases (head_fits r.stated r.taken b) refl
  where
    cases : (t : Bool) → head_fits r.stated r.taken b ≡ t
        → (t ≡ true) × ((received_all (counted_in (with_stated (stated_with r.stated r.taken b) r)) l).status ≡ Open)
    cases true f =
        let same = ap (λ (z : Receiver × List (Answer Told)). z.0.status) (silent r _ b l (head_kept r e b h f)) in
        (refl, sym same ∙ o)
    cases false f = absurd (not_open r 14 b l (head_unfit r e b (omega arith) f) o)

-- the byte of the train type, which did not refuse it, opened the session
train_open : (r : Receiver) (b : ℕ) (l : List ℕ) → r.status ≡ Open → r.taken ≡ 5 → (received_all r (b ∷ l)).status ≡ Open
    → (s : Session) × (open_session r.session.card b ≡ given s)
unfolding opened_with
train_open r b l e h o = cases (open_session r.session.card b) refl
  where
    cases : (a : Answer Session) → open_session r.session.card b ≡ a → (s : Session) × (a ≡ given s)
    cases (given s) f = (s, refl)
    cases (refused n) f = absurd (not_open r n b l (head_train r e b h ∙ rw f) o)
    cases (refused_at n place) f = absurd (not_open r n b l (head_train r e b h ∙ rw f) o)

opened_by : (card : Card) (bytes : List ℕ) → 6 ≤ length bytes → Going card bytes → (s : Session) × Opened card bytes s
unfolding head_fits stated_with
opened_by card bytes enough o =
    let h = byte bytes 2 in
    let l = byte bytes 3 in
    let whole : h * 256 / 256 * 256 + l ≡ h * 256 + l = omega arith in
    let all = ap (λ (l : List ℕ). (received_all (fresh_receiver card) l).status) (sym (head_cut bytes enough)) ∙ o in
    let p0 = may_stand (begun card 0 0) _ _ refl (lit< tt) all in
    let p1 = may_stand (begun card 0 1) _ _ refl (lit< tt) p0.1 in
    let p2 = may_stand (begun card 0 2) h _ refl (lit< tt) p1.1 in
    let p3 = rw whole at (may_stand (begun card (h * 256) 3) l _ refl (lit< tt) p2.1) in
    let p4 = may_stand (begun card (h * 256 + l) 4) _ _ refl (lit< tt) p3.1 in
    let p5 = train_open (begun card (h * 256 + l) 5) _ (drop 6 bytes) refl refl p4.1 in
    let first = eqb-true _ _ p0.0 in
    let second = eqb-true _ _ p1.0 in (
      p5.0,
      record {
        enough = enough;
        first_none = first;
        second_none = second;
        fits = ap length_fits (stated_low bytes first second) ∙ p3.0;
        version = eqb-true _ _ p4.0;
        opens = p5.1;
      },
    )

-- ---- a ride that has not ended has accepted all its samples

not_ended : (s : Session) (xs : List Sample) → eqb (run_of (fresh_ride s) xs).ended 0 ≡ true → all_accepted s xs ≡ true
unfolding run_of after all_accepted
not_ended s [] e = refl
not_ended s (x ∷ xs) e = cases (accepted s x) refl (not_ended (sample_of s x).session xs)
  where
    cases : (t : Bool) → accepted s x ≡ t
        → (eqb (run_of (fresh_ride (sample_of s x).session) xs).ended 0 ≡ true → all_accepted (sample_of s x).session xs ≡ true)
        → accepted s x && all_accepted (sample_of s x).session xs ≡ true
    cases true f rest = rw f (rest (sym (ap (λ (r : Ride). eqb (run_of r xs).ended 0) (turn_goes s x f)) ∙ e))
    cases false f rest =
        let over : (run_of (fresh_ride s) (x ∷ xs)).ended ≡ refused_by s x = ap (λ (r : Ride). r.ended) (rides.ride_stops s [] x xs refl f).0 in
        let never : false ≡ true = sym f ∙ sym (ap (λ (n : ℕ). eqb n 0) over) ∙ e in
        cc

-- ---- a line that is not refused, with k complete samples

pub record Gone (card : Card) (bytes : List ℕ) (k : ℕ) : Type 0 where
  pub session : Session
  pub head : Opened card bytes session
  pub within : length bytes ≤ long bytes 0
  pub accepted : all_accepted session (first_samples bytes k) ≡ true
  pub inside : inside_of (after session (first_samples bytes k)) ≡ true
  pub place : after_bytes card (take (place_of k) bytes) ≡ between_samples (after session (first_samples bytes k)) (long bytes 0) (place_of k)
  pub shown : shown_bytes card (take (place_of k) bytes) ≡ map outcome_of (outcomes session (first_samples bytes k))

module _ (card : Card) (bytes : List ℕ) (s : Session) (head : Opened card bytes s) (going : Going card bytes) where
  -- its ride has not ended
  goes_on : (k : ℕ) → place_of k ≤ length bytes → place_of k ≤ long bytes 0 → eqb (run_of (fresh_ride s) (first_samples bytes k)).ended 0 ≡ true
  goes_on k h p = cases (eqb (run_of (fresh_ride s) (first_samples bytes k)).ended 0) refl
    where
      cases : (t : Bool) → eqb (run_of (fresh_ride s) (first_samples bytes k)).ended 0 ≡ t → t ≡ true
      cases true e = refl
      cases false e =
          let still : (after_bytes card (take (place_of k) bytes)).status ≡ Open = begins_open (fresh_receiver card) (place_of k) bytes going in
          let shut = ((stands card bytes s head k h p).place.stops e).0 in
          cc

  between : (k : ℕ) → place_of k ≤ length bytes → place_of k ≤ long bytes 0
      → after_bytes card (take (place_of k) bytes) ≡ between_samples (after s (first_samples bytes k)) (long bytes 0) (place_of k)
  between k h p =
      let e = goes_on k h p in
      let run = (rides.ride_goes s (first_samples bytes k) (not_ended s (first_samples bytes k) e)).0 in
      (stands card bytes s head k h p).place.goes e ∙ rw run

  -- a byte past the stated length would be refused
  not_past : length bytes ≤ long bytes 0
  not_past = cases (leb (length bytes) (long bytes 0)) refl
    where
      cases : (t : Bool) → leb (length bytes) (long bytes 0) ≡ t → length bytes ≤ long bytes 0
      cases true e = leb-true _ _ e
      cases false e =
          let past : long bytes 0 < length bytes = leb-false _ _ e in
          let met = length_met (long bytes 0) head.fits in
          let m = (long bytes 0 - 6) / 6 in
          let full : place_of m ≡ long bytes 0 = omega arith in
          let r = between_samples (after s (first_samples bytes m)) (long bytes 0) (place_of m) in
          let at : after_bytes card (take (place_of m) bytes) ≡ r = between m (omega arith) (omega arith) in
          let b = get_or bytes (place_of m) 0 in
          let rest = drop (suc (place_of m)) bytes in
          let cut : bytes ≡ take (place_of m) bytes ++ b ∷ rest = split_at bytes (place_of m) 0 (omega arith) in
          let still : (received_all r (b ∷ rest)).status ≡ Open =
          ap (λ (q : Receiver). (received_all q (b ∷ rest)).status) (sym at)
          ∙ ap (λ (q : Receiver). q.status) (sym (received_append (fresh_receiver card) (take (place_of m) bytes) (b ∷ rest)))
          ∙ ap (λ (l : List ℕ). (after_bytes card l).status) (sym cut) ∙ going in
          absurd (not_open r 14 b rest (past_takes r b refl (omega arith) (omega arith)) still)

pub gone : (card : Card) (bytes : List ℕ) (k : ℕ) → place_of k ≤ length bytes → Going card bytes → Gone card bytes k
gone card bytes k h going =
    let opened = opened_by card bytes (omega arith) going in
    let s = opened.0 in
    let head = opened.1 in
    let within = not_past card bytes s head going in
    let accepted = not_ended s (first_samples bytes k) (goes_on card bytes s head going k h (omega arith)) in
    record {
      session = s;
      head = head;
      within = within;
      accepted = accepted;
      inside = inside_laws.always_inside card (train_of bytes) s (first_samples bytes k) head.opens;
      place = between card bytes s head going k h (omega arith);
      shown = (stands card bytes s head k h (omega arith)).shown ∙ (rides.ride_goes s (first_samples bytes k) accepted).1;
    }

-- ---- a line between two samples, of which one more is due

pub due_between : (card : Card) (before : List ℕ) → Due card before
    → (after_bytes card before ≡ between_samples (after_bytes card before).session (long before 0) (length before))
    × (inside_of (after_bytes card before).session ≡ true) × (length before + 6 ≤ long before 0) × (length before % 6 ≡ 0) × (6 ≤ length before)
due_between card before d =
    let k = d.between.0 in
    let n : length before ≡ place_of k = d.between.1 in
    let more : length before < long before 0 = d.due in
    let g = gone card before k (omega arith) d.going in
    let met = length_met (long before 0) g.head.fits in
    let all : take (place_of k) before ≡ before = take_all (place_of k) before (omega arith) in
    let at : after_bytes card before ≡ between_samples (after g.session (first_samples before k)) (long before 0) (length before) = rw (all, ← n) at g.place in
    (at ∙ rw at, rw at g.inside, omega arith, omega arith, omega arith)
