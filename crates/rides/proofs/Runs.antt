-- A ride and a list of samples. The ride of a recording from a place on is the run of its samples in order; a run of one list and then another is the run
-- of both; from a session that was opened it shows what the session answers, until the first refusal.
use Prim.Native.Nat.{ℕ, zero, suc, ◌+◌}
use native.Mathlib.Nat.{zero-add, add-zero, add-suc}
use mathlib.Core.Path.{◌≡◌, refl, sym, ap, ◌∙◌}
use mathlib.Core.Bool.{Bool, true, false}
use mathlib.Core.List.{List, [], ◌∷◌, ◌++◌, map, append-nil, append_assoc}
use lib.Dec.{eqb}
use lib.ListN.{take}
use Rattle.leaf.specs.Choosing.{pick, and_split}
use Rattle.leaf.specs.Answers.{Answer, given, refused, refused_at}
use Rattle.leaf.specs.Answers as answers
use Rattle.step.specs.declared.Answer.{Answer as Told}
use Rattle.session.specs.declared.Sample.{Sample}
use Rattle.session.specs.declared.Session.{Session}
use Rattle.session.specs.declared.Sampled.{Sampled}
use Rattle.std.specs.Prelude.{Err}
use Rattle.session.specs.Session.{refused_by, carried, stepped, ran_of, sample_of, outcome_of, answer_to}
use Rattle.session.specs.Runs.{accepted, after, outcomes, all_accepted}
use Rattle.session.proofs.Paper.{sample_paper}
use Rattle.session.proofs.Numbers.{refused_number}
use Rattle.rides.specs.Recording.{sample_at, samples_from, first_samples}
use Rattle.rides.specs.Ride.{fresh_ride, told_of, turn_of, shown_of, turn_shows, turn_at, ride_from, ride_after, run_of, shown_by, until_refused}
use Rattle.rides.specs.declared.ride.Ride.{Ride}
use Rattle.rides.specs.declared.ride.Shown.TheVariants.{Answered, Nothing}
use Rattle.rides.specs.declared.ride.Shown.TheVariants as shown
use Rattle.rides.specs.declared.ride.Turned.{Turned}

-- ---- a turn

-- what a turn shows is on paper what the sample is answered with
pub turn_paper : (r : Ride) (x : Sample) → shown_of (turn_of r x).shown ≡ turn_shows r x
unfolding turn_of told_of turn_shows sample_of ran_of answer_to
turn_paper r x = cases (eqb r.ended 0) (eqb (refused_by r.session x) 0) refl
  where
    told : Bool → Sampled
    told t =
        pick t (ran_of r.session x) (record { session = r.session; outcome = Err (answers.numbered_refusal (refused_by r.session x)) })

    cases : (going t : Bool) → accepted r.session x ≡ t → shown_of (pick going (told_of (told t).session (told t).outcome) (record { ride = r; shown = Nothing })).shown
        ≡ pick going (pick t (given (stepped r.session (carried r.session x)).answer) (refused (refused_by r.session x)) ∷ []) []
    cases true true e = refl
    cases true false e = rw (refused_number r.session x e)
    cases false true e = refl
    cases false false e = refl

-- so a result that is the definition's shows what the definition shows
pub on_paper : (r : Ride) (x : Sample) (t : Turned) → t ≡ turn_of r x → (t ≡ turn_of r x) × (shown_of t.shown ≡ turn_shows r x)
on_paper r x t e = (e, rw e (turn_paper r x))

-- an accepted sample is answered and leads to the session after it, a refused one ends the ride
pub turned_accepted : (s : Session) (x : Sample) → accepted s x ≡ true
    → turn_of (fresh_ride s) x ≡ record { ride = fresh_ride (sample_of s x).session; shown = Answered (stepped s (carried s x)).answer }
unfolding turn_of told_of sample_of ran_of
turned_accepted s x e = rw e

pub turned_refused : (s : Session) (x : Sample) → accepted s x ≡ false
    → turn_of (fresh_ride s) x ≡ record { ride = record { session = s; ended = refused_by s x }; shown = shown.Refused (refused_by s x) }
unfolding turn_of told_of sample_of ran_of
turned_refused s x e = rw (e, refused_number s x e)

answer-accepted : (s : Session) (x : Sample) → accepted s x ≡ true → answer_to s x ≡ given (stepped s (carried s x)).answer
unfolding answer_to
answer-accepted s x e = rw e

answer_refused : (s : Session) (x : Sample) → accepted s x ≡ false → answer_to s x ≡ refused (refused_by s x)
unfolding answer_to
answer_refused s x e = rw e

-- ---- one list and then another

pub run_append : (r : Ride) (xs ys : List Sample) → run_of r (xs ++ ys) ≡ run_of (run_of r xs) ys
unfolding run_of
run_append r [] ys = refl
run_append r (x ∷ xs) ys = run_append (turn_of r x).ride xs ys

pub shown_append : (r : Ride) (xs ys : List Sample) → shown_by r (xs ++ ys) ≡ shown_by r xs ++ shown_by (run_of r xs) ys
unfolding run_of shown_by
shown_append r [] ys = refl
shown_append r (x ∷ xs) ys =
    let next = (turn_of r x).ride in
    ap (λ (l : List (Answer Told)). turn_shows r x ++ l) (shown_append next xs ys) ∙ sym (append_assoc (turn_shows r x) (shown_by next xs) (shown_by (run_of next xs) ys))

-- what has ended stays as it is, and shows nothing more
pub ended_run : (r : Ride) (xs : List Sample) → eqb r.ended 0 ≡ false → (run_of r xs ≡ r) × (shown_by r xs ≡ [])
unfolding run_of shown_by turn_of turn_shows
ended_run r [] e = (refl, refl)
ended_run r (x ∷ xs) e = let rest = ended_run r xs e in (rw e rest.0, rw e rest.1)

-- ---- a recording's ride is the run of its samples in order

pub recording_run : (r : Ride) (recording : List ℕ) (place k : ℕ) → ride_from r recording place k ≡ run_of r (samples_from recording place k)
unfolding ride_from turn_at samples_from run_of
recording_run r recording place zero = refl
recording_run r recording place (suc k) =
    ap (λ (q : Ride). (turn_of q (sample_at recording (place + k))).ride) (recording_run r recording place k)
    ∙ sym (run_append r (samples_from recording place k) (sample_at recording (place + k) ∷ []))

-- and each turn shows what comes next
pub shows_from : (r : Ride) (recording : List ℕ) (place k : ℕ)
    → shown_by r (samples_from recording place (suc k))
    ≡ shown_by r (samples_from recording place k) ++ shown_of (turn_at (ride_from r recording place k) recording (place + k)).shown
unfolding turn_at samples_from shown_by
shows_from r recording place k =
    shown_append r (samples_from recording place k) (sample_at recording (place + k) ∷ [])
    ∙ rw (← recording_run r recording place k, turn_paper (ride_from r recording place k) (sample_at recording (place + k))) (rw append-nil)

-- ---- from a session

-- while every sample is accepted, the ride stands at the session after them and has shown all that the session answers
pub ride_goes : (s : Session) (xs : List Sample) → all_accepted s xs ≡ true
    → (run_of (fresh_ride s) xs ≡ fresh_ride (after s xs)) × (shown_by (fresh_ride s) xs ≡ map outcome_of (outcomes s xs))
unfolding run_of shown_by after outcomes all_accepted turn_shows
ride_goes s [] h = (refl, refl)
ride_goes s (x ∷ xs) h =
    let p = and_split (accepted s x) (all_accepted (sample_of s x).session xs) h in
    let rest = ride_goes (sample_of s x).session xs p.1 in
    (rw (turned_accepted s x p.0) rest.0, rw (turned_accepted s x p.0, sample_paper s x, rest.1))

-- a refused sample ends it: its number is shown, the session is as it was, and what follows is not run
stops_at : (s : Session) (x : Sample) (ys : List Sample) → accepted s x ≡ false
    → (run_of (fresh_ride s) (x ∷ ys) ≡ record { session = s; ended = refused_by s x }) × (shown_by (fresh_ride s) (x ∷ ys) ≡ refused (refused_by s x) ∷ [])
unfolding run_of shown_by turn_shows
stops_at s x ys e =
    let over = ended_run (record { session = s; ended = refused_by s x }) ys e in
    (rw (turned_refused s x e) over.0, rw (turned_refused s x e, answer_refused s x e, over.1))

-- behind accepted ones, what came before stays
pub ride_stops : (s : Session) (xs : List Sample) (x : Sample) (ys : List Sample) → all_accepted s xs ≡ true → accepted (after s xs) x ≡ false
    → (run_of (fresh_ride s) (xs ++ x ∷ ys) ≡ record { session = after s xs; ended = refused_by (after s xs) x })
    × (shown_by (fresh_ride s) (xs ++ x ∷ ys) ≡ map outcome_of (outcomes s xs) ++ refused (refused_by (after s xs) x) ∷ [])
ride_stops s xs x ys h e =
    let goes = ride_goes s xs h in
    let stops = stops_at (after s xs) x ys e in (
      rw (run_append (fresh_ride s) xs (x ∷ ys), goes.0) stops.0,
      rw (shown_append (fresh_ride s) xs (x ∷ ys), goes.1, goes.0, stops.1),
    )

-- in one: what the session answers, up to the first refusal
pub shown_until : (s : Session) (xs : List Sample) → shown_by (fresh_ride s) xs ≡ until_refused (map outcome_of (outcomes s xs))
unfolding shown_by outcomes turn_shows until_refused
shown_until s [] = refl
shown_until s (x ∷ xs) = rw (sample_paper s x) (cases (accepted s x) refl (shown_until (sample_of s x).session xs))
  where
    cases : (t : Bool) → accepted s x ≡ t
        → shown_by (fresh_ride (sample_of s x).session) xs ≡ until_refused (map outcome_of (outcomes (sample_of s x).session xs))
        → answer_to s x ∷ shown_by (turn_of (fresh_ride s) x).ride xs ≡ until_refused (answer_to s x ∷ map outcome_of (outcomes (sample_of s x).session xs))
    cases true e rest = rw (turned_accepted s x e, answer-accepted s x e, rest)
    cases false e rest =
        let over = ended_run (record { session = s; ended = refused_by s x }) xs e in
        rw (turned_refused s x e, answer_refused s x e, over.1)

-- ---- as far as answers are the same, so is what is shown

take-map : {A B : Type 0} (f : A → B) (n : ℕ) (l : List A) → take n (map f l) ≡ map f (take n l)
take-map f zero l = refl
take-map f (suc n) [] = refl
take-map f (suc n) (a ∷ l) = ap (λ (m : List _). f a ∷ m) (take-map f n l)

take_none : {A : Type 0} (n : ℕ) → take {A = A} n [] ≡ []
take_none zero = refl
take_none (suc n) = refl

take_until : (n : ℕ) (l : List (Answer Told)) → take n (until_refused l) ≡ until_refused (take n l)
unfolding until_refused
take_until zero l = refl
take_until (suc n) [] = refl
take_until (suc n) (given a ∷ l) = ap (λ (m : List (Answer Told)). given a ∷ m) (take_until n l)
take_until (suc n) (refused m ∷ l) = ap (λ (r : List (Answer Told)). refused m ∷ r) (take_none n)
take_until (suc n) (refused_at m place ∷ l) = ap (λ (r : List (Answer Told)). refused_at m place ∷ r) (take_none n)

pub shown_alike : (s t : Session) (xs ys : List Sample) (n : ℕ) → take n (outcomes s xs) ≡ take n (outcomes t ys)
    → take n (shown_by (fresh_ride s) xs) ≡ take n (shown_by (fresh_ride t) ys)
shown_alike s t xs ys n e =
    rw (shown_until s xs, shown_until t ys, take_until, take_until, take-map, take-map, e)

-- ---- the end of a recording's ride

-- one sample more is one turn more
pub from_suc : (r : Ride) (recording : List ℕ) (place k : ℕ)
    → ride_from r recording place (suc k) ≡ (turn_at (ride_from r recording place k) recording (place + k)).ride
unfolding ride_from
from_suc r recording place k = refl

-- a ride that has ended shows nothing more
pub ended_shows : (r : Ride) (recording : List ℕ) (k : ℕ) → eqb r.ended 0 ≡ false → (turn_at r recording k).shown ≡ Nothing
unfolding turn_at turn_of
ended_shows r recording k e = rw e

pub ended_turn : (r : Ride) (recording : List ℕ) (k : ℕ) → eqb r.ended 0 ≡ false → (turn_at r recording k).ride ≡ r
unfolding turn_at turn_of
ended_turn r recording k e = rw e

-- and stays as it is
pub ended_stays : (r : Ride) (recording : List ℕ) (place k j : ℕ) → eqb (ride_from r recording place k).ended 0 ≡ false
    → ride_from r recording place (k + j) ≡ ride_from r recording place k
ended_stays r recording place k zero e = ap (ride_from r recording place) (add-zero k)
ended_stays r recording place k (suc j) e =
    ap (ride_from r recording place) (add-suc k j) ∙ from_suc r recording place (k + j)
    ∙ ap (λ (q : Ride). (turn_at q recording (place + (k + j))).ride) (ended_stays r recording place k j e)
    ∙ ended_turn (ride_from r recording place k) recording (place + (k + j)) e

-- ---- from place 0, which no sample stands before

pub first_suc : (recording : List ℕ) (k : ℕ) → first_samples recording (suc k) ≡ first_samples recording k ++ sample_at recording k ∷ []
unfolding samples_from
first_suc recording k = ap (λ (j : ℕ). samples_from recording 0 k ++ sample_at recording j ∷ []) (zero-add k)

pub after_suc : (r : Ride) (recording : List ℕ) (k : ℕ) → ride_after r recording (suc k) ≡ (turn_at (ride_after r recording k) recording k).ride
after_suc r recording k =
    from_suc r recording 0 k ∙ ap (λ (j : ℕ). (turn_at (ride_after r recording k) recording j).ride) (zero-add k)

pub recording_shows : (r : Ride) (recording : List ℕ) (k : ℕ)
    → shown_by r (first_samples recording (suc k)) ≡ shown_by r (first_samples recording k) ++ shown_of (turn_at (ride_after r recording k) recording k).shown
recording_shows r recording k =
    shows_from r recording 0 k
    ∙ ap (λ (j : ℕ). shown_by r (first_samples recording k) ++ shown_of (turn_at (ride_after r recording k) recording j).shown) (zero-add k)
