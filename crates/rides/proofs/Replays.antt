-- A replay, sample by sample: while none is refused each is a step and its answer the last; behind a refused one nothing changes any more.
use Prim.Native.Nat.{ℕ, zero, suc, ◌+◌, ◌-◌, ◌≤◌, ◌<◌, min}
use native.Mathlib.Omega.{arith}
use native.Mathlib.Numerals.{add-one}
use native.Mathlib.Nat.{add-zero, add-suc}
use mathlib.Core.Path.{◌≡◌, refl, sym, ap, ◌∙◌}
use mathlib.Core.Bool.{Bool, true, false}
use mathlib.Core.List.{List, [], ◌∷◌}
use lib.Dec.{eqb, leb}
use borrow.Author.Tests.{eqb-true, ne_eqb, leb-true, leb-false}
use Rattle.std.specs.Prelude.{None, Result, Ok, Err}
use Rattle.leaf.specs.Choosing.{pick}
use Rattle.leaf.specs.Checks.{first_bad, or_fault, none_bad}
use Rattle.leaf.specs.Answers.{number_of, ensured, numbered_refusal}
use Rattle.leaf.specs.declared.refusal.Refusal.{Refusal}
use Rattle.leaf.specs.declared.refusal.Refusal.TheVariants.{SessionOutOfRange, BadRecording}
use Rattle.session.specs.declared.Sample.{Sample}
use Rattle.session.specs.declared.Session.{Session}
use Rattle.session.specs.Session.{inside_of}
use Rattle.session.specs.Runs.{accepted}
use Rattle.rides.specs.Recording.{sample_at, samples_in, most_samples, good_recording}
use Rattle.rides.specs.Ride.{fresh_ride, turn_of, turn_at, ride_from}
use Rattle.rides.specs.Replay.{Last, due_from, shown_next, step_of, steps_from, later_of, last_from, so_far, ran_from, unrun_of, replay_checks, unrun_by, judged_as, replay_of}
use Rattle.rides.specs.declared.ride.Ride.{Ride}
use Rattle.rides.specs.declared.ride.Shown.{Shown}
use Rattle.rides.specs.declared.ride.Shown.TheVariants.{Answered, Refused, Nothing}
use Rattle.rides.specs.declared.ride.Turned.{Turned}
use Rattle.rides.proofs.Recordings.{good_met}
use Rattle.rides.proofs.Runs.{turned_accepted, turned_refused, from_suc, ended_shows, ended_stays}

-- ---- a turn of a ride that goes on

pub fresh_of : (q : Ride) → eqb q.ended 0 ≡ true → q ≡ fresh_ride q.session
fresh_of q e = let z : q.ended ≡ 0 = eqb-true _ _ e in ap (λ (n : ℕ). record { session = q.session; ended = n }) z

-- where the ride goes on behind a sample, that was a step; where it ends, the number is shown
pub record Turning (t : Turned) : Type 0 where
  pub steps : eqb t.ride.ended 0 ≡ true → step_of t.shown ≡ 1
  pub ends : eqb t.ride.ended 0 ≡ false → t.shown ≡ Refused t.ride.ended

turning_fresh : (s : Session) (x : Sample) → Turning (turn_of (fresh_ride s) x)
turning_fresh s x = cases (accepted s x) refl
  where
    cases : (t : Bool) → accepted s x ≡ t → Turning (turn_of (fresh_ride s) x)
    cases true e = rw (turned_accepted s x e) (record { steps = λ h. refl; ends = λ h. cc })
    cases false e = rw (turned_refused s x e) (record { steps = λ h. let z : false ≡ true = sym e ∙ h in cc; ends = λ h. refl })

pub turning : (q : Ride) (recording : List ℕ) (k : ℕ) → eqb q.ended 0 ≡ true → Turning (turn_at q recording k)
unfolding turn_at
turning q recording k e = rw (fresh_of q e) (turning_fresh q.session (sample_at recording k))

-- ---- behind the sample that ends it

module _ (r : Ride) (recording : List ℕ) (place : ℕ) where
  later_nothing : (k : ℕ) → eqb (ride_from r recording place k).ended 0 ≡ false → shown_next r recording place k ≡ Nothing
  later_nothing k e = ended_shows (ride_from r recording place k) recording (place + k) e

  pub steps_suc : (k : ℕ) → steps_from r recording place (suc k) ≡ steps_from r recording place k + step_of (shown_next r recording place k)
  unfolding steps_from
  steps_suc k = refl

  pub last_suc : (k : ℕ) → last_from r recording place (suc k) ≡ later_of (last_from r recording place k) (shown_next r recording place k)
  unfolding last_from
  last_suc k = refl

  -- nothing is run, and no answer comes
  pub ended_counts : (k j : ℕ) → eqb (ride_from r recording place k).ended 0 ≡ false
      → (steps_from r recording place (k + j) ≡ steps_from r recording place k) × (last_from r recording place (k + j) ≡ last_from r recording place k)
  ended_counts k zero e = (ap (steps_from r recording place) (add-zero k), ap (last_from r recording place) (add-zero k))
  ended_counts k (suc j) e =
      let before = ended_counts k j e in
      let over : eqb (ride_from r recording place (k + j)).ended 0 ≡ false = rw (ended_stays r recording place k j e) e in
      let none = later_nothing (k + j) over in
      (rw (add-suc k j, steps_suc (k + j), none, before.0, add-zero), rw (add-suc k j, last_suc (k + j), none, before.1))

-- ---- as the loop goes

-- there are no more steps than samples
pub step_low : (sh : Shown) → step_of sh ≤ 1
step_low (Answered a) = omega arith
step_low (Refused n) = omega arith
step_low Nothing = omega arith

pub steps_low : (r : Ride) (recording : List ℕ) (place k : ℕ) → steps_from r recording place k ≤ k
unfolding steps_from
steps_low r recording place zero = omega arith
steps_low r recording place (suc k) = omega (arith, steps_low r recording place k, step_low (shown_next r recording place k))

-- a ride that stands behind k samples from the place on, its last answer and how many of them were steps
pub record At (r : Ride) (recording : List ℕ) (place k : ℕ) (going : Ride) (last : Last) (ran : ℕ) : Type 0 where
  pub ride : going ≡ ride_from r recording place k
  pub answer : last ≡ last_from r recording place k
  pub steps : ran ≡ steps_from r recording place k

pub none-at : (r : Ride) (recording : List ℕ) (place : ℕ) → At r recording place 0 r None 0
unfolding ride_from last_from steps_from
none-at r recording place = record { ride = refl; answer = refl; steps = refl }

pub next_at : (r : Ride) (recording : List ℕ) (place k : ℕ) (going : Ride) (last : Last) (ran : ℕ) → At r recording place k going last ran
    → (t : Turned) → t ≡ turn_at going recording (place + k) → At r recording place (k + 1) t.ride (later_of last t.shown) (ran + step_of t.shown)
next_at r recording place k going last ran at t turned =
    let e : turn_at (ride_from r recording place k) recording (place + k) ≡ t = rw (← at.ride, ← turned) in
    let here : shown_next r recording place k ≡ t.shown = ap (λ (x : Turned). x.shown) e in
    record {
      ride = rw (add-one, from_suc, e);
      answer = rw (add-one, last_suc, ← at.answer, here);
      steps = rw (add-one, steps_suc, ← at.steps, here);
    }

pub so_far_is : (s : Session) (recording : List ℕ) (place k : ℕ) (going : Ride) (last : Last) (ran : ℕ) → At (fresh_ride s) recording place k going last ran
    → so_far going last place ran ≡ ran_from s recording place k
unfolding ran_from
so_far_is s recording place k going last ran at = rw (← at.ride, ← at.answer, ← at.steps)

-- behind the sample that ends it, all stays as it is
pub ended_all : (s : Session) (recording : List ℕ) (place k n : ℕ) → k ≤ n → ((ride_from (fresh_ride s) recording place k).ended ≡ 0 → ⊥)
    → ran_from s recording place k ≡ ran_from s recording place n
unfolding ran_from
ended_all s recording place k n h over =
    let e : n ≡ k + (n - k) = omega arith in
    let shut = ne_eqb _ _ over in
    let counts = ended_counts (fresh_ride s) recording place k (n - k) shut in
    rw (e, ended_stays (fresh_ride s) recording place k (n - k) shut, counts.0, counts.1)

-- ---- how far: a place behind the end, like the end itself, leaves none

none_run : (s : Session) (recording : List ℕ) (p q : ℕ) → ran_from s recording p 0 ≡ ran_from s recording q 0
unfolding ran_from ride_from last_from steps_from
none_run s recording p q = refl

from_place : (s : Session) (recording : List ℕ) (place quota : ℕ)
    → ran_from s recording (min place (samples_in recording)) (min quota (samples_in recording - min place (samples_in recording)))
    ≡ ran_from s recording place (due_from recording place quota)
from_place s recording place quota = cases (leb place (samples_in recording)) refl
  where
    cases : (t : Bool) → leb place (samples_in recording) ≡ t
        → ran_from s recording (min place (samples_in recording)) (min quota (samples_in recording - min place (samples_in recording)))
        ≡ ran_from s recording place (due_from recording place quota)
    cases true e =
        let h : place ≤ samples_in recording = leb-true _ _ e in
        let same : min place (samples_in recording) ≡ place = omega arith in
        ap (λ (p : ℕ). ran_from s recording p (due_from recording p quota)) same
    cases false e =
        let h : samples_in recording < place = leb-false _ _ e in
        let one : min quota (samples_in recording - min place (samples_in recording)) ≡ 0 = omega arith in
        let other : min quota (samples_in recording - place) ≡ 0 = omega arith in
        ap (ran_from s recording (min place (samples_in recording))) one ∙ none_run s recording (min place (samples_in recording)) place
        ∙ sym (ap (ran_from s recording place) other)

-- a recording that is not refused has no more samples than a good one can have
pub few_samples : (recording : List ℕ) (s : Session) → unrun_by recording s ≡ 0 → samples_in recording ≤ most_samples
unfolding unrun_by
few_samples recording s e = (good_met recording (none_bad 0 (replay_checks recording s) tt e).1.0).few

-- so of its samples, counted up to those, as many run as the definition says
pub runs_on : (recording : List ℕ) (place : ℕ) (s : Session) (quota n : ℕ) → n ≡ min (samples_in recording) most_samples → unrun_by recording s ≡ 0
    → ran_from s recording (min place n) (min quota (n - min place n)) ≡ replay_of recording place s quota
unfolding replay_of
runs_on recording place s quota n all e =
    let few = few_samples recording s e in
    let same : n ≡ samples_in recording = omega arith in
    rw (e, same) (from_place s recording place quota)

-- ---- a recording or a session that is refused

-- the number by the two tests
abbrev verdict : Bool → Bool → ℕ
verdict good inside = pick good (pick inside 0 8) 14

by_tests : (recording : List ℕ) (s : Session) → unrun_by recording s ≡ verdict (good_recording recording) (inside_of s)
unfolding unrun_by or_fault
by_tests recording s = cases (good_recording recording) (inside_of s)
  where
    cases : (good inside : Bool) → first_bad 0 ((14, good) ∷ (8, inside) ∷ []) ≡ verdict good inside
    cases true true = refl
    cases true false = refl
    cases false inside = refl

-- that of its refusal
own_number : (recording : List ℕ) (s : Session) → eqb (unrun_by recording s) 0 ≡ false → number_of (numbered_refusal (unrun_by recording s)) ≡ unrun_by recording s
unfolding numbered_refusal
own_number recording s h = rw (by_tests recording s) (cases (good_recording recording) (inside_of s) (rw (by_tests recording s) at h))
  where
    cases : (good inside : Bool) → eqb (verdict good inside) 0 ≡ false → number_of (numbered_refusal (verdict good inside)) ≡ verdict good inside
    cases true true h = cc
    cases true false h = refl
    cases false inside h = refl

-- a test and its refusal, one behind the other
pub judged_chain : (recording : List ℕ) (s : Session)
    → judged_as recording s ≡ pick (good_recording recording) (ensured (inside_of s) SessionOutOfRange) (Err BadRecording)
unfolding judged_as numbered_refusal
judged_chain recording s = rw (by_tests recording s) (cases (good_recording recording) (inside_of s))
  where
    cases : (good inside : Bool) → pick (eqb (verdict good inside) 0) (Ok tt) (Err (numbered_refusal (verdict good inside)))
        ≡ pick good (ensured inside SessionOutOfRange) (Err BadRecording)
    cases true true = refl
    cases true false = refl
    cases false inside = refl

-- where it is refused no sample runs, else as many as are due
pub not_run : (recording : List ℕ) (place : ℕ) (s : Session) (quota : ℕ) (why : Refusal) → judged_as recording s ≡ Err why
    → unrun_of (number_of why) s ≡ replay_of recording place s quota
unfolding judged_as replay_of
not_run recording place s quota why h = cases (eqb (unrun_by recording s) 0) refl h
  where
    cases : (t : Bool) → eqb (unrun_by recording s) 0 ≡ t → ◌≡◌ {A = Result Unit Refusal} (pick t (Ok tt) (Err (numbered_refusal (unrun_by recording s)))) (Err why)
        → unrun_of (number_of why) s ≡ pick t (ran_from s recording place (due_from recording place quota)) (unrun_of (unrun_by recording s) s)
    cases true e h = let z : ◌≡◌ {A = ℕ} 0 1 = cc in absurd (omega arith)
    cases false e h =
        let same : numbered_refusal (unrun_by recording s) ≡ why = cc in
        ap (λ (n : ℕ). unrun_of n s) (ap number_of (sym same) ∙ own_number recording s e)

pub judged_run : (recording : List ℕ) (place : ℕ) (s : Session) (quota n : ℕ) → n ≡ min (samples_in recording) most_samples → judged_as recording s ≡ Ok tt
    → ran_from s recording (min place n) (min quota (n - min place n)) ≡ replay_of recording place s quota
unfolding judged_as
judged_run recording place s quota n all h = cases (eqb (unrun_by recording s) 0) refl h
  where
    cases : (t : Bool) → eqb (unrun_by recording s) 0 ≡ t → ◌≡◌ {A = Result Unit Refusal} (pick t (Ok tt) (Err (numbered_refusal (unrun_by recording s)))) (Ok tt)
        → ran_from s recording (min place n) (min quota (n - min place n)) ≡ replay_of recording place s quota
    cases true e h = runs_on recording place s quota n all (eqb-true _ _ e)
    cases false e h = let z : ◌≡◌ {A = ℕ} 0 1 = cc in absurd (omega arith)
