-- Request d over lists of samples: what a replay has run is accepted in turn, its count is that of the samples accepted in turn, and what it comes to
-- is what a ride shows of them.
use Prim.Native.Nat.{ℕ, zero, suc, ◌+◌}
use native.Mathlib.Omega.{arith}
use native.Mathlib.Nat.{add-zero}
use mathlib.Core.Bool.{Bool, true, false}
use mathlib.Core.List.{List, [], ◌∷◌, ◌++◌, append-nil}
use mathlib.Core.Path.{◌≡◌, refl, sym, ap, ◌∙◌}
use lib.Dec.{eqb}
use Rattle.std.specs.Prelude.{Some, None, Ok}
use Rattle.leaf.specs.Choosing.{pick, and_split}
use Rattle.leaf.specs.Answers.{Answer, given, refused, refused_at}
use Rattle.step.specs.declared.Answer.{Answer as Told}
use Rattle.session.specs.declared.Sample.{Sample}
use Rattle.session.specs.declared.Session.{Session}
use Rattle.session.specs.declared.Sampled.{Sampled}
use Rattle.session.specs.Session.{refused_by, sample_of}
use Rattle.session.specs.Runs.{accepted, after, all_accepted}
use Rattle.session.proofs.Runs.{refused_stays}
use Rattle.rides.specs.Recording.{sample_at, samples_from}
use Rattle.rides.specs.Ride.{fresh_ride, turn_of, turn_at, shown_of, ride_from, run_of, shown_by}
use Rattle.rides.specs.Replay.{shown_next, step_of, steps_from, later_of, last_from, end_at}
use Rattle.rides.specs.declared.ride.Ride.{Ride}
use Rattle.rides.specs.declared.ride.Shown.{Shown}
use Rattle.rides.specs.declared.ride.Shown.TheVariants as shown
use Rattle.rides.specs.declared.ride.Turned.{Turned}
use Rattle.rides.specs.Replay.{Last}
use Rattle.rides.specs.declared.replay.End.TheVariants as end
use Rattle.rides.proofs.Runs.{turned_accepted, turned_refused, recording_run, ended_run, shows_from, from_suc, ended_shows, ended_turn}
use Rattle.rides.proofs.Replays.{Turning, turning, steps_suc}
use Rattle.demands.specs.Replay.{InTurn, accepted_run, LastAs, answers_in, last_in, end_in}
use Rattle.demands.specs.Replay as replay
use Rattle.demands.proofs.Answered.{samples_exactly}

-- ---- accepted in turn, as lists

after_snoc : (s : Session) (xs : List Sample) (x : Sample) → after s (xs ++ x ∷ []) ≡ (sample_of (after s xs) x).session
unfolding after
after_snoc s [] x = refl
after_snoc s (y ∷ xs) x = after_snoc (sample_of s y).session xs x

accepted_snoc : (s : Session) (xs : List Sample) (x : Sample) → all_accepted s xs ≡ true → accepted (after s xs) x ≡ true → all_accepted s (xs ++ x ∷ []) ≡ true
unfolding after all_accepted
accepted_snoc s [] x h e = rw e
accepted_snoc s (y ∷ xs) x h e =
    let p = and_split (accepted s y) (all_accepted (sample_of s y).session xs) h in
    rw p.0 (accepted_snoc (sample_of s y).session xs x p.1 e)

-- what is answered was accepted
answered-accepted : (s : Session) (x : Sample) (a : Told) → (sample_of s x).outcome ≡ Ok a → accepted s x ≡ true
answered-accepted s x a e = cases (accepted s x) refl
  where
    cases : (t : Bool) → accepted s x ≡ t → accepted s x ≡ true
    cases true f = f
    cases false f =
        let o = rw (refused_stays s x f) at e in
        let z : ◌≡◌ {A = ℕ} 0 1 = cc in
        absurd (omega arith)

samples_suc : (recording : List ℕ) (place k : ℕ) → samples_from recording place (suc k) ≡ samples_from recording place k ++ sample_at recording (place + k) ∷ []
unfolding samples_from
samples_suc recording place k = refl

module _ (recording : List ℕ) (place : ℕ) (s : Session) where
  pub record Listed (k : ℕ) (u : Session) (l : Last) : Type 0 where
    pub accepted : all_accepted s (samples_from recording place k) ≡ true
    pub session : u ≡ after s (samples_from recording place k)
    pub answer : LastAs recording place s k l

  next_listed : (j : ℕ) (b v : Session) (l : Last) (a : Told) → Listed j b l → sample_of b (sample_at recording (place + j)) ≡ record { session = v; outcome = Ok a }
      → Listed (suc j) v (Some a)
  next_listed j b v l a rest e =
      let xs = samples_from recording place j in
      let x = sample_at recording (place + j) in
      let here = rw rest.session at e in
      let told : (sample_of (after s xs) x).outcome ≡ Ok a = ap (λ (y : Sampled). y.outcome) here in
      record {
        accepted = rw samples_suc (accepted_snoc s xs x rest.accepted (answered-accepted (after s xs) x a told));
        session = rw (samples_suc, after_snoc) (sym (ap (λ (y : Sampled). y.session) here));
        answer = replay.LastAs.answered told;
      }

  none-listed : Listed 0 s None
  unfolding samples_from after all_accepted
  none-listed = record { accepted = refl; session = refl; answer = replay.LastAs.none }

  pub listed : (k : ℕ) (u : Session) (l : Last) → InTurn recording place s k u l → Listed k u l
  listed k u l replay.InTurn.none = none-listed
  listed k u l (replay.InTurn.one_more {k = j} {before = b} {behind = v} {l = before} {a = a} t q) =
      next_listed j b v before a (listed j b before t) ((samples_exactly b (sample_at recording (place + j)) _).1 q)

-- ---- the count

ended_run_shows : (r : Ride) (x : Sample) → eqb r.ended 0 ≡ false → (turn_of r x).shown ≡ shown.Nothing
unfolding turn_of
ended_run_shows r x e = rw e

-- one sample more is one more, where its turn of the ride is a step
run_snoc : (s : Session) (xs : List Sample) (x : Sample) → accepted_run s (xs ++ x ∷ []) ≡ accepted_run s xs + step_of (turn_of (run_of (fresh_ride s) xs) x).shown
unfolding accepted_run run_of
run_snoc s [] x = cases (accepted s x) refl
  where
    cases : (t : Bool) → accepted s x ≡ t → pick (accepted s x) 1 0 ≡ 0 + step_of (turn_of (fresh_ride s) x).shown
    cases true e = rw (e, turned_accepted s x e)
    cases false e = rw (e, turned_refused s x e)
run_snoc s (y ∷ xs) x = cases (accepted s y) refl (run_snoc (sample_of s y).session xs x)
  where
    next : Session
    next = (sample_of s y).session

    cases : (t : Bool) → accepted s y ≡ t → accepted_run next (xs ++ x ∷ []) ≡ accepted_run next xs + step_of (turn_of (run_of (fresh_ride next) xs) x).shown
        → pick (accepted s y) (suc (accepted_run next (xs ++ x ∷ []))) 0
        ≡ pick (accepted s y) (suc (accepted_run next xs)) 0 + step_of (turn_of (run_of (turn_of (fresh_ride s) y).ride xs) x).shown
    cases true e rest = rw (e, turned_accepted s y e) (omega (arith, rest))
    cases false e rest =
        let over : Ride = record { session = s; ended = refused_by s y } in
        rw (e, turned_refused s y e, (ended_run over xs e).0, ended_run_shows over x e)

pub steps_counted : (s : Session) (recording : List ℕ) (place k : ℕ) → steps_from (fresh_ride s) recording place k ≡ accepted_run s (samples_from recording place k)
unfolding steps_from samples_from accepted_run turn_at
steps_counted s recording place zero = refl
steps_counted s recording place (suc k) =
    rw (run_snoc s (samples_from recording place k) (sample_at recording (place + k)), ← recording_run (fresh_ride s) recording place k, steps_counted s recording place k)

-- ---- what a ride shows, summed up

answers_append : (l : List (Answer Told)) (sh : Shown) → answers_in (l ++ shown_of sh) ≡ answers_in l + step_of sh
answers_append [] (shown.Answered a) = refl
answers_append [] (shown.Refused n) = refl
answers_append [] shown.Nothing = refl
answers_append (given a ∷ l) sh = let rest = answers_append l sh in omega arith
answers_append (refused n ∷ l) sh = answers_append l sh
answers_append (refused_at n at ∷ l) sh = answers_append l sh

last_append : (before : Last) (l : List (Answer Told)) (sh : Shown) → last_in before (l ++ shown_of sh) ≡ later_of (last_in before l) sh
last_append before [] (shown.Answered a) = refl
last_append before [] (shown.Refused n) = refl
last_append before [] shown.Nothing = refl
last_append before (given a ∷ l) sh = last_append (Some a) l sh
last_append before (refused n ∷ l) sh = last_append before l sh
last_append before (refused_at n at ∷ l) sh = last_append before l sh

-- behind answers alone the end is that of what follows
end_append : (place : ℕ) (l m : List (Answer Told)) → end_in place l ≡ end.Unrefused → end_in place (l ++ m) ≡ end_in (place + answers_in l) m
end_append place [] m e = ap (λ (k : ℕ). end_in k m) (sym (add-zero place))
end_append place (given a ∷ l) m e =
    let sum : suc place + answers_in l ≡ place + suc (answers_in l) = omega arith in
    end_append (suc place) l m e ∙ ap (λ (k : ℕ). end_in k m) sum
end_append place (refused n ∷ l) m e = let z : ◌≡◌ {A = ℕ} 0 1 = cc in absurd (omega arith)
end_append place (refused_at n at ∷ l) m e = let z : ◌≡◌ {A = ℕ} 0 1 = cc in absurd (omega arith)

-- an answer does not end it, a refusal does
end_step : (place : ℕ) (sh : Shown) → step_of sh ≡ 1 → end_in place (shown_of sh) ≡ end.Unrefused
end_step place (shown.Answered a) e = refl
end_step place (shown.Refused n) e = absurd (omega arith)
end_step place shown.Nothing e = absurd (omega arith)

module _ (s : Session) (recording : List ℕ) (place : ℕ) where
  abbrev shown_up_to : ℕ → List (Answer Told)
  shown_up_to k = shown_by (fresh_ride s) (samples_from recording place k)

  pub record Summed (k : ℕ) : Type 0 where
    pub answers : answers_in (shown_up_to k) ≡ steps_from (fresh_ride s) recording place k
    pub answer : last_in None (shown_up_to k) ≡ last_from (fresh_ride s) recording place k
    pub ended : end_in place (shown_up_to k) ≡ end_at (ride_from (fresh_ride s) recording place k).ended (place + steps_from (fresh_ride s) recording place k)

  next_end : (k : ℕ) → Summed k → end_in place (shown_up_to (suc k)) ≡ end_at (ride_from (fresh_ride s) recording place (suc k)).ended (place + steps_from (fresh_ride s) recording place (suc k))
  next_end k before = cases (eqb here.ended 0) refl
    where
      here : Ride
      here = ride_from (fresh_ride s) recording place k

      cases : (t : Bool) → eqb here.ended 0 ≡ t
          → end_in place (shown_up_to (suc k)) ≡ end_at (ride_from (fresh_ride s) recording place (suc k)).ended (place + steps_from (fresh_ride s) recording place (suc k))
      cases false e =
          rw (shows_from, from_suc, steps_suc, ended_shows here recording (place + k) e, ended_turn here recording (place + k) e, append-nil, add-zero) before.ended
      cases true e =
          rw (shows_from, from_suc, steps_suc)
          (going (turn_at here recording (place + k)) (eqb (turn_at here recording (place + k)).ride.ended 0) refl (turning here recording (place + k) e))
        where
          l : List (Answer Told)
          l = shown_up_to k

          open_end : end_in place l ≡ end.Unrefused
          open_end = before.ended ∙ rw e

          going : (t : Turned) (g : Bool) → eqb t.ride.ended 0 ≡ g → Turning t
              → end_in place (l ++ shown_of t.shown) ≡ end_at t.ride.ended (place + (steps_from (fresh_ride s) recording place k + step_of t.shown))
          going t true g turn = end_append place l _ open_end ∙ rw g (end_step (place + answers_in l) t.shown (turn.steps g))
          going t false g turn = end_append place l _ open_end ∙ rw (turn.ends g, g, before.answers, add-zero)

  pub summed : (k : ℕ) → Summed k
  unfolding shown_by samples_from ride_from steps_from last_from
  summed zero = record { answers = refl; answer = refl; ended = refl }
  summed (suc k) =
      let before = summed k in
      record {
        answers = rw (shows_from (fresh_ride s) recording place k, answers_append) (ap (λ (j : ℕ). j + step_of (shown_next (fresh_ride s) recording place k)) before.answers);
        answer = rw (shows_from (fresh_ride s) recording place k, last_append) (ap (λ (l : Last). later_of l (shown_next (fresh_ride s) recording place k)) before.answer);
        ended = next_end k before;
      }
