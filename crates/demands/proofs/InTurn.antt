-- Request d: samples accepted in turn, from a place of a recording on. So far a replay has run them all, and where the next is refused it has run these.
use Prim.Native.Nat.{ℕ, zero, suc, ◌+◌, ◌≤◌, ◌<◌}
use native.Mathlib.Omega.{arith}
use native.Mathlib.Numerals.{add-one}
use native.Mathlib.Nat.{add-zero}
use borrow.Author.Tests.{ne_eqb}
use mathlib.Core.Bool.{Bool, true, false}
use mathlib.Core.List.{List}
use mathlib.Core.Logic.{◌⊎◌, inl, inr}
use mathlib.Core.Path.{◌≡◌, refl, sym, ap, subst, ◌∙◌}
use Rattle.std.specs.Prelude.{None, Ok}
use Rattle.leaf.specs.Answers.{number_of, numbered_refusal}
use Rattle.step.specs.declared.Answer.{Answer as Told}
use Rattle.session.specs.declared.Sample.{Sample}
use Rattle.session.specs.declared.Session.{Session}
use Rattle.session.specs.declared.Sampled.{Sampled}
use Rattle.session.specs.Session.{refused_by, ran_of}
use Rattle.session.specs.Runs.{accepted}
use Rattle.session.proofs.Numbers.{refused_number, refused_range}
use Rattle.session.proofs.Runs.{accepted_runs, refused_stays, number_given}
use Rattle.rides.specs.Recording.{sample_at}
use Rattle.rides.specs.Ride.{fresh_ride, told_of, turn_of, turn_at}
use Rattle.rides.specs.Replay.{ran_from}
use Rattle.rides.specs.declared.ride.Ride.{Ride}
use Rattle.rides.specs.declared.ride.Shown.TheVariants as shown
use Rattle.rides.specs.declared.ride.Turned.{Turned}
use Rattle.rides.specs.Replay.{Last}
use Rattle.rides.specs.declared.replay.End.TheVariants as end
use Rattle.rides.proofs.Replays.{At, none-at, next_at, so_far_is, ended_all}
use Rattle.laws.specs.Ranges.{Inside}
use Rattle.laws.proofs.Ranges.{session_ranges}
use Rattle.laws.proofs.Inside.{inside_laws}
use Rattle.laws.proofs.Refusals.{refusal_laws}
use Rattle.demands.specs.Demand1.{SampledAs, refusal_by}
use Rattle.demands.specs.Demand1 as paper
use Rattle.demands.specs.Replay.{InTurn, standing}
use Rattle.demands.specs.Replay as replay
use Rattle.demands.proofs.Answered.{samples_exactly}

-- ---- a sample that is answered, or refused, as a turn of a ride

turned_answered : (s : Session) (x : Sample) (u : Session) (a : Told) → SampledAs s x (record { session = u; outcome = Ok a })
    → record { ride = fresh_ride u; shown = shown.Answered a } ≡ turn_of (fresh_ride s) x
unfolding turn_of told_of
turned_answered s x u a q = rw ((samples_exactly s x _).1 q)

turned_refused : (s : Session) (x : Sample) (m : ℕ) → SampledAs s x (refusal_by m s)
    → record { ride = record { session = s; ended = m }; shown = shown.Refused m } ≡ turn_of (fresh_ride s) x
unfolding turn_of told_of
turned_refused s x m q =
    let all = (samples_exactly s x _).1 q in
    let given = number_given s x m all in
    let own : number_of (numbered_refusal m) ≡ m = rw given.1 (refused_number s x given.0) in
    rw (all, own)

-- a sample's own numbers; of a session inside its ranges 8 is none of them
numbers : (s : Session) (x : Sample) (m : ℕ) → SampledAs s x (refusal_by m s) → (8 ≤ m) × (m ≤ 11) × (Inside s → 9 ≤ m)
numbers s x m q =
    let given = number_given s x m ((samples_exactly s x _).1 q) in
    let range = refused_range s x given.0 in
    (omega (arith, range.0, given.1), omega (arith, range.1, given.1), λ i. nine i given.1 range.0)
  where
    nine : Inside s → m ≡ refused_by s x → 8 ≤ refused_by s x → 9 ≤ m
    nine i e low = let other : refused_by s x ≡ 8 → ⊥ = λ e. (refusal_laws s x).refused_8.0 e i in omega arith

pub own : (s : Session) (x : Sample) (m : ℕ) → SampledAs s x (refusal_by m s) → Inside s → (9 ≤ m) × (m ≤ 11)
own s x m q inside = let n = numbers s x m q in (n.2 inside, n.1)

-- ---- what a replay has run then

module _ (recording : List ℕ) (place : ℕ) (s : Session) where
  reached : (k : ℕ) (u : Session) (l : Last) → InTurn recording place s k u l → At (fresh_ride s) recording place k (fresh_ride u) l k
  unfolding turn_at
  reached k u l replay.InTurn.none = none-at (fresh_ride s) recording place
  reached k u l (replay.InTurn.one_more {k = j} {before = b} {behind = v} {l = before} {a = a} t q) =
      rw add-one at
      (next_at (fresh_ride s) recording place j (fresh_ride b) before j (reached j b before t) (record { ride = fresh_ride v; shown = shown.Answered a }) (turned_answered b (sample_at recording (place + j)) v a q))

  pub ran-in_turn : (k : ℕ) (u : Session) (l : Last) → InTurn recording place s k u l
      → ran_from s recording place k ≡ record { session = u; last = l; ran = k; end = end.Unrefused }
  ran-in_turn k u l t = sym (so_far_is s recording place k (fresh_ride u) l k (reached k u l t))

  pub ran_stopped : (n k m : ℕ) (u : Session) (l : Last) → k < n → InTurn recording place s k u l → SampledAs u (sample_at recording (place + k)) (refusal_by m u)
      → ran_from s recording place n ≡ record { session = u; last = l; ran = k; end = end.RefusedAt m (place + k) }
  unfolding turn_at
  ran_stopped n k m u l h t q =
      let x = sample_at recording (place + k) in
      let some = (numbers u x m q).0 in
      let over : m ≡ 0 → ⊥ = λ z. omega arith in
      let turn : Turned = record { ride = record { session = u; ended = m }; shown = shown.Refused m } in
      let next = next_at (fresh_ride s) recording place k (fresh_ride u) l k (reached k u l t) turn (turned_refused u x m q) in
      sym (ended_all s recording place (k + 1) n (omega arith) (λ z. over (ap (λ (r : Ride). r.ended) next.ride ∙ z)))
      ∙ sym (so_far_is s recording place (k + 1) turn.ride l (k + 0) next)
      ∙ rw (add-zero, ne_eqb m 0 over)

  -- every number of samples is accepted in turn, or one before it is refused
  pub record Stops (n : ℕ) : Type 0 where
    pub run : ℕ
    pub number : ℕ
    pub session : Session
    pub answer : Last
    pub before : run < n
    pub in_turn : InTurn recording place s run session answer
    pub refuses : SampledAs session (sample_at recording (place + run)) (refusal_by number session)

  pub record Goes (n : ℕ) : Type 0 where
    pub session : Session
    pub answer : Last
    pub in_turn : InTurn recording place s n session answer

  pub goes : (n : ℕ) → Goes n ⊎ Stops n
  unfolding ran_of
  goes zero = inl (record { session = s; answer = None; in_turn = replay.InTurn.none })
  goes (suc n) = next (goes n)
    where
      here : (a : Goes n) (t : Bool) → accepted a.session (sample_at recording (place + n)) ≡ t → Goes (suc n) ⊎ Stops (suc n)
      here a true e =
          let q = (samples_exactly a.session (sample_at recording (place + n)) _).0 (accepted_runs a.session _ e) in
          inl (record { session = (ran_of a.session (sample_at recording (place + n))).session; answer = _; in_turn = replay.InTurn.one_more a.in_turn q })
      here a false e =
          let q = (samples_exactly a.session (sample_at recording (place + n)) _).0 (refused_stays a.session _ e) in
          inr (record {
            run = n;
            number = refused_by a.session (sample_at recording (place + n));
            session = a.session;
            answer = a.answer;
            before = omega arith;
            in_turn = a.in_turn;
            refuses = q;
          })

      next : Goes n ⊎ Stops n → Goes (suc n) ⊎ Stops (suc n)
      next (inl a) = here a (accepted a.session (sample_at recording (place + n))) refl
      next (inr r) =
          let h = r.before in
          inr (record {
            run = r.run;
            number = r.number;
            session = r.session;
            answer = r.answer;
            before = omega arith;
            in_turn = r.in_turn;
            refuses = r.refuses;
          })

  -- each leaves the session inside its ranges
  pub stays_inside : Inside s → (k : ℕ) (u : Session) (l : Last) → InTurn recording place s k u l → Inside u
  stays_inside i k u l replay.InTurn.none = i
  stays_inside i k u l (replay.InTurn.one_more {k = j} {before = b} {behind = v} {l = before} {a = a} t q) =
      let inside = (session_ranges.inside_exactly b).1 (stays_inside i j b before t) in
      let next = inside_laws.sample_inside b (sample_at recording (place + j)) inside in
      (session_ranges.inside_exactly v).0 (rw ((samples_exactly b (sample_at recording (place + j)) _).1 q) at next)

  -- and more from where they ended
  pub append : (k : ℕ) (u : Session) (l : Last) → InTurn recording place s k u l → (j : ℕ) (v : Session) (m : Last)
      → InTurn recording (place + k) u j v m → InTurn recording place s (k + j) v (standing l m)
  append k u l t j v m replay.InTurn.none = let e : k + 0 ≡ k = omega arith in rw e t
  append k u l t j v m (replay.InTurn.one_more {k = i} {before = b} {behind = w} {l = before} {a = a} r q) =
      let e : k + suc i ≡ suc (k + i) = omega arith in
      let same : place + k + i ≡ place + (k + i) = omega arith in
      rw e (replay.InTurn.one_more (append k u l t i b before r) (rw same at q))

-- the same of a recording that has the same samples there
pub elsewhere : (a b : List ℕ) (place : ℕ) (s : Session) (k : ℕ) (u : Session) (l : Last)
    → ((j : ℕ) → j < k → sample_at a (place + j) ≡ sample_at b (place + j)) → InTurn b place s k u l → InTurn a place s k u l
elsewhere a b place s k u l same replay.InTurn.none = replay.InTurn.none
elsewhere a b place s k u l same (replay.InTurn.one_more {k = i} {before = v} {behind = w} {l = before} {a = told} t q) =
    replay.InTurn.one_more (elsewhere a b place s i v before (λ j h. same j (omega arith)) t)
    (subst (λ (x : Sample). SampledAs v x (record { session = w; outcome = Ok told })) (sym (same i (omega arith))) q)
