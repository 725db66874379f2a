-- Request d holds.
use Prim.Native.Nat.{ℕ, ◌+◌, ◌-◌, min, ◌≤◌}
use native.Mathlib.Omega.{arith}
use mathlib.Core.Bool.{true}
use mathlib.Core.List.{List}
use mathlib.Core.Logic.{◌⊎◌, inl, inr}
use mathlib.Core.Path.{◌≡◌, refl, sym, ap, ◌∙◌}
use Rattle.leaf.specs.Bytes.{long}
use Rattle.session.specs.declared.Session.{Session}
use Rattle.session.specs.Session.{fresh_session}
use Rattle.session.specs.Runs.{all_accepted}
use Rattle.rides.specs.Recording.{good_recording, RecordingMet, samples_in, train_of, sample_at, samples_from, samples_of}
use Rattle.rides.specs.Ride.{fresh_ride, told_of, turn_of, turn_at, ride_from, shown_by}
use Rattle.rides.specs.Replay.{steps_from, last_from, ran_from, unrun_by, replay_of}
use Rattle.rides.specs.declared.replay.End.TheVariants as end
use Rattle.rides.specs.declared.replay.Replayed.{Replayed}
use Rattle.rides.proofs.Recordings.{met_good}
use Rattle.rides.proofs.Runs.{recording_run, ride_goes}
use Rattle.rides.proofs.Refusals.{ride_given}
use Rattle.laws.specs.Ranges.{Inside}
use Rattle.laws.proofs.Ranges.{session_ranges}
use Rattle.laws.proofs.Inside.{inside_laws}
use Rattle.demands.specs.Replay.{InTurn, accepted_run, ReplayedAs, Ran, Stopped, WholeRide, Replay, ReplayExamples}
use Rattle.demands.specs.Replay as replay
use Rattle.demands.proofs.Answered.{samples_exactly}
use Rattle.demands.proofs.Computes.{definitions}
use Rattle.demands.proofs.InTurn as in_turn
use Rattle.demands.proofs.Replayed.{replays, runs_met, same_length, unrefused_as, two_quotas, only_due}
use Rattle.demands.proofs.ReplayLists.{listed, steps_counted, summed}

module _ (recording : List ℕ) (place : ℕ) (s : Session) (quota : ℕ) where
  is_as : ReplayedAs recording place s quota (replay_of recording place s quota)
  is_as = (replays recording place s quota _).0 refl

  -- ---- a bare number

  bare_as : (r : Replayed) → ReplayedAs recording place s quota r → (m : ℕ) → r.end ≡ end.Refused m
      → (((m ≡ 14) × ((n : ℕ) → RecordingMet recording n → ⊥)) ⊎ ((m ≡ 8) × (Inside s → ⊥))) × (r ≡ replay.none_run m s)
  bare_as r (replay.ReplayedAs.refused_14 none) m e = let n : m ≡ 14 = cc in (inl (n, none), ap (λ (k : ℕ). replay.none_run k s) (sym n))
  bare_as r (replay.ReplayedAs.refused_8 met out) m e = let n : m ≡ 8 = cc in (inr (n, out), ap (λ (k : ℕ). replay.none_run k s) (sym n))
  bare_as r (replay.ReplayedAs.unrefused met i due t) m e = let z : ◌≡◌ {A = ℕ} 0 1 = cc in absurd (omega arith)
  bare_as r (replay.ReplayedAs.refused_sample met i h t q) m e = let z : ◌≡◌ {A = ℕ} 0 1 = cc in absurd (omega arith)

  bare : (m : ℕ) → (replay_of recording place s quota).end ≡ end.Refused m → ((m ≡ 14) ⊎ (m ≡ 8)) × (replay_of recording place s quota ≡ replay.none_run m s)
  bare m e = let b = bare_as _ is_as m e in (either b.0, b.1)
    where
      either : ((m ≡ 14) × ((n : ℕ) → RecordingMet recording n → ⊥)) ⊎ ((m ≡ 8) × (Inside s → ⊥)) → (m ≡ 14) ⊎ (m ≡ 8)
      either (inl p) = inl p.0
      either (inr p) = inr p.0

  only_14 : replay_of recording place s quota ≡ replay.none_run 14 s → (n : ℕ) → RecordingMet recording n → ⊥
  only_14 e = of (bare_as _ is_as 14 (ap (λ (r : Replayed). r.end) e)).0
    where
      of : ((◌≡◌ {A = ℕ} 14 14) × ((n : ℕ) → RecordingMet recording n → ⊥)) ⊎ ((◌≡◌ {A = ℕ} 14 8) × (Inside s → ⊥)) → (n : ℕ) → RecordingMet recording n → ⊥
      of (inl p) = p.1
      of (inr p) = let z = p.0 in absurd (omega arith)

  only_8 : replay_of recording place s quota ≡ replay.none_run 8 s → Inside s → ⊥
  only_8 e = of (bare_as _ is_as 8 (ap (λ (r : Replayed). r.end) e)).0
    where
      of : ((◌≡◌ {A = ℕ} 8 14) × ((n : ℕ) → RecordingMet recording n → ⊥)) ⊎ ((◌≡◌ {A = ℕ} 8 8) × (Inside s → ⊥)) → Inside s → ⊥
      of (inl p) = let z = p.0 in absurd (omega arith)
      of (inr p) = p.1

  -- ---- a sample that is refused

  stopped_as : (r : Replayed) → ReplayedAs recording place s quota r → (n m position : ℕ) → RecordingMet recording n → r.end ≡ end.RefusedAt m position
      → Stopped recording place r (min quota (n - place)) m position
  stopped_as r (replay.ReplayedAs.refused_14 none) n m position met e = absurd (none n met)
  stopped_as r (replay.ReplayedAs.refused_8 met' out) n m position met e = let z : ◌≡◌ {A = ℕ} 0 1 = cc in absurd (omega arith)
  stopped_as r (replay.ReplayedAs.unrefused met' i due t) n m position met e = let z : ◌≡◌ {A = ℕ} 0 1 = cc in absurd (omega arith)
  stopped_as r (replay.ReplayedAs.refused_sample {n = n'} {k = k} {m = number} {before = u} {l = l} met' i h t q) n m position met e =
      let same = same_length recording n' n met' met in
      let number_is : m ≡ number = cc in
      let position_is : position ≡ place + k = cc in
      let by = (samples_exactly u (sample_at recording (place + k)) _).1 q in
      record { behind = position_is; within = rw same at h; by_it = rw (position_is, number_is) by }

  own_as : (r : Replayed) → ReplayedAs recording place s quota r → (m position : ℕ) → r.end ≡ end.RefusedAt m position → (9 ≤ m) × (m ≤ 11)
  own_as r (replay.ReplayedAs.refused_14 none) m position e = let z : ◌≡◌ {A = ℕ} 0 1 = cc in absurd (omega arith)
  own_as r (replay.ReplayedAs.refused_8 met out) m position e = let z : ◌≡◌ {A = ℕ} 0 1 = cc in absurd (omega arith)
  own_as r (replay.ReplayedAs.unrefused met i due t) m position e = let z : ◌≡◌ {A = ℕ} 0 1 = cc in absurd (omega arith)
  own_as r (replay.ReplayedAs.refused_sample {k = k} {m = number} {before = u} {l = l} met i h t q) m position e =
      let number_is : m ≡ number = cc in
      rw number_is (in_turn.own u (sample_at recording (place + k)) number q (in_turn.stays_inside recording place s i k u l t))

  -- ---- what ran

  turns : (r : Replayed) → ReplayedAs recording place s quota r → (n : ℕ) → RecordingMet recording n → Inside s → InTurn recording place s r.ran r.session r.last
  turns r (replay.ReplayedAs.refused_14 none) n met i = absurd (none n met)
  turns r (replay.ReplayedAs.refused_8 met' out) n met i = absurd (out i)
  turns r (replay.ReplayedAs.unrefused met' i' due t) n met i = t
  turns r (replay.ReplayedAs.refused_sample met' i' h t q) n met i = t

  ran : (n : ℕ) → RecordingMet recording n → Inside s → Ran recording place s (replay_of recording place s quota)
  ran n met i =
      let l = listed recording place s _ _ _ (turns _ is_as n met i) in
      record { accepted = l.accepted; session = l.session; answer = l.answer }

  all_run : (n : ℕ) → RecordingMet recording n → (replay_of recording place s quota).end ≡ end.Unrefused → (replay_of recording place s quota).ran ≡ min quota (n - place)
  all_run n met e =
      let u = unrefused_as recording place s quota _ is_as e in
      let same = same_length recording u.0.length n u.0.met met in
      rw same at u.1

  accepted_only : (n : ℕ) → RecordingMet recording n → Inside s → all_accepted s (samples_from recording place (min quota (n - place))) ≡ true
      → (replay_of recording place s quota).end ≡ end.Unrefused
  unfolding ran_from
  accepted_only n met i h =
      let xs = samples_from recording place (min quota (n - place)) in
      let goes = recording_run (fresh_ride s) recording place (min quota (n - place)) ∙ (ride_goes s xs h).0 in
      ap (λ (r : Replayed). r.end) (runs_met recording place s quota n met i) ∙ rw goes

  counted : (n : ℕ) → RecordingMet recording n → Inside s
      → ((replay_of recording place s quota).ran ≡ steps_from (fresh_ride s) recording place (min quota (n - place)))
      × ((replay_of recording place s quota).ran ≡ accepted_run s (samples_from recording place (min quota (n - place))))
  unfolding ran_from
  counted n met i =
      let steps = ap (λ (r : Replayed). r.ran) (runs_met recording place s quota n met i) in
      (steps, steps ∙ steps_counted s recording place (min quota (n - place)))

-- ---- a whole ride

whole : WholeRide replay_of
unfolding ran_from
whole card recording n s quota shown met opens enough e =
    let f = ride_given card recording shown e in
    let same = sym opens ∙ f.1 in
    let fresh : s ≡ fresh_session card (train_of recording) = cc in
    let length : samples_in recording ≡ n = (met_good recording n met).1 in
    let inside = (session_ranges.inside_exactly s).0 (inside_laws.opened_inside card (train_of recording) s opens) in
    let due : min quota (n - 0) ≡ samples_in recording = omega arith in
    let showing : shown ≡ shown_by (fresh_ride s) (samples_of recording) = rw fresh f.2 in
    let sums = summed s recording 0 (samples_in recording) in
    runs_met recording 0 s quota n met inside
    ∙ rw (due, showing, sums.answers, sums.answer, sums.ended, recording_run (fresh_ride s) recording 0 (samples_in recording))

pub replay_laws : Replay
replay_laws =
    record {
      replays = replays;
      refused_14 = λ recording place s quota. (only_14 recording place s quota, λ none. (replays recording place s quota _).1 (replay.ReplayedAs.refused_14 none));
      refused_8 = λ recording n place s quota met. (only_8 recording place s quota, λ out. (replays recording place s quota _).1 (replay.ReplayedAs.refused_8 met out));
      bare = bare;
      sample_numbers = λ recording place s quota m position e. own_as recording place s quota _ (is_as recording place s quota) m position e;
      unrefused = λ recording n place s quota met i. (λ e. rw (all_run recording place s quota n met e) at (ran recording place s quota n met i).accepted, accepted_only recording place s quota n met i);
      all_run = λ recording n place s quota met e. all_run recording place s quota n met e;
      counted = λ recording n place s quota met i. counted recording place s quota n met i;
      ran = λ recording n place s quota met i. ran recording place s quota n met i;
      stopped = λ recording n place s quota m position met e. stopped_as recording place s quota _ (is_as recording place s quota) n m position met e;
      only_due = only_due;
      two_quotas = two_quotas;
      whole = whole;
    }

pub replay_examples : ReplayExamples
unfolding definitions good_recording long unrun_by replay_of ran_from ride_from turn_at turn_of told_of steps_from last_from
replay_examples =
    record {
      second_alone = refl;
      whole_ride_lem = refl;
      one_short = refl;
      one_more = refl;
      greatest_quota = refl;
      rest = refl;
      at_the_end = refl;
      past_end = refl;
      far_past_end = refl;
      no_quota = refl;
      type_99 = refl;
      type_0 = refl;
      refused_second = refl;
      refused_first_due = refl;
      behind_quota = refl;
      before_place = refl;
      nine_steps_lem = refl;
      nine_steps_past = refl;
      nine_steps_13 = refl;
      fourteen_first = refl;
    }
