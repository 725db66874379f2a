-- Request d: a replay is answered exactly as its plain facts say; two quotas and their sum.
use Prim.Native.Nat.{ℕ, ◌+◌, ◌-◌, min, ◌<◌}
use native.Mathlib.Omega.{arith}
use mathlib.Core.Bool.{Bool, true, false}
use mathlib.Core.List.{List}
use mathlib.Core.Logic.{◌⊎◌, inl, inr}
use mathlib.Core.Path.{◌≡◌, refl, sym, ap, subst, ◌∙◌}
use Rattle.leaf.specs.Checks.{or_fault}
use Rattle.session.specs.declared.Sample.{Sample}
use Rattle.session.specs.declared.Session.{Session}
use Rattle.session.specs.Session.{inside_of}
use Rattle.rides.specs.Recording.{good_recording, RecordingMet, samples_in}
use Rattle.rides.specs.Replay.{due_from, ran_from, replay_of, unrun_by}
use Rattle.rides.specs.declared.replay.End.TheVariants as end
use Rattle.rides.specs.declared.replay.Replayed.{Replayed}
use Rattle.rides.proofs.Recordings.{good_met, met_good}
use Rattle.laws.specs.Ranges.{Inside}
use Rattle.laws.proofs.Ranges.{session_ranges}
use Rattle.demands.specs.Demand1.{SampledAs, refusal_by}
use Rattle.demands.specs.Replay.{InTurn, ReplayedAs, ReplaysExactly, AlikeWhereDue, joined, TwoQuotas}
use Rattle.demands.specs.Replay as replay
use Rattle.demands.proofs.Answered.{exactly}
use Rattle.demands.proofs.InTurn as in_turn

-- ---- 14, 8, or samples

module _ (recording : List ℕ) (place : ℕ) (s : Session) (quota : ℕ) where
  bad : good_recording recording ≡ false → replay_of recording place s quota ≡ replay.none_run 14 s
  unfolding replay_of unrun_by or_fault
  bad e = rw e

  out : good_recording recording ≡ true → inside_of s ≡ false → replay_of recording place s quota ≡ replay.none_run 8 s
  unfolding replay_of unrun_by or_fault
  out e f = rw (e, f)

  runs : good_recording recording ≡ true → inside_of s ≡ true → replay_of recording place s quota ≡ ran_from s recording place (due_from recording place quota)
  unfolding replay_of unrun_by or_fault
  runs e f = rw (e, f)

  pub runs_met : (n : ℕ) → RecordingMet recording n → Inside s → replay_of recording place s quota ≡ ran_from s recording place (min quota (n - place))
  runs_met n m i =
      let good = met_good recording n m in
      runs good.0 ((session_ranges.inside_exactly s).1 i) ∙ ap (λ (k : ℕ). ran_from s recording place (min quota (k - place))) good.1

  is : ReplayedAs recording place s quota (replay_of recording place s quota)
  is = cases (good_recording recording) refl (inside_of s) refl
    where
      ran : RecordingMet recording (samples_in recording) → Inside s → in_turn.Goes recording place s (due_from recording place quota) ⊎ in_turn.Stops recording place s (due_from recording place quota)
          → ReplayedAs recording place s quota (ran_from s recording place (due_from recording place quota))
      ran m i (inl a) =
          rw (in_turn.ran-in_turn recording place s (due_from recording place quota) a.session a.answer a.in_turn) (replay.ReplayedAs.unrefused m i refl a.in_turn)
      ran m i (inr r) =
          rw (in_turn.ran_stopped recording place s (due_from recording place quota) r.run r.number r.session r.answer r.before r.in_turn r.refuses)
          (replay.ReplayedAs.refused_sample m i r.before r.in_turn r.refuses)

      cases : (t : Bool) → good_recording recording ≡ t → (u : Bool) → inside_of s ≡ u → ReplayedAs recording place s quota (replay_of recording place s quota)
      cases false e u f = rw (bad e) (replay.ReplayedAs.refused_14 (λ n m. let z = (met_good recording n m).0 in let q : ◌≡◌ {A = ℕ} 0 1 = cc in omega arith))
      cases true e false f =
          rw (out e f) (replay.ReplayedAs.refused_8 (good_met recording e) (λ i. let z = (session_ranges.inside_exactly s).1 i in let q : ◌≡◌ {A = ℕ} 0 1 = cc in omega arith))
      cases true e true f =
          rw (runs e f) (ran (good_met recording e) ((session_ranges.inside_exactly s).0 f) (in_turn.goes recording place s (due_from recording place quota)))

  only : (r : Replayed) → ReplayedAs recording place s quota r → replay_of recording place s quota ≡ r
  only r (replay.ReplayedAs.refused_14 none) = cases (good_recording recording) refl
    where
      cases : (t : Bool) → good_recording recording ≡ t → replay_of recording place s quota ≡ replay.none_run 14 s
      cases true e = absurd (none _ (good_met recording e))
      cases false e = bad e
  only r (replay.ReplayedAs.refused_8 {n = n} m outside) = cases (inside_of s) refl
    where
      cases : (t : Bool) → inside_of s ≡ t → replay_of recording place s quota ≡ replay.none_run 8 s
      cases true f = absurd (outside ((session_ranges.inside_exactly s).0 f))
      cases false f = out (met_good recording n m).0 f
  only r (replay.ReplayedAs.unrefused {n = n} {k = k} {behind = u} {l = l} m i due t) =
      runs_met n m i ∙ ap (ran_from s recording place) (sym due) ∙ in_turn.ran-in_turn recording place s k u l t
  only r (replay.ReplayedAs.refused_sample {n = n} {k = k} {m = number} {before = u} {l = l} m i h t q) =
      runs_met n m i ∙ in_turn.ran_stopped recording place s (min quota (n - place)) k number u l h t q

pub replays : ReplaysExactly replay_of
replays recording place s quota = exactly (ReplayedAs recording place s quota) (is recording place s quota) (only recording place s quota)

-- ---- what each end says

-- of a recording of n samples there is no other n
pub same_length : (recording : List ℕ) (n m : ℕ) → RecordingMet recording n → RecordingMet recording m → n ≡ m
same_length recording n m a b = sym (met_good recording n a).1 ∙ (met_good recording m b).1

-- what ran: samples accepted in turn, up to the number due or to one that is refused
pub record Run (recording : List ℕ) (place : ℕ) (s : Session) (quota : ℕ) (r : Replayed) : Type 0 where
  pub length : ℕ
  pub met : RecordingMet recording length
  pub inside : Inside s
  pub turns : InTurn recording place s r.ran r.session r.last

pub unrefused_as : (recording : List ℕ) (place : ℕ) (s : Session) (quota : ℕ) (r : Replayed) → ReplayedAs recording place s quota r → r.end ≡ end.Unrefused
    → (run : Run recording place s quota r) × (r.ran ≡ min quota (run.length - place))
unrefused_as recording place s quota r (replay.ReplayedAs.refused_14 none) e = let z : ◌≡◌ {A = ℕ} 0 1 = cc in absurd (omega arith)
unrefused_as recording place s quota r (replay.ReplayedAs.refused_8 m o) e = let z : ◌≡◌ {A = ℕ} 0 1 = cc in absurd (omega arith)
unrefused_as recording place s quota r (replay.ReplayedAs.unrefused {n = n} m i due t) e = (record { length = n; met = m; inside = i; turns = t }, due)
unrefused_as recording place s quota r (replay.ReplayedAs.refused_sample m i h t q) e = let z : ◌≡◌ {A = ℕ} 0 1 = cc in absurd (omega arith)

-- ---- two quotas

module _ (recording : List ℕ) (place : ℕ) (s : Session) (first second : ℕ) (a : Replayed) (run : Run recording place s first a)
    (due : a.ran ≡ min first (run.length - place)) where
  inside : Inside a.session
  inside = in_turn.stays_inside recording place s run.inside a.ran a.session a.last run.turns

  both : (b : Replayed) → ReplayedAs recording (place + a.ran) a.session second b → ReplayedAs recording place s (first + second) (joined a b)
  both b (replay.ReplayedAs.refused_14 none) = absurd (none run.length run.met)
  both b (replay.ReplayedAs.refused_8 m outside) = absurd (outside inside)
  both b (replay.ReplayedAs.unrefused {n = n'} {k = k} {behind = v} {l = l} m i rest t) =
      let same : n' ≡ run.length = same_length recording n' run.length m run.met in
      let all : a.ran + k ≡ min (first + second) (run.length - place) = omega (arith, due, rest, same) in
      replay.ReplayedAs.unrefused run.met run.inside all (in_turn.append recording place s a.ran a.session a.last run.turns k v l t)
  both b (replay.ReplayedAs.refused_sample {n = n'} {k = k} {m = number} {before = v} {l = l} m i h t q) =
      let same : n' ≡ run.length = same_length recording n' run.length m run.met in
      let less : a.ran + k < min (first + second) (run.length - place) = omega (arith, due, h, same) in
      let sum : place + a.ran + k ≡ place + (a.ran + k) = omega arith in
      rw sum
      (replay.ReplayedAs.refused_sample run.met run.inside less (in_turn.append recording place s a.ran a.session a.last run.turns k v l t) (rw sum at q))

pub two_quotas : TwoQuotas replay_of
two_quotas recording place s first second e =
    let a = replay_of recording place s first in
    let u = unrefused_as recording place s first a (is recording place s first) e in
    only recording place s (first + second) _
    (both recording place s first second a u.0 u.1 (replay_of recording (place + a.ran) a.session second) (is recording (place + a.ran) a.session second))

-- ---- what is looked at

alike : (a b : List ℕ) (place : ℕ) (s : Session) (quota : ℕ) → AlikeWhereDue a b place quota → (r : Replayed) → ReplayedAs b place s quota r → ReplayedAs a place s quota r
alike a b place s quota w r (replay.ReplayedAs.refused_14 none) = absurd (none w.length w.second)
alike a b place s quota w r (replay.ReplayedAs.refused_8 m out) = replay.ReplayedAs.refused_8 w.first out
alike a b place s quota w r (replay.ReplayedAs.unrefused {n = n} {k = k} {behind = u} {l = l} m i due t) =
    let same : n ≡ w.length = same_length b n w.length m w.second in
    let all : k ≡ min quota (w.length - place) = omega (arith, due, same) in
    replay.ReplayedAs.unrefused w.first i all (in_turn.elsewhere a b place s k u l (λ j h. w.samples j (omega (arith, h, all))) t)
alike a b place s quota w r (replay.ReplayedAs.refused_sample {n = n} {k = k} {m = number} {before = u} {l = l} m i h t q) =
    let same : n ≡ w.length = same_length b n w.length m w.second in
    let less : k < min quota (w.length - place) = omega (arith, h, same) in
    replay.ReplayedAs.refused_sample w.first i less (in_turn.elsewhere a b place s k u l (λ j g. w.samples j (omega (arith, g, less))) t)
    (subst (λ (x : Sample). SampledAs u x (refusal_by number u)) (sym (w.samples k less)) q)

pub only_due : (a b : List ℕ) (place : ℕ) (s : Session) (quota : ℕ) → AlikeWhereDue a b place quota → replay_of a place s quota ≡ replay_of b place s quota
only_due a b place s quota w = only a place s quota _ (alike a b place s quota w _ (is b place s quota))
