-- Lazy replays: what lets each pass, and that ours does not.
use Prim.Native.Nat.{ℕ}
use native.Mathlib.Omega.{arith}
use mathlib.Core.Bool.{false}
use mathlib.Core.List.{List}
use mathlib.Core.Path.{◌≡◌, refl, sym, ap, ◌∙◌}
use lib.Dec.{eqb}
use borrow.Author.Tests.{ne_eqb}
use Rattle.leaf.specs.Bytes.{long}
use Rattle.session.specs.declared.Session.{Session}
use Rattle.rides.specs.Recording.{good_recording}
use Rattle.rides.specs.Replay.{due_from, replay_of}
use Rattle.rides.specs.declared.replay.Replayed.{Replayed}
use Rattle.rides.proofs.Recordings.{met_good}
use Rattle.demands.specs.Replay.{Replayer, ReplaysExactly, three, opened, nine_steps, greatest}
use Rattle.demands.specs.Lazy.{idles, from_start, looks_late, ReplaysDue, ReplaysOut}
use Rattle.demands.proofs.Answered.{only_one}
use Rattle.demands.proofs.Computes.{definitions}
use Rattle.demands.proofs.Replayed.{replays}
use Rattle.demands.proofs.Replay.{replay_laws, replay_examples}

-- what is exactly so is what ours gives
ours : (f : Replayer) → ReplaysExactly f → (recording : List ℕ) (place : ℕ) (s : Session) (quota : ℕ) → f recording place s quota ≡ replay_of recording place s quota
ours f h recording place s quota = only_one (h recording place s quota) (replays recording place s quota)

idles_out : ReplaysExactly idles → ⊥
idles_out h =
    let e = ap (λ (r : Replayed). r.ran) (ours idles h three 0 opened 2 ∙ replay_examples.one_short) in
    omega arith

start_out : ReplaysExactly from_start → ⊥
start_out h =
    let whole = replay_examples.greatest_quota ∙ replay_examples.whole_ride_lem in
    let e = ap (λ (r : Replayed). r.ran) (sym whole ∙ ours from_start h three greatest opened greatest ∙ replay_examples.far_past_end) in
    omega arith

late : (recording : List ℕ) (place : ℕ) (s : Session) (quota : ℕ) → eqb (due_from recording place quota) 0 ≡ false → looks_late recording place s quota ≡ replay_of recording place s quota
late recording place s quota e = rw e

late_passes : ReplaysDue looks_late
late_passes recording n place s quota met due =
    let length = (met_good recording n met).1 in
    let some : due_from recording place quota ≡ 0 → ⊥ = λ z. omega arith in
    rw (late recording place s quota (ne_eqb _ _ some)) (replays recording place s quota)

late_out : ReplaysExactly looks_late → ⊥
unfolding definitions good_recording long
late_out h =
    let e = ap (λ (r : Replayed). r.end) (ours looks_late h three 0 nine_steps 0 ∙ replay_examples.nine_steps_lem) in
    let z : ◌≡◌ {A = ℕ} 0 1 = cc in
    omega arith

pub replays_out : ReplaysOut
replays_out =
    record {
      idles_passes = λ recording place s first second e. refl;
      idles_out = idles_out;
      start_passes = replay_laws.whole;
      start_out = start_out;
      late_passes = late_passes;
      late_out = late_out;
    }
