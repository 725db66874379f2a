-- An accepted sample is the desk's sample: its windows and misses by the laws of `step_laws`.
use Prim.Native.Nat.{ℕ}
use native.Mathlib.Omega.{arith}
use mathlib.Core.Path.{◌≡◌, ap, ◌∙◌}
use mathlib.Core.Bool.{Bool, true, false}
use Rattle.leaf.specs.Choosing.{pick}
use Rattle.desk.specs.declared.state.Desk.{Desk}
use Rattle.step.specs.Step.{step_of}
use Rattle.session.specs.declared.Sample.{Sample}
use Rattle.session.specs.declared.Session.{Session}
use Rattle.session.specs.declared.Sampled.{Sampled}
use Rattle.session.specs.Session.{in_bts, refused_by, carried, ran_of, sample_of}
use Rattle.step_laws.specs.Unanswered.{Which, main, side, TimeOver}
use Rattle.step_laws.proofs.Brake.{brake_laws}
use Rattle.step_laws.proofs.Unanswered.{window_after}
use Rattle.step_laws.proofs.Missed.{miss_laws}
use Rattle.laws.specs.Unanswered.{top_of, UnansweredLaws}
use Rattle.laws.proofs.Refusals.{refusal_laws}

mode_as : (bts : Bool) (mode : ℕ) → mode ≡ pick bts 2 1 → bts ≡ in_bts mode
mode_as true mode e = rw e
mode_as false mode e = rw e

module _ (s : Session) (x : Sample) where
  -- the desk of an accepted sample
  desk_after : refused_by s x ≡ 0 → (sample_of s x).session.desk ≡ (step_of s.card (top_of s) (carried s x) s.desk).desk
  unfolding ran_of
  desk_after a = ap (λ (r : Sampled). r.session.desk) ((refusal_laws s x).accepted_as a)

  abbrev Over : Which → Type 0
  Over which = TimeOver (carried s x) s.desk which

  abbrev arose : ℕ
  arose = (step_of s.card (top_of s) (carried s x) s.desk).arose

  arose-main : Over main → arose ≡ 1
  arose-main t = (miss_laws s.card (top_of s) (carried s x) s.desk).cause_1.1 t

  arose-side : Over side → (Over main → ⊥) → arose ≡ 2
  arose-side t n = (miss_laws s.card (top_of s) (carried s x) s.desk).cause_2.1 (t, n)

  -- a cause arises
  some_arose : (which : Which) → Over which → arose ≡ 0 → ⊥
  some_arose main t z = let e = arose-main t in omega arith
  some_arose side t z = let e = arose-side t (λ m. let e = arose-main m in omega arith) in omega arith

  -- the cause after the sample is the one that arose, where none stood
  stands_after : refused_by s x ≡ 0 → s.desk.brake.cause ≡ 0 → (sample_of s x).session.desk.brake.cause ≡ arose
  stands_after a z = ap (λ (d : Desk). d.brake.cause) (desk_after a) ∙ (brake_laws s.card (top_of s) (carried s x) s.desk).first_stands z

  missed_brakes : refused_by s x ≡ 0 → (which : Which) → Over which → (sample_of s x).session.desk.brake.cause ≡ 0 → ⊥
  missed_brakes a which t z =
      (brake_laws s.card (top_of s) (carried s x) s.desk).brake_not_off (some_arose which t) (rw (desk_after a) at z)

  pub unanswered_laws : UnansweredLaws s x
  unanswered_laws =
      record {
        keeps_mode = mode_as s.desk.bts x.mode;
        window_after = λ a which. rw (desk_after a) (window_after s.card (top_of s) (carried s x) s.desk which);
        main_missed_lem = λ a t z. stands_after a z ∙ arose-main t;
        side_missed_lem = λ a t n z. stands_after a z ∙ arose-side t n;
        missed_brakes = missed_brakes;
      }
