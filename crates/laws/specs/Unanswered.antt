-- Document 01, "Controls": "A reading on an open window takes its place, pressed from the next sample to the older one's miss"; "age 30 is a miss,
-- even with a press"; "Slips we have seen": "Letting a new beacon lend an unanswered one more time, the stop zone aside." Of every session and
-- every accepted sample, what `step_laws` says of every sample of the desk: with the session's settings and T and what it takes of the sample.
use Rattle.std.specs.Prelude.{ℕ, ◌*◌, ◌≡◌}
use Rattle.session.specs.declared.Sample.{Sample}
use Rattle.session.specs.declared.Session.{Session}
use Rattle.session.specs.Types.{type_speed}
use Rattle.session.specs.Session.{in_bts, refused_by, carried, sample_of}
use Rattle.step_laws.specs.Unanswered.{Which, main, side, TimeOver, WindowAfter}
use Rattle.laws.specs.Refusals.{mode_of}

-- the session's T, hundredths of km/h
abbrev pub top_of : Session → ℕ
top_of s = type_speed s.train * 100

pub record UnansweredLaws (s : Session) (x : Sample) : Type 0 where
  -- a sample of the session's mode keeps it
  pub keeps_mode : x.mode ≡ mode_of s → s.desk.bts ≡ in_bts x.mode
  -- an unanswered window is one sample nearer its miss, whatever was read, or shut by a 3 or 8, or the zone's
  pub window_after :
      refused_by s x ≡ 0 → (which : Which) → WindowAfter s.card (top_of s) (carried s x) s.desk (sample_of s x).session.desk which
  -- time over is a miss: "cause 1 main, cause 2 side", the lower of both, where no cause stood,
  pub main_missed_lem :
      refused_by s x ≡ 0 → TimeOver (carried s x) s.desk main → s.desk.brake.cause ≡ 0 → (sample_of s x).session.desk.brake.cause ≡ 1
  pub side_missed_lem :
      refused_by s x ≡ 0 → TimeOver (carried s x) s.desk side → (TimeOver (carried s x) s.desk main → ⊥) → s.desk.brake.cause ≡ 0
      → (sample_of s x).session.desk.brake.cause ≡ 2
  -- and whatever stood, the brake is on
  pub missed_brakes : refused_by s x ≡ 0 → (which : Which) → TimeOver (carried s x) s.desk which → (sample_of s x).session.desk.brake.cause ≡ 0 → ⊥
