-- The room that the program gives to what the start prints, and to the lines of a quota, is enough: nothing is lost.
use Prim.Native.Nat.{ℕ, ◌≤◌}
use native.Mathlib.Omega.{arith}
use mathlib.Core.List.{List}
use lib.ListN.{length}
use Rattle.session.specs.declared.Session.{Session}
use Rattle.printed_replay.specs.Quotas.{start_text, quota_text}
use Rattle.printed_replay.proofs.ReplayTexts.{start_length, quota_length}

pub start_fits : (card recording : List ℕ) → length (start_text card recording) ≤ 4096
start_fits card recording = omega (arith, start_length card recording)

pub quota_fits : (recording : List ℕ) (place : ℕ) (s : Session) (quota : ℕ) → length (quota_text recording place s quota) ≤ 4096
quota_fits recording place s quota = omega (arith, quota_length recording place s quota)
