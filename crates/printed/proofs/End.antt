-- Nothing is printed after a refusal, and no line is skipped before one.
use Prim.Native.Nat.{ℕ, zero, suc, ◌+◌}
use native.Mathlib.Nat.{add-zero, add-suc}
use mathlib.Core.Path.{◌≡◌, refl, ap, ◌∙◌}
use mathlib.Core.Bool.{false}
use mathlib.Core.List.{List, [], ◌++◌, append-nil}
use lib.Dec.{eqb}
use Rattle.step.specs.declared.Answer.{Answer as Told}
use Rattle.text.specs.Decimal.{line}
use Rattle.rides.specs.Ride.{ride_after, turn_at}
use Rattle.rides.specs.declared.ride.Ride.{Ride}
use Rattle.rides.specs.declared.ride.Shown.TheVariants as shown
use Rattle.rides.proofs.Runs.{ended_stays, ended_shows}
use Rattle.rides.specs.Why.{explained_at}
use Rattle.step.specs.declared.speed.Reason.{Reason}
use Rattle.printed.specs.Printed.{columns_of, refused_line, shown_text, reason_text, turn_text, lines_of}
use Rattle.printed.specs.declared.Columns.{Columns}
use Rattle.printed.specs.declared.Form.{Form}
use Rattle.printed.specs.declared.Form.TheVariants.{Answers, Reasons}

lines_suc : (form : Form) (r : Ride) (recording : List ℕ) (k : ℕ)
    → lines_of form r recording (suc k)
    ≡ lines_of form r recording k ++ turn_text form (suc k) (turn_at (ride_after r recording k) recording k).shown (explained_at (ride_after r recording k) recording k).why.reason
unfolding lines_of turn_at
lines_suc form r recording k = refl

nothing_prints : (form : Form) (number : ℕ) (why : Reason) → turn_text form number shown.Nothing why ≡ []
unfolding turn_text shown_text reason_text
nothing_prints (Answers columns) number why = refl
nothing_prints Reasons number why = refl

-- once the ride has ended, further samples print nothing
pub ended_prints : (form : Form) (r : Ride) (recording : List ℕ) (k j : ℕ) → eqb (ride_after r recording k).ended 0 ≡ false
    → lines_of form r recording (k + j) ≡ lines_of form r recording k
ended_prints form r recording k zero e = ap (lines_of form r recording) (add-zero k)
ended_prints form r recording k (suc j) e =
    ap (lines_of form r recording) (add-suc k j) ∙ lines_suc form r recording (k + j)
    ∙ rw (ended_stays r recording 0 k j e, ended_shows (ride_after r recording k) recording (k + j) e, nothing_prints, append-nil) (ended_prints form r recording k j e)

-- an answered sample prints its line, numbered from 1, behind the lines before it
pub answered_prints : (columns : Columns) (r : Ride) (recording : List ℕ) (k : ℕ) (a : Told) → (turn_at (ride_after r recording k) recording k).shown ≡ shown.Answered a
    → lines_of (Answers columns) r recording (suc k) ≡ lines_of (Answers columns) r recording k ++ line (suc k) (columns_of columns a)
unfolding turn_text shown_text
answered_prints columns r recording k a e = lines_suc (Answers columns) r recording k ∙ rw e

-- a refused one prints its refusal
pub refused_prints : (columns : Columns) (r : Ride) (recording : List ℕ) (k n : ℕ) → (turn_at (ride_after r recording k) recording k).shown ≡ shown.Refused n
    → lines_of (Answers columns) r recording (suc k) ≡ lines_of (Answers columns) r recording k ++ refused_line n
unfolding turn_text shown_text
refused_prints columns r recording k n e = lines_suc (Answers columns) r recording k ∙ rw e
