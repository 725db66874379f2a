-- What the start prints where it is refused; that the place where a quota ends fits two bytes; and how large a buffer holds the lines of a quota.
use Prim.Native.Nat.{ℕ, ◌+◌, ◌≤◌, min}
use native.Mathlib.Omega.{arith}
use mathlib.Core.Path.{◌≡◌, refl}
use mathlib.Core.Bool.{Bool, true, false}
use mathlib.Core.List.{List}
use lib.Dec.{eqb, lit≤}
use lib.ListN.{length, length-append}
use borrow.Author.Tests.{eqb-true}
use Rattle.leaf.specs.Choosing.{pick}
use Rattle.leaf.specs.Answers.{Answer, given, refused, refused_at, refusal_of}
use Rattle.leaf.specs.declared.refusal.Refusal.{Refusal}
use Rattle.leaf.proofs.ByNumber.{by_number}
use Rattle.std.specs.Prelude.{Some, None}
use Rattle.session.specs.declared.Session.{Session}
use Rattle.text.specs.Decimal.{ended, blank, line}
use Rattle.text.proofs.Lengths.{decimal-length}
use Rattle.rides.specs.Ride.{fresh_ride, number_of}
use Rattle.rides.specs.Replay.{Last, due_from, ran_from, unrun_of, unrun_by, replay_of}
use Rattle.rides.specs.declared.ride.Shown.TheVariants as shown
use Rattle.rides.specs.declared.replay.End.{End}
use Rattle.rides.specs.declared.replay.End.TheVariants as end
use Rattle.rides.proofs.Replays.{steps_low, few_samples}
use Rattle.printed.specs.Printed.{refused_line, columns_of, shown_text, start_on}
use Rattle.printed.specs.declared.Columns.TheVariants.{Whole}
use Rattle.printed.proofs.Room.{shown_length}
use Rattle.printed_replay.specs.Word.{most_quota}
use Rattle.printed_replay.specs.Quotas.{begun_text, start_text, ran_line, refused_at_line, replayed_text, quota_text, place_after}

-- ---- a start that is refused

pub begun_refused : (why : Refusal) → begun_text (refusal_of why) ≡ refused_line (number_of why)
unfolding begun_text
begun_refused why = by_number begun_text refused_line (λ n. refl) (λ n place. refl) why

-- the same of every number, also of one that no refusal has
pub begun_refused_any : ((n : ℕ) → begun_text (refused n) ≡ refused_line n) × ((n place : ℕ) → begun_text (refused_at n place) ≡ refused_line n)
unfolding begun_text
begun_refused_any = (λ n. refl, λ n place. refl)

-- ---- where a quota ends

-- a quota ends no further than at the recording's end, or where it began; both are places of two bytes
pub place_fits : (recording : List ℕ) (place : ℕ) (s : Session) (quota : ℕ) → place ≤ 65535 → place_after recording place s quota ≤ 65535
unfolding replay_of ran_from
place_fits recording place s quota h = cases (eqb (unrun_by recording s) 0) refl
  where
    cases : (t : Bool) → eqb (unrun_by recording s) 0 ≡ t
        → place + (pick t (ran_from s recording place (due_from recording place quota)) (unrun_of (unrun_by recording s) s)).ran ≤ 65535
    cases true e = omega (arith, few_samples recording s (eqb-true _ _ e), steps_low (fresh_ride s) recording place (due_from recording place quota))
    cases false e = omega arith

-- a quota above the greatest that a word gives is the same quota
pub most_quota_lem : (recording : List ℕ) (place : ℕ) (s : Session) (n : ℕ) → replay_of recording place s (min n most_quota) ≡ replay_of recording place s n
unfolding replay_of
most_quota_lem recording place s n = cases (eqb (unrun_by recording s) 0) refl
  where
    cases : (t : Bool) → eqb (unrun_by recording s) 0 ≡ t
        → pick t (ran_from s recording place (due_from recording place (min n most_quota))) (unrun_of (unrun_by recording s) s)
        ≡ pick t (ran_from s recording place (due_from recording place n)) (unrun_of (unrun_by recording s) s)
    cases true e =
        let same : due_from recording place (min n most_quota) ≡ due_from recording place n = omega (arith, few_samples recording s (eqb-true _ _ e)) in
        rw same
    cases false e = refl

-- ---- how large a buffer holds what is printed

refused_length : (n : ℕ) → length (refused_line n) ≤ 66
unfolding shown_text
refused_length n = shown_length Whole 0 (shown.Refused n)

pub start_length : (card recording : List ℕ) → length (start_text card recording) ≤ 108
unfolding start_text begun_text
start_length card recording = simp length-append (omega (arith, begun (start_on card recording)))
  where
    begun : (a : Answer Session) → length (begun_text a) ≤ 66
    begun (given s) = lit≤ tt
    begun (refused n) = refused_length n
    begun (refused_at n place) = refused_length n

ended-length : (n end : ℕ) → length (ended n end) ≤ 11
ended-length n end = simp length-append (omega (arith, decimal-length n))

ran_length : (place ran : ℕ) (l : Last) → length (ran_line place ran l) ≤ 77
unfolding ran_line shown_text
ran_length place ran (Some a) =
    let rest : length (line ran (columns_of Whole a)) ≤ 66 = shown_length Whole ran (shown.Answered a) in
    rw (length-append (ended place blank) (line ran (columns_of Whole a))) (omega (arith, ended-length place blank))
ran_length place ran None = simp length-append (omega (arith, decimal-length place, decimal-length ran))

refused_at_length : (n position : ℕ) → length (refused_at_line n position) ≤ 33
unfolding refused_at_line
refused_at_length n position = simp length-append (omega (arith, decimal-length n, decimal-length position))

-- seven numbers and what parts them; a refusal with its position
pub quota_length : (recording : List ℕ) (place : ℕ) (s : Session) (quota : ℕ) → length (quota_text recording place s quota) ≤ 110
unfolding quota_text replayed_text
quota_length recording place s quota = lines (replay_of recording place s quota).ran (replay_of recording place s quota).last (replay_of recording place s quota).end
  where
    lines : (ran : ℕ) (l : Last) (e : End) → length (replayed_text place ran l e) ≤ 110
    lines ran l end.Unrefused = omega (arith, ran_length place ran l)
    lines ran l (end.Refused n) = omega (arith, refused_length n)
    lines ran l (end.RefusedAt n position) = simp length-append (omega (arith, ran_length place ran l, refused_at_length n position))
