-- What a byte can do to any receiver: an open one keeps it and stays open, and shows something only where it completes a sample; or it is
-- refused as it stands. Any other receiver is refused after it.
use Prim.Native.Nat.{ℕ, ◌+◌, ◌%◌, ◌<◌, ◌≤◌}
use native.Mathlib.Omega.{arith}
use mathlib.Core.Path.{◌≡◌, refl}
use mathlib.Core.Bool.{Bool, true, false}
use mathlib.Core.List.{List, ◌∷◌}
use mathlib.Core.Logic.{◌⊎◌, inl, inr}
use lib.Dec.{eqb, ltb}
use borrow.Author.Tests.{eqb-true, ltb-true}
use Rattle.std.specs.Prelude.{Ok, Err}
use Rattle.leaf.specs.Choosing.{pick}
use Rattle.leaf.specs.Answers.{Answer, given, refused, refused_at}
use Rattle.session.specs.declared.Sample.{Sample}
use Rattle.session.specs.declared.Session.{Session}
use Rattle.session.specs.Session.{Outcome, open_session, sample_of}
use Rattle.rides.specs.Ride.{fresh_ride, number_of, told_of, turn_of}
use Rattle.rides.specs.declared.ride.Shown.TheVariants.{Nothing}
use Rattle.receiver.specs.Receiver.{with_stated, with_part, with_session, with_status, counted_in, no_part, quietly, refused_with, head_fits, stated_with, opened_with, head_takes, place_in, part_fits, part_with, completed_by, sample_takes, open_takes, take_as, take_of, received_all}
use Rattle.receiver.specs.declared.Receiver.{Receiver}
use Rattle.receiver.specs.declared.Received.{Received}
use Rattle.receiver.specs.declared.Status.{Status}
use Rattle.receiver.specs.declared.Status.TheVariants.{Open, Ended, Refused}
use Rattle.receiver.proofs.Receivers.{refused_stays}

-- the byte is kept; behind the head the stated length stays
pub record Kept (r : Receiver) (got : Received) : Type 0 where
  pub was : r.status ≡ Open
  pub going : got.receiver.status ≡ Open
  pub counted : got.receiver.taken ≡ r.taken + 1
  pub shows : (got.shown ≡ Nothing) ⊎ (r.taken % 6 ≡ 5)
  pub stated : 6 ≤ r.taken → got.receiver.stated ≡ r.stated

-- it leaves the receiver refused; an open one by this byte
pub record Out (n : ℕ) (r : Receiver) (got : Received) : Type 0 where
  pub after : got.receiver.status ≡ Refused n
  pub now : r.status ≡ Open → got ≡ refused_with n r

abbrev pub Step : Receiver → Received → Type 0
Step r got = Kept r got ⊎ ((n : ℕ) × Out n r got)

refused_step : (n : ℕ) (r : Receiver) → Step r (refused_with n r)
unfolding refused_with
refused_step n r = inr (n, record { after = refl; now = λ e. refl })

module _ (r : Receiver) (was : r.status ≡ Open) where
  opened_step : (a : Answer Session) → Step r (opened_with r a)
  unfolding opened_with
  opened_step (given s) = inl (record { was = was; going = was; counted = refl; shows = inl refl; stated = λ h. refl })
  opened_step (refused n) = refused_step n r
  opened_step (refused_at n place) = refused_step n r

  head_step : (b : ℕ) → r.taken < 6 → Step r (head_takes r b)
  unfolding head_takes
  head_step b head = cases (head_fits r.stated r.taken b) (eqb r.taken 5)
    where
      cases : (fits last : Bool)
          → Step r (pick fits (pick last (opened_with r (open_session r.session.card b)) (quietly (counted_in (with_stated (stated_with r.stated r.taken b) r)))) (refused_with 14 r))
      cases true true = opened_step (open_session r.session.card b)
      cases true false = inl (record { was = was; going = was; counted = refl; shows = inl refl; stated = λ h. absurd (omega arith) })
      cases false last = refused_step 14 r

  told_step : (s : Session) (o : Outcome) → place_in r ≡ 5 → Step r (completed_by r (told_of s o))
  unfolding completed_by told_of refused_with
  told_step s (Ok a) five = inl (record { was = was; going = was; counted = refl; shows = inr five; stated = λ h. refl })
  told_step s (Err why) five = cases (eqb (number_of why) 0)
    where
      cases : (none : Bool)
          → Step r (record { receiver = pick none (counted_in (with_part no_part (with_session s r))) (with_status (Refused (number_of why)) r); shown = (told_of s (Err why)).shown })
      cases true = inl (record { was = was; going = was; counted = refl; shows = inr five; stated = λ h. refl })
      cases false = refused_step (number_of why) r

  sample_step : (b : ℕ) → Step r (sample_takes r b)
  unfolding sample_takes turn_of
  sample_step b = cases (part_fits (place_in r) b) (eqb (place_in r) 5) refl
    where
      x : Sample
      x = part_with r.part (place_in r) b

      cases : (fits last : Bool) → eqb (place_in r) 5 ≡ last
          → Step r (pick fits (pick last (completed_by r (turn_of (fresh_ride r.session) x)) (quietly (counted_in (with_part x r)))) (refused_with 9 r))
      cases true true e = told_step (sample_of r.session x).session (sample_of r.session x).outcome (eqb-true _ _ e)
      cases true false e = inl (record { was = was; going = was; counted = refl; shows = inl refl; stated = λ h. refl })
      cases false last e = refused_step 9 r

  open_step : (b : ℕ) → Step r (open_takes r b)
  unfolding open_takes
  open_step b = cases (ltb r.taken 6) (ltb r.taken r.stated) refl
    where
      cases : (head due : Bool) → ltb r.taken 6 ≡ head → Step r (pick head (head_takes r b) (pick due (sample_takes r b) (refused_with 14 r)))
      cases true due e = head_step b (ltb-true _ _ e)
      cases false true e = sample_step b
      cases false false e = refused_step 14 r

pub step_of : (r : Receiver) (b : ℕ) → Step r (take_of r b)
unfolding take_of take_as
step_of r b = cases r.status refl
  where
    cases : (now : Status) → r.status ≡ now → Step r (take_as now r b)
    cases Open e = open_step r e b
    cases Ended e = refused_step 14 r
    cases (Refused n) e = inr (n, record { after = e; now = λ o. cc })

-- a byte behind which the receiver is open was kept
pub kept-open : (r : Receiver) (b : ℕ) (l : List ℕ) → (received_all r (b ∷ l)).status ≡ Open → Kept r (take_of r b)
unfolding received_all
kept-open r b l o = cases (step_of r b)
  where
    cases : Step r (take_of r b) → Kept r (take_of r b)
    cases (inl k) = k
    cases (inr (n, out)) =
        let shut : (received_all (take_of r b).receiver l).status ≡ Refused n = rw (refused_stays (take_of r b).receiver n l out.after).0 out.after in
        let z : ◌≡◌ {A = ℕ} 0 1 = cc in
        absurd (omega arith)
