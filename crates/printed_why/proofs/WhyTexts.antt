-- What the definitions give where a card or a recording is refused, and that a good recording has no more samples than are run.
use Prim.Native.Nat.{ℕ, min}
use native.Mathlib.Nat.{min-eq_left}
use mathlib.Core.Path.{◌≡◌, refl}
use mathlib.Core.Bool.{Bool, true, false}
use mathlib.Core.List.{List}
use Rattle.leaf.specs.Choosing.{pick}
use Rattle.leaf.specs.Answers.{Answer, given, refused, refused_at, refusal_of}
use Rattle.leaf.specs.declared.refusal.Refusal.{Refusal}
use Rattle.leaf.proofs.ByNumber.{by_number}
use Rattle.card.specs.declared.Card.{Card}
use Rattle.card.specs.Reading.{card_in}
use Rattle.session.specs.Session.{open_session}
use Rattle.rides.specs.Recording.{samples_in, most_samples, good_recording, train_of}
use Rattle.rides.specs.Ride.{start_ride, number_of}
use Rattle.rides.proofs.Recordings.{good_met}
use Rattle.printed.specs.Printed.{highest, refused_line, start_after, start_on}
use Rattle.printed_why.specs.PrintedWhy.{why_below}
use Rattle.printed_why.specs.declared.Telling.{Telling}

pub below_refused : (telling : Telling) (recording : List ℕ) (n : ℕ) (why : Refusal) → why_below telling recording n (refusal_of why) ≡ refused_line (number_of why)
unfolding why_below
below_refused telling recording n why = by_number (why_below telling recording n) refused_line (λ m. refl) (λ m place. refl) why

-- the same of every number, also of one that no refusal has
pub below_refused_any : (telling : Telling) (recording : List ℕ) (n : ℕ)
    → ((m : ℕ) → why_below telling recording n (refused m) ≡ refused_line m) × ((m place : ℕ) → why_below telling recording n (refused_at m place) ≡ refused_line m)
unfolding why_below
below_refused_any telling recording n = (λ m. refl, λ m place. refl)

-- a recording with more samples than a good one can have is refused before its first
capped_after : (telling : Telling) (recording : List ℕ) (read : Answer Card)
    → why_below telling recording (min (samples_in recording) most_samples) (start_after read recording) ≡ why_below telling recording (samples_in recording) (start_after read recording)
unfolding start_ride why_below
capped_after telling recording (given card) = cases (good_recording recording) refl
  where
    cases : (t : Bool) → good_recording recording ≡ t
        → why_below telling recording (min (samples_in recording) most_samples) (pick t (open_session card (train_of recording)) (refused 14))
        ≡ why_below telling recording (samples_in recording) (pick t (open_session card (train_of recording)) (refused 14))
    cases true e = rw (min-eq_left (good_met recording e).few)
    cases false e = refl
capped_after telling recording (refused m) = refl
capped_after telling recording (refused_at m place) = refl

pub capped : (telling : Telling) (card recording : List ℕ)
    → why_below telling recording (min (samples_in recording) most_samples) (start_on card recording) ≡ why_below telling recording (samples_in recording) (start_on card recording)
unfolding start_on
capped telling card recording = capped_after telling recording (card_in card highest)
