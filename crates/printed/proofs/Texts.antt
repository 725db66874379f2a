-- What the printed ride's definitions give where a card or a recording is refused, and that a good recording has no more samples than
-- are run.
use Prim.Native.Nat.{ℕ, min}
use native.Mathlib.Nat.{min-eq_left}
use mathlib.Core.Path.{◌≡◌, refl}
use mathlib.Core.Bool.{Bool, true, false}
use mathlib.Core.List.{List}
use Rattle.leaf.specs.Choosing.{pick}
use Rattle.leaf.specs.Answers.{Answer, given, refused, refused_at, refusal_of}
use Rattle.leaf.specs.declared.refusal.Refusal.{Refusal}
use Rattle.leaf.proofs.ByNumber.{by_number, as_it_is}
use Rattle.card.specs.declared.Card.{Card}
use Rattle.session.specs.Session.{open_session}
use Rattle.rides.specs.Recording.{samples_in, most_samples, good_recording, train_of}
use Rattle.rides.specs.Ride.{start_ride, number_of}
use Rattle.rides.proofs.Recordings.{good_met}
use Rattle.printed.specs.Printed.{refused_line, started_text, card_text, start_after}
use Rattle.printed.specs.declared.Form.{Form}

pub started_refused : (form : Form) (recording : List ℕ) (n : ℕ) (why : Refusal) → started_text form recording n (refusal_of why) ≡ refused_line (number_of why)
unfolding started_text
started_refused form recording n why = by_number (started_text form recording n) refused_line (λ m. refl) (λ m place. refl) why

pub card_refused : (form : Form) (recording : List ℕ) (n : ℕ) (why : Refusal) → card_text form recording n (refusal_of why) ≡ refused_line (number_of why)
unfolding card_text
card_refused form recording n why = by_number (card_text form recording n) refused_line (λ m. refl) (λ m place. refl) why

pub start_refused : (why : Refusal) (recording : List ℕ) → start_after (refusal_of why) recording ≡ refusal_of why
start_refused why recording = as_it_is (λ read. start_after read recording) (λ m. refl) (λ m place. refl) why

-- the same three of every number, also of one that no refusal has
pub started_refused_any : (form : Form) (recording : List ℕ) (n : ℕ)
    → ((m : ℕ) → started_text form recording n (refused m) ≡ refused_line m) × ((m place : ℕ) → started_text form recording n (refused_at m place) ≡ refused_line m)
unfolding started_text
started_refused_any form recording n = (λ m. refl, λ m place. refl)

pub card_refused_any : (form : Form) (recording : List ℕ) (n : ℕ)
    → ((m : ℕ) → card_text form recording n (refused m) ≡ refused_line m) × ((m place : ℕ) → card_text form recording n (refused_at m place) ≡ refused_line m)
unfolding card_text
card_refused_any form recording n = (λ m. refl, λ m place. refl)

pub start_refused_any : (recording : List ℕ)
    → ((m : ℕ) → start_after (refused m) recording ≡ refused m) × ((m place : ℕ) → start_after (refused_at m place) recording ≡ refused_at m place)
start_refused_any recording = (λ m. refl, λ m place. refl)

-- a recording with more samples than a good one can have is refused before its first
pub capped : (form : Form) (recording : List ℕ) (read : Answer Card) → card_text form recording (min (samples_in recording) most_samples) read ≡ card_text form recording (samples_in recording) read
unfolding card_text start_ride started_text
capped form recording (given card) = cases (good_recording recording) refl
  where
    cases : (t : Bool) → good_recording recording ≡ t
        → started_text form recording (min (samples_in recording) most_samples) (pick t (open_session card (train_of recording)) (refused 14))
        ≡ started_text form recording (samples_in recording) (pick t (open_session card (train_of recording)) (refused 14))
    cases true e = rw (min-eq_left (good_met recording e).few)
    cases false e = refl
capped form recording (refused m) = refl
capped form recording (refused_at m place) = refl
