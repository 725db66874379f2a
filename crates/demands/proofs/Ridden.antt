-- A whole ride is answered exactly as demand 1 says: 14, then 2 or 5 for the card, 7, its samples.
use Prim.Native.Nat.{ℕ}
use native.Mathlib.Omega.{arith}
use mathlib.Core.Bool.{Bool, true, false}
use mathlib.Core.List.{List, [], ◌∷◌, map}
use mathlib.Core.Path.{◌≡◌, refl, ap}
use Rattle.leaf.specs.Answers.{Answer, given, refused, refusal_of, numbered_refusal}
use Rattle.card.specs.declared.Card.{Card}
use Rattle.step.specs.declared.Answer.{Answer as Told}
use Rattle.session.specs.declared.Sample.{Sample}
use Rattle.session.specs.declared.Session.{Session}
use Rattle.session.specs.Session.{fresh_session, open_session, ran_of, sample_of, outcome_of}
use Rattle.session.specs.Runs.{accepted, outcomes}
use Rattle.session.proofs.Numbers.{refused_paper}
use Rattle.session.proofs.Runs.{accepted_runs, refused_stays, number_given}
use Rattle.rides.specs.Recording.{good_recording, RecordingMet, samples_in, train_of, samples_of}
use Rattle.rides.specs.Ride.{start_ride, fresh_ride, shown_by, until_refused, shown_from, whole_ride}
use Rattle.rides.proofs.Recordings.{good_met, met_good}
use Rattle.rides.proofs.Runs.{shown_until}
use Rattle.rides.proofs.Refusals.{starts_good, starts_bad}
use Rattle.demands.specs.Opening.{OpenedAs}
use Rattle.demands.specs.Opening as opening
use Rattle.demands.specs.Demand1.{Exactly, ShownAs, RiddenAs}
use Rattle.demands.specs.Demand1 as paper
use Rattle.demands.proofs.Answered.{exactly, samples_exactly}
use Rattle.demands.proofs.Openings.{openings_exactly}

-- ---- its samples

-- what the session answers up to the first refusal
abbrev shown : Session → List Sample → List (Answer Told)
shown s xs = until_refused (map outcome_of (outcomes s xs))

shown_is : (s : Session) (xs : List Sample) → ShownAs s xs (shown s xs)
unfolding ran_of outcomes until_refused
shown_is s [] = paper.ShownAs.none
shown_is s (x ∷ xs) = cases (accepted s x) refl (λ t. shown_is t xs)
  where
    cases : (t : Bool) → accepted s x ≡ t → ((u : Session) → ShownAs u xs (shown u xs))
        → ShownAs s (x ∷ xs) (until_refused (outcome_of (sample_of s x).outcome ∷ map outcome_of (outcomes (sample_of s x).session xs)))
    cases true e rest =
        rw (accepted_runs s x e) (paper.ShownAs.answered ((samples_exactly s x _).0 (accepted_runs s x e)) (rest (ran_of s x).session))
    cases false e rest = rw (refused_stays s x e, refused_paper s x {A = Told} e) (paper.ShownAs.ended ((samples_exactly s x _).0 (refused_stays s x e)))

shown_only : (s : Session) (xs : List Sample) (l : List (Answer Told)) → ShownAs s xs l → shown s xs ≡ l
unfolding outcomes until_refused
shown_only s [] l paper.ShownAs.none = refl
shown_only s (x ∷ xs) l (paper.ShownAs.answered {after = u} {a = a} {rest = r} it later) = rw ((samples_exactly s x _).1 it) (ap (λ (m : List (Answer Told)). given a ∷ m) (shown_only u xs r later))
shown_only s (x ∷ xs) l (paper.ShownAs.ended {n = n} it) =
    let all = (samples_exactly s x _).1 it in
    let given = number_given s x n all in
    let number : refusal_of {A = Told} (numbered_refusal n) ≡ refused n = rw given.1 (refused_paper s x {A = Told} given.0) in
    rw (all, number)

-- ---- the ride

module _ (card : Card) (recording : List ℕ) where
  pub good : (n : ℕ) → RecordingMet recording n → start_ride card recording ≡ open_session card (train_of recording)
  good n m = starts_good card recording (met_good recording n m).0

  -- a recording that is none is 14
  pub none_good : ((n : ℕ) → RecordingMet recording n → ⊥) → start_ride card recording ≡ refused 14
  none_good none = cases (good_recording recording) refl
    where
      cases : (t : Bool) → good_recording recording ≡ t → start_ride card recording ≡ refused 14
      cases true e = absurd (none _ (good_met recording e))
      cases false e = starts_bad card recording e

  ridden_is : RiddenAs card recording (whole_ride card recording)
  unfolding whole_ride
  ridden_is = cases (good_recording recording) refl
    where
      xs : List Sample
      xs = samples_of recording

      from : (a : Answer Session) → OpenedAs card (train_of recording) a → RecordingMet recording (samples_in recording) → RiddenAs card recording (shown_from a xs)
      from a (opening.OpenedAs.refused_2 u) m = paper.RiddenAs.refused_2 m (opening.OpenedAs.refused_2 u)
      from a (opening.OpenedAs.refused_5 k at f) m = paper.RiddenAs.refused_5 m (opening.OpenedAs.refused_5 k at f)
      from a (opening.OpenedAs.refused_7 k t w) m = paper.RiddenAs.refused_7 m (opening.OpenedAs.refused_7 k t w)
      from a (opening.OpenedAs.opened k t w) m =
          let s = fresh_session card (train_of recording) in
          paper.RiddenAs.ridden {shown = shown_by (fresh_ride s) xs} m (opening.OpenedAs.opened k t w) (rw (shown_until s xs) (shown_is s xs))

      cases : (t : Bool) → good_recording recording ≡ t → RiddenAs card recording (shown_from (start_ride card recording) xs)
      cases true e =
          let m = good_met recording e in
          rw (good (samples_in recording) m) (from (open_session card (train_of recording)) ((openings_exactly card (train_of recording) _).0 refl) m)
      cases false e = rw (starts_bad card recording e) (paper.RiddenAs.refused_14 (λ n m. let z = (met_good recording n m).0 in let q : ◌≡◌ {A = ℕ} 0 1 = cc in omega arith))

  ridden_only : (a : Answer (List (Answer Told))) → RiddenAs card recording a → whole_ride card recording ≡ a
  unfolding whole_ride
  ridden_only a (paper.RiddenAs.refused_14 none) = rw (none_good none)
  ridden_only a (paper.RiddenAs.refused_2 {n = n} m o) = rw (good n m, (openings_exactly card (train_of recording) _).1 o)
  ridden_only a (paper.RiddenAs.refused_5 {n = n} m o) = rw (good n m, (openings_exactly card (train_of recording) _).1 o)
  ridden_only a (paper.RiddenAs.refused_7 {n = n} m o) = rw (good n m, (openings_exactly card (train_of recording) _).1 o)
  ridden_only a (paper.RiddenAs.ridden {n = n} {s = s} {shown = l} m o later) =
      rw (good n m, (openings_exactly card (train_of recording) _).1 o, shown_until s (samples_of recording)) (ap given (shown_only s (samples_of recording) l later))

  pub rides_exactly : Exactly (whole_ride card recording) (RiddenAs card recording)
  rides_exactly = exactly (RiddenAs card recording) ridden_is ridden_only
