-- "a ride 14, 7, its samples", 02 g: "the opening .. judges version and settings as the writer does (2, then 5)": what a whole ride gives, and
-- exactly when. (`Runs` has its samples.)
use Prim.Native.Nat.{ℕ}
use native.Mathlib.Omega.{arith}
use mathlib.Core.Path.{◌≡◌, refl, sym, ◌∙◌}
use mathlib.Core.Bool.{Bool, true, false}
use mathlib.Core.Logic.{◌⊎◌, inl, inr}
use mathlib.Core.List.{List}
use Rattle.leaf.specs.Answers.{Answer, given, refused, refused_at}
use Rattle.card.specs.declared.Card.{Card}
use Rattle.card.specs.Card.{known}
use Rattle.card.specs.Ranges.{in_range, check_settings}
use Rattle.step.specs.declared.Answer.{Answer as Told}
use Rattle.session.specs.declared.Sample.{Sample}
use Rattle.session.specs.declared.Session.{Session}
use Rattle.session.specs.Types.{type_allowed}
use Rattle.session.specs.Session.{fresh_session, judge_card, open_session}
use Rattle.session.proofs.Opening.{judged_known, judged_unknown, judged_number, judged_place, judged_fine, opening_number, opening_place, opening_fresh}
use Rattle.rides.specs.Recording.{good_recording, train_of, samples_of}
use Rattle.rides.specs.Ride.{start_ride, fresh_ride, shown_by, shown_from, whole_ride}

-- ---- what starts, or not

started_given : (a : Answer Session) (xs : List Sample) (shown : List (Answer Told)) → shown_from a xs ≡ given shown
    → (s : Session) × (a ≡ given s) × (shown ≡ shown_by (fresh_ride s) xs)
started_given (given s) xs shown h = (s, refl, cc)
started_given (refused n) xs shown h = let z : ◌≡◌ {A = ℕ} 0 1 = cc in absurd (omega arith)
started_given (refused_at n place) xs shown h = let z : ◌≡◌ {A = ℕ} 0 1 = cc in absurd (omega arith)

started_number : (a : Answer Session) (xs : List Sample) (n : ℕ) → shown_from a xs ≡ refused n → a ≡ refused n
started_number (given s) xs n h = let z : ◌≡◌ {A = ℕ} 0 1 = cc in absurd (omega arith)
started_number (refused m) xs n h = cc
started_number (refused_at m place) xs n h = let z : ◌≡◌ {A = ℕ} 0 1 = cc in absurd (omega arith)

started_place : (a : Answer Session) (xs : List Sample) (n place : ℕ) → shown_from a xs ≡ refused_at n place → a ≡ refused_at n place
started_place (given s) xs n place h = let z : ◌≡◌ {A = ℕ} 0 1 = cc in absurd (omega arith)
started_place (refused m) xs n place h = let z : ◌≡◌ {A = ℕ} 0 1 = cc in absurd (omega arith)
started_place (refused_at m p) xs n place h = cc

module _ (card : Card) (recording : List ℕ) where
  pub starts_good : good_recording recording ≡ true → start_ride card recording ≡ open_session card (train_of recording)
  unfolding start_ride
  starts_good e = rw e

  pub starts_bad : good_recording recording ≡ false → start_ride card recording ≡ refused 14
  unfolding start_ride
  starts_bad e = rw e

  -- the number n is 14, 2 or 7, each with what it stands for
  abbrev pub Due14 : ℕ → Type 0
  Due14 n = (n ≡ 14) × (good_recording recording ≡ false)

  abbrev pub Due2 : ℕ → Type 0
  Due2 n = (n ≡ 2) × (good_recording recording ≡ true) × (known card.version ≡ false)

  abbrev pub Due7 : ℕ → Type 0
  Due7 n =
      (n ≡ 7) × (good_recording recording ≡ true) × (known card.version ≡ true) × (check_settings card.version card.settings ≡ in_range)
      × (type_allowed (train_of recording) card.settings.vmax ≡ false)

  -- a bare number is 14, the recording being bad; or 2, the version being unknown; or else 7, the settings being in range beside the version
  -- and the train type not allowed
  pub ride_number : (n : ℕ) → whole_ride card recording ≡ refused n → Due14 n ⊎ (Due2 n ⊎ Due7 n)
  unfolding whole_ride
  ride_number n h = cases (good_recording recording) refl
    where
      start : start_ride card recording ≡ refused n
      start = started_number (start_ride card recording) (samples_of recording) n h

      opened : good_recording recording ≡ true
          → (judge_card card ≡ refused n) ⊎ ((n ≡ 7) × (judge_card card ≡ in_range) × (type_allowed (train_of recording) card.settings.vmax ≡ false))
          → Due14 n ⊎ (Due2 n ⊎ Due7 n)
      opened e (inl p) = let two = judged_number card n p in inr (inl (two.0, e, two.1))
      opened e (inr p) = let fine = judged_fine card p.1 in inr (inr (p.0, e, fine.0, fine.1, p.2))

      cases : (t : Bool) → good_recording recording ≡ t → Due14 n ⊎ (Due2 n ⊎ Due7 n)
      cases false e = let bad = starts_bad e in let same : n ≡ 14 = cc in inl (same, e)
      cases true e = opened e (opening_number card (train_of recording) n (sym (starts_good e) ∙ start))

  -- ---- each exactly when, and in this order

  -- 14: the recording is bad, whatever else is
  pub ride_14 : (good_recording recording ≡ false → whole_ride card recording ≡ refused 14)
      × (whole_ride card recording ≡ refused 14 → good_recording recording ≡ false)
  unfolding whole_ride
  ride_14 = (λ e. rw (starts_bad e), λ h. only (ride_number 14 h))
    where
      only : Due14 14 ⊎ (Due2 14 ⊎ Due7 14) → good_recording recording ≡ false
      only (inl p) = p.1
      only (inr (inl p)) = let z = p.0 in absurd (omega arith)
      only (inr (inr p)) = let z = p.0 in absurd (omega arith)

  -- 2: the version is unknown, which that of no card that was read is
  pub ride_2 : (good_recording recording ≡ true → known card.version ≡ false → whole_ride card recording ≡ refused 2)
      × (whole_ride card recording ≡ refused 2 → (good_recording recording ≡ true) × (known card.version ≡ false))
  unfolding whole_ride open_session
  ride_2 = (λ e k. rw (starts_good e, judged_unknown card k), λ h. only (ride_number 2 h))
    where
      only : Due14 2 ⊎ (Due2 2 ⊎ Due7 2) → (good_recording recording ≡ true) × (known card.version ≡ false)
      only (inl p) = let z = p.0 in absurd (omega arith)
      only (inr (inl p)) = (p.1, p.2)
      only (inr (inr p)) = let z = p.0 in absurd (omega arith)

  -- 5 with its place: settings out of range beside their version, which no card that was read has
  pub ride_5 : (n place : ℕ)
      → (good_recording recording ≡ true → known card.version ≡ true → check_settings card.version card.settings ≡ refused_at n place
      → whole_ride card recording ≡ refused_at n place)
      × (whole_ride card recording ≡ refused_at n place
      → (good_recording recording ≡ true) × (known card.version ≡ true) × (check_settings card.version card.settings ≡ refused_at n place))
  unfolding whole_ride open_session
  ride_5 n place = (
    λ e k f. rw (starts_good e, judged_known card k, f),
    λ h. only (good_recording recording) refl (started_place (start_ride card recording) (samples_of recording) n place h),
  )
    where
      only : (t : Bool) → good_recording recording ≡ t → start_ride card recording ≡ refused_at n place
          → (good_recording recording ≡ true) × (known card.version ≡ true) × (check_settings card.version card.settings ≡ refused_at n place)
      only false e start = let bad = starts_bad e in let z : ◌≡◌ {A = ℕ} 0 1 = cc in absurd (omega arith)
      only true e start =
          let placed = judged_place card n place (opening_place card (train_of recording) n place (sym (starts_good e) ∙ start)) in
          (e, placed.0, placed.1)

  -- 7: the train type, where recording, version and settings are good
  pub ride_7 :
      (good_recording recording ≡ true → known card.version ≡ true → check_settings card.version card.settings ≡ in_range
      → type_allowed (train_of recording) card.settings.vmax ≡ false → whole_ride card recording ≡ refused 7)
      × (whole_ride card recording ≡ refused 7
      → (good_recording recording ≡ true) × (known card.version ≡ true) × (check_settings card.version card.settings ≡ in_range)
      × (type_allowed (train_of recording) card.settings.vmax ≡ false))
  unfolding whole_ride open_session
  ride_7 = (λ e k f g. rw (starts_good e, judged_known card k, f, g), λ h. only (ride_number 7 h))
    where
      only : Due14 7 ⊎ (Due2 7 ⊎ Due7 7)
          → (good_recording recording ≡ true) × (known card.version ≡ true) × (check_settings card.version card.settings ≡ in_range)
          × (type_allowed (train_of recording) card.settings.vmax ≡ false)
      only (inl p) = let z = p.0 in absurd (omega arith)
      only (inr (inl p)) = let z = p.0 in absurd (omega arith)
      only (inr (inr p)) = (p.1, p.2, p.3, p.4)

  -- else its samples, run from the fresh session
  pub ride_runs : good_recording recording ≡ true → known card.version ≡ true → check_settings card.version card.settings ≡ in_range
      → type_allowed (train_of recording) card.settings.vmax ≡ true
      → whole_ride card recording ≡ given (shown_by (fresh_ride (fresh_session card (train_of recording))) (samples_of recording))
  unfolding whole_ride open_session
  ride_runs e k f g = rw (starts_good e, judged_known card k, f, g)

  pub ride_given : (shown : List (Answer Told)) → whole_ride card recording ≡ given shown
      → (good_recording recording ≡ true) × (open_session card (train_of recording) ≡ given (fresh_session card (train_of recording)))
      × (shown ≡ shown_by (fresh_ride (fresh_session card (train_of recording))) (samples_of recording))
  unfolding whole_ride
  ride_given shown h = cases (good_recording recording) refl (started_given (start_ride card recording) (samples_of recording) shown h)
    where
      cases : (t : Bool) → good_recording recording ≡ t
          → (s : Session) × (start_ride card recording ≡ given s) × (shown ≡ shown_by (fresh_ride s) (samples_of recording))
          → (good_recording recording ≡ true) × (open_session card (train_of recording) ≡ given (fresh_session card (train_of recording)))
          × (shown ≡ shown_by (fresh_ride (fresh_session card (train_of recording))) (samples_of recording))
      cases false e p =
          let bad = starts_bad e in
          let start = p.1 in
          let z : ◌≡◌ {A = ℕ} 0 1 = cc in
          absurd (omega arith)
      cases true e p =
          let opened = sym (starts_good e) ∙ p.1 in
          let fresh = opening_fresh card (train_of recording) p.0 opened in
          (e, rw fresh at opened, rw fresh at p.2)
