-- Sessions whose cards differ in version and later functions alone answer alike until one that differs speaks: one sample through its refusals, then a
-- list of samples.
use Prim.Native.Nat.{ℕ, suc, ◌*◌}
use mathlib.Core.Bool.{Bool, true, false, ◌&&◌}
use mathlib.Core.Path.{◌≡◌, refl, sym, ap, ◌∙◌}
use mathlib.Core.List.{List, [], ◌∷◌}
use lib.ListN.{take}
use Rattle.std.specs.Prelude.{Err}
use Rattle.leaf.specs.Answers.{numbered_refusal}
use Rattle.leaf.specs.Choosing.{pick}
use Rattle.card.specs.declared.Card.{Card}
use Rattle.card.specs.declared.Settings.{Settings}
use Rattle.card.specs.Card.{base_kind, reminds}
use Rattle.card.proofs.InRange.{reminder_zero}
use Rattle.signals.specs.Stop.{first_met, reminded_of, reminder_older}
use Rattle.desk.specs.declared.state.Desk.{Desk}
use Rattle.desk.specs.Clock.{same_mode, desk_older}
use Rattle.session.specs.declared.Sample.{Sample}
use Rattle.session.specs.declared.Session.{Session}
use Rattle.session.specs.Session.{Outcome}
use Rattle.session.specs.Types.{type_speed}
use Rattle.session.specs.Session.{fresh_session, with_card, card_inside, inside_of, refused_by, carried, ran_of, sample_of, in_bts}
use Rattle.session.specs.Runs.{accepted, outcomes}
use Rattle.session.proofs.Runs.{accepted_runs, refused_stays}
use Rattle.laws.proofs.Ranges.{card_only}
use Rattle.step_laws.proofs.Carried.{carried_laws}
use Rattle.demands.specs.Speaks.{crossing_function, zone_function, reminder_function, bts_function, version_function, pairs_function, later_functions, reminder_differs, meets_zone, meets_reminder, meets_limit, meets_second, differing_speaks, silent_for}
use Rattle.demands.proofs.Kept.{calm, stays_calm, calm_after}
use Rattle.demands.proofs.ByAnswer.{by_answer, by_after}
use Rattle.demands.proofs.Later.{later, AllSilent, all_silent, Entry, momentary, AllQuiet, all_fresh, all_stay}
use Rattle.demands.proofs.Apart.{reminder_same, RemindsAlike, step_alike}

-- ---- the functions and the desks on which they have not been looked at

-- a reminder whose settings are not looked at, off or due and not yet lit, stays so where its first lighting does not come
pub calm_stays : (s : Session) (t : Card) (x : Sample) → reminder_differs s.card t ≡ true → calm s.desk.reminder.phase ≡ true
    → meets_reminder s x ≡ false → calm (ran_of s x).session.desk.reminder.phase ≡ true
unfolding meets_reminder ran_of
calm_stays s t x o quiet dark = calm_after s.card (type_speed s.train * 100) (carried s x) s.desk quiet dark

abbrev pub reminder_entry : Entry
reminder_entry = record { function = reminder_function; quiet = λ d. calm d.reminder.phase; fresh = refl; stays = calm_stays }

-- a limit that an answer set stays so where no 10 or 11 is read
pub answered_stays : (s : Session) (t : Card) (x : Sample) → version_function.differs s.card t ≡ true → by_answer s.desk ≡ true
    → meets_limit s x ≡ false → by_answer (ran_of s x).session.desk ≡ true
unfolding meets_limit ran_of
answered_stays s t x o quiet unread = by_after s.card (type_speed s.train * 100) (carried s x) s.desk quiet unread

abbrev pub version_entry : Entry
version_entry = record { function = version_function; quiet = by_answer; fresh = refl; stays = answered_stays }

-- those of `later_functions`, in its order
abbrev pub entries : List Entry
entries = momentary crossing_function ∷ momentary zone_function ∷ reminder_entry ∷ momentary bts_function ∷ version_entry ∷ momentary pairs_function ∷ []

-- ---- one sample

module _ (t : Card) where
  -- the session on a card with the version and later functions of t, all else as it is
  abbrev pub beside : Session → Session
  beside u = with_card (later u.card t) u

  -- both cards are in range
  abbrev pub BothInside : Session → Type 0
  BothInside u = (card_inside u.card ≡ true) × (card_inside (beside u).card ≡ true)

  -- no function that differs has been looked at
  abbrev pub Quiet : Session → Type 0
  Quiet u = AllQuiet entries u.card t u.desk

  pub refusal_alike : (u : Session) (x : Sample) → BothInside u → refused_by (beside u) x ≡ refused_by u x
  unfolding refused_by inside_of
  refusal_alike u x both = rw (both.0, both.1)

  module _ (u : Session) (x : Sample) (both : BothInside u) (quiet : Quiet u) (silent : AllSilent later_functions u t x) where
    abbrev s : Settings
    s = u.card.settings

    abbrev r : Settings
    r = t.settings

    abbrev d : Desk
    d = u.desk

    -- the reminders' step: where function 2 differs it is not looked at, else its settings are the same
    reminds_alike : RemindsAlike (in_bts x.mode) (x.pulses * s.tick) (reminds s.functions) (reminds r.functions) s.x s.y r.x r.y d
    unfolding desk_older reminder_older meets_reminder
    reminds_alike same = cases (reminder_differs u.card t) refl silent.1.1.0
      where
        old : Desk
        old = desk_older (x.pulses * s.tick) d

        cases : (o : Bool) → reminder_differs u.card t ≡ o → (o && (same_mode d.bts (in_bts x.mode) && first_met old.main old.reminder)) ≡ false
            → reminded_of old.main (reminds s.functions) s.x s.y old.reminder ≡ reminded_of old.main (reminds r.functions) r.x r.y old.reminder
        cases true o h =
            let dark : first_met old.main old.reminder ≡ false = rw same at h in
            stays_calm old.main (reminds s.functions) s.x s.y old.reminder (quiet.1.1.0 o) dark
            ∙ sym (stays_calm old.main (reminds r.functions) r.x r.y old.reminder (quiet.1.1.0 o) dark)
        cases false o h =
            let e = reminder_same (reminds s.functions) (reminds r.functions) s.x s.y r.x r.y (reminder_zero base_kind (card_only u.card both.0).settings) (reminder_zero base_kind (card_only (later u.card t) both.1).settings) o in
            rw (e.0, e.1, e.2)

    pub ran_alike : ran_of (beside u) x ≡ record { session = beside (ran_of u x).session; outcome = (ran_of u x).outcome }
    unfolding ran_of meets_zone meets_limit meets_second
    ran_alike =
        let top : ℕ = type_speed u.train * 100 in
        rw (step_alike u.card t top (carried u x) d reminds_alike (carried_laws u.card top (carried u x) d).at_mode silent.0 silent.1.0 silent.1.1.1.0
        silent.1.1.1.1.0 silent.1.1.1.1.1.0 quiet.1.1.1.1.0)

  -- ---- a list of samples

  pub spoken : (u : Session) (x : Sample) → differing_speaks u (beside u).card x ≡ false → AllSilent later_functions u t x
  unfolding differing_speaks
  spoken u x h = all_silent later_functions u t x h

  -- the first answers are the same, up to and not including those of the first sample at which a differing function speaks
  abbrev pub AlikeFor : Session → List Sample → Type 0
  AlikeFor u xs =
      take (silent_for u (beside u).card xs) (outcomes u xs) ≡ take (silent_for u (beside u).card xs) (outcomes (beside u) xs)

  -- a sample leaves the card as it is: what is so of every session is so of the one after it, beside the same card
  alike_after : (u : Session) (x : Sample) (xs : List Sample) → BothInside u → AllQuiet entries u.card t (ran_of u x).session.desk
      → ((v : Session) → BothInside v → Quiet v → AlikeFor v xs)
      → (let k = silent_for (ran_of u x).session (beside u).card xs in
      take k (outcomes (ran_of u x).session xs) ≡ take k (outcomes (beside (ran_of u x).session) xs))
  unfolding ran_of
  alike_after u x xs both quiet every = every (ran_of u x).session both quiet

  alike : (u : Session) (xs : List Sample) → BothInside u → Quiet u → AlikeFor u xs
  unfolding silent_for outcomes
  alike u [] both quiet = refl
  alike u (x ∷ xs) both quiet = cases (accepted u x) refl (differing_speaks u (beside u).card x) refl (λ v b q. alike v xs b q)
    where
      rest : ℕ
      rest = silent_for (sample_of u x).session (beside u).card xs

      cases : (a : Bool) → accepted u x ≡ a → (k : Bool) → differing_speaks u (beside u).card x ≡ k
          → ((v : Session) → BothInside v → Quiet v → AlikeFor v xs)
          → take (pick (a && k) 0 (suc rest)) ((sample_of u x).outcome ∷ outcomes (sample_of u x).session xs)
          ≡ take (pick (a && k) 0 (suc rest)) ((sample_of (beside u) x).outcome ∷ outcomes (sample_of (beside u) x).session xs)
      cases true e true o ih = refl
      cases true e false o ih =
          let silent = spoken u x o in
          rw (accepted_runs u x e, accepted_runs (beside u) x (rw (refusal_alike u x both) e), ran_alike u x both quiet silent)
          (ap (λ (l : List Outcome). (ran_of u x).outcome ∷ l) (alike_after u x xs both (all_stay entries u t x quiet silent) ih))
      cases false e k o ih =
          rw (refused_stays u x e, refused_stays (beside u) x (rw (refusal_alike u x both) e), refusal_alike u x both)
          (ap (λ (l : List Outcome). Err (numbered_refusal (refused_by u x)) ∷ l) (ih u both quiet))

-- from a fresh session on
pub alike_fresh : (c t : Card) (train : ℕ) → card_inside c ≡ true → card_inside (later c t) ≡ true → (xs : List Sample)
    → AlikeFor t (fresh_session c train) xs
alike_fresh c t train inside also xs = alike t (fresh_session c train) xs (inside, also) (all_fresh entries c t)
