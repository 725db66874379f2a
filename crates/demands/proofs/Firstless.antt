-- Where no beacon 10 or 11 has been read since opening, none is waiting for its second: by the walk through the steps of a sample.
use Prim.Native.Nat.{ℕ, ◌*◌}
use mathlib.Core.Bool.{Bool, true, false, ◌&&◌, false≢true}
use mathlib.Core.Path.{◌≡◌, refl, sym, ◌∙◌}
use mathlib.Core.List.{List, [], ◌∷◌}
use lib.Dec.{eqb}
use Rattle.leaf.specs.Answers.{given}
use Rattle.card.specs.declared.Card.{Card}
use Rattle.sides.specs.declared.pairs.First.{First}
use Rattle.sides.specs.Pairs.{is_first, first_older, all_older}
use Rattle.desk.specs.declared.state.Desk.{Desk}
use Rattle.desk.specs.State.{taken_over, crossing_set, limit_now, mode_changed}
use Rattle.desk.specs.Beside.{beside_older}
use Rattle.desk.specs.Clock.{desk_older, reminded}
use Rattle.buttons.specs.Buttons.{option_used, limit_removed, paired_removed, reminder_answered, override_armed, stop_increased, limit_stepped, hide_pressed}
use Rattle.beacons.specs.Beacons.{main_opened, side_opened, option_offered, reading4, stopped}
use Rattle.step.specs.declared.Input.{Input}
use Rattle.step.specs.Speed.{crossing_turned}
use Rattle.step.specs.Brake.{braked}
use Rattle.step.specs.Step.{judged_of, step_of}
use Rattle.step_laws.specs.Walk.{at_beacon, reads_limit, Sets, ToBeacon, OfBeacon}
use Rattle.step_laws.proofs.Choosing.{pick_has}
use Rattle.step_laws.proofs.Walk.{AnyReading, sets_any, at_beacon_lem, after_beacon}
use Rattle.session.specs.declared.Sample.{Sample}
use Rattle.session.specs.declared.Session.{Session}
use Rattle.session.specs.Types.{type_speed}
use Rattle.session.specs.Session.{open_session, carried, ran_of, sample_of}
use Rattle.session.specs.Runs.{accepted, after}
use Rattle.session.proofs.Runs.{accepted_runs, refused_stays}
use Rattle.session.proofs.Opening.{opening_fresh}
use Rattle.demands.specs.Speaks.{meets_limit, meets_second}
use Rattle.demands.specs.Pairs.{NoneRead}

-- none is waiting
abbrev Firstless : Desk → Type 0
Firstless e = is_first e.beside.paired.first.kind ≡ false

sets-firstless : Sets Firstless AnyReading
unfolding taken_over crossing_set limit_now
sets-firstless = sets_any (λ kind age distance e h. h) (λ age distance e h. h) (λ age e h. h)

older_firstless : (m : ℕ) (f : First) → is_first f.kind ≡ false → is_first (first_older m f).kind ≡ false
unfolding first_older
older_firstless m f h = rw h h

module _ (card : Card) (top : ℕ) (x : Input) (d : Desk) (none : Firstless d) where
  to_beacon-firstless : ToBeacon card top x d Firstless
  unfolding mode_changed reminded desk_older beside_older all_older option_used limit_removed paired_removed reminder_answered override_armed stop_increased limit_stepped hide_pressed
  to_beacon-firstless =
      record {
        changed = λ e. refl;
        advanced = λ e. older_firstless x.m d.beside.paired.first none;
        main_closed = λ e h. h;
        side_closed = λ e h. h;
        option = λ e h. h;
        removed = λ e h. h;
        paired_removed_lem = λ speed e h. pick_has Firstless (eqb speed 0) h h;
        answered = λ e h. h;
        armed = λ e h. h;
        increased = λ e h. h;
        stepped = λ e h. h;
        hidden = λ e h. h;
      }

  at_firstless : Firstless (at_beacon card top x d)
  at_firstless = at_beacon_lem sets-firstless to_beacon-firstless

  module _ (unread : reads_limit card x (at_beacon card top x d) ≡ false) where
    of_beacon-firstless : OfBeacon card top x d Firstless Firstless
    unfolding main_opened side_opened stopped reading4 option_offered limit_now
    of_beacon-firstless =
        record {
          unread = λ e h. h;
          main_opened_lem = λ w e o h. h;
          side_opened_lem = λ w e o h. h;
          zone_opened = λ e r c z h. h;
          shut = λ e r c h. h;
          stop = λ e r c h. h;
          protected = λ e h. h;
          single = λ e r h. h;
          first = λ code own e three r h. absurd (false≢true (sym unread ∙ r));
          pair = λ speed e three r h. absurd (false≢true (sym unread ∙ r));
          offered = λ e h. h;
        }

    after_firstless : Firstless (step_of card top x d).desk
    unfolding step_of judged_of crossing_turned braked
    after_firstless = after_beacon sets-firstless of_beacon-firstless at_firstless

-- ---- of sessions

sample-firstless : (s : Session) (x : Sample) → Firstless s.desk → (accepted s x ≡ true → meets_limit s x ≡ false) → Firstless (sample_of s x).session.desk
unfolding meets_limit ran_of
sample-firstless s x none unread = cases (accepted s x) refl
  where
    cases : (t : Bool) → accepted s x ≡ t → Firstless (sample_of s x).session.desk
    cases true e = rw (accepted_runs s x e) (after_firstless s.card (type_speed s.train * 100) (carried s x) s.desk none (unread e))
    cases false e = rw (refused_stays s x e) none

run_firstless : (s : Session) (xs : List Sample) → Firstless s.desk → NoneRead s xs → Firstless (after s xs).desk
unfolding after
run_firstless s [] none unread = none
run_firstless s (x ∷ xs) none unread = run_firstless (sample_of s x).session xs (sample-firstless s x none unread.0) unread.1

and_none : (a b : Bool) → b ≡ false → (a && b) ≡ false
and_none true b h = h
and_none false b h = refl

pub not_before_second : (card : Card) (train : ℕ) (s : Session) (xs : List Sample) → open_session card train ≡ given s → NoneRead s xs
    → (x : Sample) → meets_second (after s xs) x ≡ false
unfolding meets_second
not_before_second card train s xs opened unread x =
    let t = after s xs in
    let fresh : Firstless s.desk = rw (opening_fresh card train s opened) in
    and_none (meets_limit t x) _ (at_firstless t.card (type_speed t.train * 100) (carried t x) t.desk (run_firstless s xs fresh unread))
