-- What a sample does to an open window: unanswered, by the buttons and then the walk from the beacon on; shut, or the zone's, by the reading itself.
use Prim.Native.Nat.{ℕ, suc, ◌+◌, ◌≤◌}
use native.Mathlib.Omega.{arith}
use mathlib.Core.Path.{◌≡◌, refl, sym, ap, ◌∙◌}
use mathlib.Core.Bool.{Bool, true, false, ◌&&◌, false≢true}
use mathlib.Core.List.{List, [], ◌∷◌}
use mathlib.Core.Logic.{◌⊎◌, inl, inr, ◌↔◌}
use lib.ListN.{length}
use Rattle.leaf.specs.Choosing.{and_split}
use Rattle.card.specs.declared.Card.{Card}
use Rattle.card.specs.declared.Pairs.{Pairs}
use Rattle.card.specs.Card.{protects, zones}
use Rattle.signals.specs.declared.window.Waits.{Waits}
use Rattle.signals.specs.declared.window.Waits.TheVariants as waits
use Rattle.signals.specs.declared.window.Window.{Window}
use Rattle.signals.specs.Windows.{miss_time, zone_miss, closed, opened, is_open, window_older, missed_of, answers_of, time_left}
use Rattle.signals.specs.MainControl.{main_older, near_of}
use Rattle.desk.specs.declared.state.Desk.{Desk}
use Rattle.desk.specs.State.{with_code, with_window, crossing_set, with_limit, limit_now}
use Rattle.sides.specs.Limit.{no_limit}
use Rattle.desk.specs.Clock.{desk_older, reminded, main_counts, main_missed, side_missed, advanced, begun}
use Rattle.buttons.specs.Buttons.{chosen, answered_by, main_answered, side_answered, pressed, free_for, option_used, limit_removed, lowest_removed, reminder_answered, override_armed, stop_increased, limit_stepped, crossing_pressed, limit_pressed, override_pressed, increase_pressed, hide_pressed, window_presses, all_presses, presses_of}
use Rattle.beacons.specs.Beacons.{first_kept, drops_single, single_dropped, pair_set, main_opened, side_opened, option_offered, reading3, reading4, zone_met, reading7, stopped, reading8, reading_of, read_if, beacon_taken}
use Rattle.step.specs.declared.Input.{Input}
use Rattle.step.specs.Speed.{crossing_turned}
use Rattle.step.specs.Brake.{braked}
use Rattle.step.specs.Step.{has_pairs, moved_of, judged_of, step_of}
use Rattle.step_laws.proofs.Choosing.{pick_has}
use Rattle.step_laws.specs.Walk.{at_beacon, reads_at, OfBeacon}
use Rattle.step_laws.specs.Unanswered.{Which, main, side, is_main, window_of, Open, TimeOver, Unanswered, reads, Shuts, Zones, WindowAfter, waiting_desk, beacon7, sharing_desk, beacon10, NoLending, steps_of, AllUnanswered, ChainLaws}
use Rattle.step_laws.proofs.Walk.{after_beacon}
use Rattle.step_laws.proofs.Carried.{zone_code, carried_laws}
use Rattle.step_laws.proofs.Presses.{sets-window, answer_laws}

-- ---- from the beacon on, with a window at hand that is one sample older

-- what the sample leaves of it
data Left (card : Card) (top : ℕ) (x : Input) (d : Desk) (which : Which) (before : ℕ) (w : Window) : Type 0 where
  near : is_open w.waits ≡ true → w.left + 1 ≡ before → Left card top x d which before w
  shut : Shuts card x d which → Left card top x d which before w
  zone : Zones card top x d which → Left card top x d which before w

-- a beacon is read by the desk where it is looked at exactly as by the desk before
reads_at_lem : (card : Card) (top : ℕ) (x : Input) (d : Desk) → reads_at card x (at_beacon card top x d) ≡ reads card x d
reads_at_lem card top x d = let c = carried_laws card top x d in rw (c.at_mode, c.at_code)

module _ (card : Card) (top : ℕ) (x : Input) (d : Desk) (old : Window) (before : ℕ)
    (waits_on : is_open old.waits ≡ true) (time : old.left + 1 ≡ before) where
  -- the window is that one
  abbrev Is : Which → Desk → Type 0
  Is which e = window_of which e ≡ old

  abbrev After : Which → Window → Type 0
  After which w = Left card top x d which before w

  it : (which : Which) (w : Window) → w ≡ old → After which w
  it which w e = near (rw e waits_on) (rw e time)

  -- a reading takes its place, with its time
  displaced : (which : Which) (v : Waits) (w : Window) → is_open v ≡ true → w ≡ old → After which (opened v (time_left w miss_time))
  unfolding time_left
  displaced which v w o e = near o (rw (e, waits_on) time)

  main_opened_lem : (which : Which) (w : Waits) (e : Desk) → is_open w ≡ true → Is which e → After which (window_of which (main_opened w e))
  unfolding main_opened
  main_opened_lem main w e o h = displaced main w e.window o h
  main_opened_lem side w e o h = it side e.side h

  side_opened_lem : (which : Which) (w : Waits) (e : Desk) → is_open w ≡ true → Is which e → After which (window_of which (side_opened w e))
  unfolding side_opened
  side_opened_lem main w e o h = it main e.window h
  side_opened_lem side w e o h = displaced side w e.side o h

  zone_opened : (which : Which) (e : Desk) → reads_at card x (at_beacon card top x d) ≡ true → x.beacon ≡ 7
      → (zone_met (with_code x.beacon (at_beacon card top x d)) && zones card.settings.functions) ≡ true → Is which e → After which (window_of which (with_window (opened waits.Zone zone_miss) e))
  zone_opened main e r c z h =
      let q = and_split (zone_met (with_code x.beacon (at_beacon card top x d))) (zones card.settings.functions) z in
      zone (record { on_main = refl; read = sym (reads_at_lem card top x d) ∙ r; code = c; near = sym (zone_code x.beacon (at_beacon card top x d)) ∙ q.0; function = q.1 })
  zone_opened side e r c z h = it side e.side h

  -- a reading that leaves no main window
  none_left : (which : Which) (e : Desk) (w : Window) → reads_at card x (at_beacon card top x d) ≡ true → (x.beacon ≡ 3) ⊎ (x.beacon ≡ 8) → Is which e
      → After which (window_of which (with_window w e))
  none_left main e w r c h = shut (record { on_main = refl; read = sym (reads_at_lem card top x d) ∙ r; code = c })
  none_left side e w r c h = it side e.side h

  module _ (which : Which) where
    of_beacon_it : OfBeacon card top x d (Is which) (λ (e : Desk). After which (window_of which e))
    unfolding stopped reading4 option_offered limit_now first_kept pair_set single_dropped
    of_beacon_it =
        record {
          unread = λ e h. it which _ h;
          main_opened_lem = main_opened_lem which;
          side_opened_lem = side_opened_lem which;
          zone_opened = zone_opened which;
          shut = λ e r c h. none_left which e closed r (inl c) h;
          stop = λ e r c h. none_left which e closed r (inr c) h;
          protected = λ e h. it which _ h;
          single = λ e r h. h;
          first = λ code own e three r h. h;
          pair = λ speed e three r h. pick_has (Is which) (drops_single e.beside.paired.first e.beside.limit) {x = with_limit no_limit e} {y = e} h h;
          offered = λ e h. h;
        }

    moved_it : Is which (at_beacon card top x d) → After which (window_of which (moved_of card top x d).desk)
    moved_it h = after_beacon (sets-window which old) of_beacon_it h

-- ---- unanswered

module _ (card : Card) (top : ℕ) (x : Input) (d : Desk) (which : Which) where
  after_unanswered : Unanswered x d which → Left card top x d which (window_of which d).left (window_of which (step_of card top x d).desk)
  unfolding step_of judged_of crossing_turned braked window_older
  after_unanswered u =
      moved_it card top x d (window_older x.m (window_of which d)) (window_of which d).left u.stands.found_open
      (let high = u.time in omega arith) which ((answer_laws card top x d which).stays u)

  nearer :
      Unanswered x d which → (Shuts card x d which → ⊥) → (Zones card top x d which → ⊥)
      → (is_open (window_of which (step_of card top x d).desk).waits ≡ true) × ((window_of which (step_of card top x d).desk).left + 1 ≡ (window_of which d).left)
  nearer u no_shut no_zone = cases (after_unanswered u)
    where
      cases : Left card top x d which (window_of which d).left (window_of which (step_of card top x d).desk)
          → (is_open (window_of which (step_of card top x d).desk).waits ≡ true) × ((window_of which (step_of card top x d).desk).left + 1 ≡ (window_of which d).left)
      cases (near o l) = (o, l)
      cases (shut h) = absurd (no_shut h)
      cases (zone h) = absurd (no_zone h)

-- ---- shut, and the zone's

read_3 : (f0 f1 paired : Bool) (pairs : Pairs) (e : Desk) → (reading_of 3 f0 f1 paired pairs e).window ≡ closed
unfolding reading_of reading3 option_offered
read_3 true f1 paired pairs e = refl
read_3 false f1 paired pairs e = refl

read_8 : (f0 f1 paired : Bool) (pairs : Pairs) (e : Desk) → (reading_of 8 f0 f1 paired pairs e).window ≡ closed
unfolding reading_of reading8 stopped
read_8 f0 f1 paired pairs e = refl

read_7 : (f0 paired : Bool) (pairs : Pairs) (e : Desk) → zone_met e ≡ true → (reading_of 7 f0 true paired pairs e).window ≡ opened waits.Zone zone_miss
unfolding reading_of reading7
read_7 f0 paired pairs e z = rw z

module _ (card : Card) (top : ℕ) (x : Input) (d : Desk) where
  -- the main window after a reading is the reading's
  after_read : reads card x d ≡ true → (step_of card top x d).desk.window ≡ (reading_of x.beacon (protects card.settings.functions) (zones card.settings.functions) (has_pairs card.version) card.settings.pairs (with_code x.beacon (at_beacon card top x d))).window
  unfolding step_of judged_of crossing_turned braked moved_of beacon_taken read_if
  after_read r = let e : reads_at card x (at_beacon card top x d) ≡ true = reads_at_lem card top x d ∙ r in rw e

  shut_after : (which : Which) → Shuts card x d which → window_of which (step_of card top x d).desk ≡ closed
  shut_after which h = rw h.on_main (cases h.code)
    where
      cases : (x.beacon ≡ 3) ⊎ (x.beacon ≡ 8) → (step_of card top x d).desk.window ≡ closed
      cases (inl e) = after_read h.read ∙ rw e (read_3 (protects card.settings.functions) (zones card.settings.functions) _ _ _)
      cases (inr e) = after_read h.read ∙ rw e (read_8 (protects card.settings.functions) (zones card.settings.functions) _ _ _)

  zone_after : (which : Which) → Zones card top x d which → window_of which (step_of card top x d).desk ≡ opened waits.Zone zone_miss
  zone_after which h =
      rw h.on_main
      (after_read h.read ∙ rw (h.function, h.code) (read_7 (protects card.settings.functions) _ _ _ (zone_code 7 (at_beacon card top x d) ∙ h.near)))

  pub window_after : (which : Which) → WindowAfter card top x d (step_of card top x d).desk which
  window_after which = record { nearer = nearer card top x d which; shut = shut_after which; zoned = zone_after which }

-- ---- the slip

module _ (card : Card) (top : ℕ) (x : Input) (d : Desk) (which : Which) (o : Open x d which) (time : 2 ≤ (window_of which d).left) where
  -- a window that the beacon finds is unanswered
  found : is_open (window_of which (at_beacon card top x d)).waits ≡ true → Unanswered x d which
  found h =
      record {
        stands = o;
        time = time;
        no_answer = λ k a. false≢true (rw ((answer_laws card top x d which).answered k o a) at h);
      }

no_shut_here : (card : Card) → Shuts card beacon7 waiting_desk main → ⊥
no_shut_here card h = cases h.code
  where
    cases : (◌≡◌ {A = ℕ} 7 3) ⊎ (◌≡◌ {A = ℕ} 7 8) → ⊥
    cases (inl e) = omega arith
    cases (inr e) = omega arith

not_near_here : (card : Card) (top : ℕ) → zone_met (at_beacon card top beacon7 waiting_desk) ≡ false
unfolding presses_of begun advanced side_missed main_missed missed_of window_older desk_older reminded zone_met main_counts near_of main_older
not_near_here card top = refl

module _ (card : Card) (top : ℕ) where
  unanswered_here : Unanswered beacon7 waiting_desk main
  unfolding presses_of begun advanced side_missed main_missed missed_of window_older desk_older reminded
  unanswered_here = found card top beacon7 waiting_desk main (record { mode = refl; found_open = refl }) (omega arith) refl

  -- the main window takes the press
  unanswered_beside : Unanswered beacon10 sharing_desk side
  unfolding presses_of all_presses window_presses crossing_pressed limit_pressed override_pressed increase_pressed hide_pressed pressed main_answered side_answered answered_by chosen answers_of option_used limit_removed lowest_removed reminder_answered override_armed stop_increased limit_stepped free_for begun advanced side_missed main_missed missed_of window_older desk_older reminded crossing_set
  unanswered_beside = found card top beacon10 sharing_desk side (record { mode = refl; found_open = refl }) (omega arith) refl

pub no_lending : NoLending
no_lending =
    record {
      not_lent = λ card top law.
          let r = law.nearer (unanswered_here card top) (no_shut_here card) (λ z. false≢true (sym (not_near_here card top) ∙ z.near)) in
          let time = r.1 in
          omega arith;
      side_not_lent = λ card top law.
          let r = law.nearer (unanswered_beside card top) (λ h. false≢true (ap is_main h.on_main)) (λ z. false≢true (ap is_main z.on_main)) in
          let time = r.1 in
          omega arith;
    }

-- ---- any number of samples

module _ (card : Card) (top : ℕ) (which : Which) where
  chain_time :
      (xs : List Input) (d : Desk) → is_open (window_of which d).waits ≡ true → AllUnanswered card top which xs d
      → (is_open (window_of which (steps_of card top xs d)).waits ≡ true) × ((window_of which (steps_of card top xs d)).left + length xs ≡ (window_of which d).left)
  unfolding steps_of AllUnanswered
  chain_time [] d o u = (o, omega arith)
  chain_time (x ∷ rest) d o u =
      let one = nearer card top x d which u.0 u.1 u.2 in
      let r = chain_time rest (step_of card top x d).desk one.0 u.3 in
      let p = one.1 in
      let q = r.1 in
      (r.0, omega arith)

  chain_miss :
      (xs : List Input) (x : Input) (d : Desk) → is_open (window_of which d).waits ≡ true → AllUnanswered card top which xs d
      → (steps_of card top xs d).bts ≡ x.bts → TimeOver x (steps_of card top xs d) which ↔ ((window_of which d).left ≤ suc (length xs))
  chain_miss xs x d o u mode =
      let r = chain_time xs d o u in
      let time = r.1 in (
        λ t. let low = t.over in omega arith,
        λ (h : (window_of which d).left ≤ suc (length xs)). record { stands = record { mode = mode; found_open = r.0 }; over = omega arith },
      )

pub chain_laws : (card : Card) (top : ℕ) (which : Which) → ChainLaws card top which
chain_laws card top which = record { chain_time = chain_time card top which; chain_miss = chain_miss card top which }
