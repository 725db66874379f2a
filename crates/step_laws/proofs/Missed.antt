-- Time over is a miss: its cause arises, its window closes before the buttons, and a 1 or a 9 counts.
use Prim.Native.Nat.{ℕ, ◌+◌, ◌≤◌, min}
use native.Mathlib.Omega.{arith}
use mathlib.Core.Path.{◌≡◌, refl, sym, ap, ◌∙◌}
use mathlib.Core.Bool.{Bool, true, false, ◌&&◌, not, false≢true}
use mathlib.Core.Logic.{◌⊎◌, inl, inr, ◌↔◌}
use lib.Dec.{eqb}
use borrow.Author.Tests.{ne_eqb}
use Rattle.leaf.specs.Choosing.{pick}
use Rattle.leaf.specs.Numbers.{aged_of, further_of, exceeds_of, quiet_code}
use Rattle.card.specs.declared.Card.{Card}
use Rattle.card.specs.Card.{reminds}
use Rattle.signals.specs.declared.window.Waits.TheVariants as waits
use Rattle.signals.specs.declared.control.MainKind.TheVariants.{Announcement}
use Rattle.signals.specs.Windows.{closed, asks_of, window_older, missed_of}
use Rattle.signals.specs.MainControl.{main_of}
use Rattle.signals.specs.Stop.{reminder_older, reminder_missed}
use Rattle.sides.specs.Crossing.{crossing_older, unprotected_set}
use Rattle.desk.specs.declared.state.Desk.{Desk}
use Rattle.desk.specs.declared.clock.Turn.{Turn}
use Rattle.desk.specs.Beside.{beside_older}
use Rattle.desk.specs.State.{taken_over, crossing_set, mode_changed}
use Rattle.desk.specs.Clock.{same_mode, desk_older, reminded, main_counts, side_counts, main_missed, side_missed, miss_cause, advanced, begun}
use Rattle.beacons.specs.Beacons.{beacon_taken}
use Rattle.step.specs.declared.Input.{Input}
use Rattle.step.specs.Speed.{crossing_turned, supervised_of}
use Rattle.step.specs.Brake.{lowest}
use Rattle.step.specs.Step.{moved_of, speed_cause, arose_of, judged_of, step_of}
use Rattle.step_laws.specs.Walk.{at_beacon, reads_at}
use Rattle.step_laws.specs.Unanswered.{Which, main, side, window_of, TimeOver, at_buttons, MissLaws}
use Rattle.step_laws.proofs.Choosing.{pick_has, not_so}
use Rattle.step_laws.proofs.Carried.{same_is, same_mode_lem}
use Rattle.step_laws.proofs.Windows.{main_missed-side, missed_exactly}
use Rattle.step_laws.proofs.Presses.{begun_as, at_buttons_lem, over_closed}

-- ---- the causes: "lowest number within a sample"

-- no cause, or one that comes after the misses
abbrev Later : ℕ → Type 0
Later cause = (cause ≡ 0) ⊎ (4 ≤ cause)

pick-later : (b : Bool) (n : ℕ) → 4 ≤ n → Later (pick b n 0)
pick-later true n h = inr h
pick-later false n h = inl refl

-- beside it a miss has the lowest number
lowest_is : (a b n : ℕ) → Later b → 1 ≤ n → n ≤ 3 → (lowest a b ≡ n) ↔ (a ≡ n)
unfolding lowest
lowest_is a b n (inl z) low high = (only, when)
  where
    only : pick (eqb a 0) b (pick (eqb b 0) a (min a b)) ≡ n → a ≡ n
    only h = cases (eqb a 0) refl (rw z at h)
      where
        cases : (t : Bool) → eqb a 0 ≡ t → pick t 0 a ≡ n → a ≡ n
        cases true e h = absurd (omega arith)
        cases false e h = h

    when : a ≡ n → pick (eqb a 0) b (pick (eqb b 0) a (min a b)) ≡ n
    when h = let some : eqb a 0 ≡ false = ne_eqb a 0 (λ (e : a ≡ 0). omega arith) in rw (some, z) h
lowest_is a b n (inr four) low high = (only, when)
  where
    high_b : eqb b 0 ≡ false
    high_b = ne_eqb b 0 (λ (e : b ≡ 0). omega arith)

    only : pick (eqb a 0) b (pick (eqb b 0) a (min a b)) ≡ n → a ≡ n
    only h = cases (eqb a 0) refl (rw high_b at h)
      where
        cases : (t : Bool) → eqb a 0 ≡ t → pick t b (min a b) ≡ n → a ≡ n
        cases true e h = absurd (omega arith)
        cases false e h = omega arith

    when : a ≡ n → pick (eqb a 0) b (pick (eqb b 0) a (min a b)) ≡ n
    when h = let some : eqb a 0 ≡ false = ne_eqb a 0 (λ (e : a ≡ 0). omega arith) in rw (some, high_b) (omega arith)

main_cause : (a b c : Bool) → (miss_cause a b c ≡ 1) ↔ (a ≡ true)
main_cause true b c = (λ h. refl, λ h. refl)
main_cause false true c = (λ h. absurd (omega arith), λ h. absurd (false≢true h))
main_cause false false true = (λ h. absurd (omega arith), λ h. absurd (false≢true h))
main_cause false false false = (λ h. absurd (omega arith), λ h. absurd (false≢true h))

side_cause : (a b c : Bool) → (miss_cause a b c ≡ 2) ↔ ((a ≡ false) × (b ≡ true))
side_cause true b c = (λ h. absurd (omega arith), λ h. absurd (false≢true (sym h.0)))
side_cause false true c = (λ h. (refl, refl), λ h. refl)
side_cause false false true = (λ h. absurd (omega arith), λ h. absurd (false≢true h.1))
side_cause false false false = (λ h. absurd (omega arith), λ h. absurd (false≢true h.1))

module _ (card : Card) (top : ℕ) (x : Input) (d : Desk) where
  abbrev begins : Turn
  begins = begun x.bts x.m (reminds card.settings.functions) card.settings.x card.settings.y d

  abbrev advances : Turn
  advances = advanced x.m (reminds card.settings.functions) card.settings.x card.settings.y d

  -- the stop's cause, 4, and the speed's, 5, come after the misses'
  moved_miss : (n : ℕ) → 1 ≤ n → n ≤ 3 → ((moved_of card top x d).cause ≡ n) ↔ (begins.cause ≡ n)
  unfolding moved_of beacon_taken
  moved_miss n low high =
      let e : Desk = at_beacon card top x d in
      lowest_is _ _ n (pick-later (reads_at card x e && eqb x.beacon 8 && not e.armed.armed) 4 (omega arith)) low high

  judged_miss : (n : ℕ) → 1 ≤ n → n ≤ 3 → ((step_of card top x d).arose ≡ n) ↔ ((moved_of card top x d).cause ≡ n)
  unfolding step_of judged_of arose_of
  judged_miss n low high = (λ h. at_speed.0 (at_pickup.0 h), λ h. at_pickup.1 (at_speed.1 h))
    where
      turned : Desk
      turned = crossing_turned x.m (moved_of card top x d).desk

      at_speed : (lowest (moved_of card top x d).cause (speed_cause x.m (supervised_of card.settings top turned)) ≡ n) ↔ ((moved_of card top x d).cause ≡ n)
      at_speed = lowest_is _ _ n (pick-later (exceeds_of x.m (supervised_of card.settings top turned + 500)) 5 (omega arith)) low high

      at_pickup : ((step_of card top x d).arose ≡ n) ↔ (lowest (moved_of card top x d).cause (speed_cause x.m (supervised_of card.settings top turned)) ≡ n)
      at_pickup = lowest_is _ _ n (pick-later (eqb x.beacon quiet_code && not x.bts) 6 (omega arith)) low high

  -- no miss in a sample that changes the mode
  begun_miss : (n : ℕ) → 1 ≤ n → (begins.cause ≡ n) ↔ ((d.bts ≡ x.bts) × (advances.cause ≡ n))
  unfolding begun
  begun_miss n low = (only, λ h. rw (same_mode_lem d.bts x.bts h.0) h.1)
    where
      only : (pick (same_mode d.bts x.bts) advances (record { desk = mode_changed x.bts d; cause = 0 })).cause ≡ n → (d.bts ≡ x.bts) × (advances.cause ≡ n)
      only h = cases (same_mode d.bts x.bts) refl h
        where
          cases : (t : Bool) → same_mode d.bts x.bts ≡ t → (pick t advances (record { desk = mode_changed x.bts d; cause = 0 })).cause ≡ n → (d.bts ≡ x.bts) × (advances.cause ≡ n)
          cases true e h = (same_is d.bts x.bts e, h)
          cases false e h = absurd (omega arith)

  -- what arises is a miss's cause exactly where the step of ages and misses gives it
  arises : (n : ℕ) → 1 ≤ n → n ≤ 3 → ((step_of card top x d).arose ≡ n) ↔ ((d.bts ≡ x.bts) × (advances.cause ≡ n))
  arises n low high = (
    λ h. (begun_miss n low).0 ((moved_miss n low high).0 ((judged_miss n low high).0 h)),
    λ h. (judged_miss n low high).1 ((moved_miss n low high).1 ((begun_miss n low).1 h)),
  )

  abbrev main_over : Bool
  main_over = missed_of (window_older x.m d.window)

  abbrev side_over : Bool
  side_over = missed_of (window_older x.m d.side)

  abbrev reminder_over : Bool
  reminder_over = reminder_missed (reminder_older x.m d.reminder)

  missed_over : (which : Which) → d.bts ≡ x.bts → missed_of (window_older x.m (window_of which d)) ≡ true → TimeOver x d which
  missed_over which e h =
      let q = (missed_exactly x.m (window_of which d)).0 h in
      record { stands = record { mode = e; found_open = q.0 }; over = q.1 }

  over_missed : (which : Which) → TimeOver x d which → missed_of (window_older x.m (window_of which d)) ≡ true
  over_missed which t = (missed_exactly x.m (window_of which d)).1 (t.stands.found_open, t.over)

  cause_1 : ((step_of card top x d).arose ≡ 1) ↔ TimeOver x d main
  unfolding advanced desk_older
  cause_1 = (only, when)
    where
      only : (step_of card top x d).arose ≡ 1 → TimeOver x d main
      only h = let a = (arises 1 (omega arith) (omega arith)).0 h in missed_over main a.0 ((main_cause main_over side_over reminder_over).0 a.1)

      when : TimeOver x d main → (step_of card top x d).arose ≡ 1
      when t = (arises 1 (omega arith) (omega arith)).1 (t.stands.mode, (main_cause main_over side_over reminder_over).1 (over_missed main t))

  cause_2 : ((step_of card top x d).arose ≡ 2) ↔ (TimeOver x d side × (TimeOver x d main → ⊥))
  unfolding advanced desk_older
  cause_2 = (only, when)
    where
      only : (step_of card top x d).arose ≡ 2 → TimeOver x d side × (TimeOver x d main → ⊥)
      only h =
          let a = (arises 2 (omega arith) (omega arith)).0 h in
          let q = (side_cause main_over side_over reminder_over).0 a.1 in
          (missed_over side a.0 q.1, λ t. false≢true (sym q.0 ∙ over_missed main t))

      when : TimeOver x d side × (TimeOver x d main → ⊥) → (step_of card top x d).arose ≡ 2
      when h =
          let same = h.0.stands.mode in
          let none : main_over ≡ false = not_so main_over (λ e. h.1 (missed_over main same e)) in
          (arises 2 (omega arith) (omega arith)).1 (same, (side_cause main_over side_over reminder_over).1 (none, over_missed side h.0))

  -- ---- closed, and counted

  miss_closes : (which : Which) → TimeOver x d which → window_of which (at_buttons card x d) ≡ closed
  miss_closes which t = at_buttons_lem card x d t.stands.mode which ∙ over_closed card x d t.stands.mode which t

  side_missed-main : (c : Bool) (e : Desk) → (side_missed c e).main ≡ e.main
  unfolding side_missed side_counts crossing_set
  side_missed-main true e =
      pick_has (λ (f : Desk). f.main ≡ e.main) (asks_of e.side.waits) {x = crossing_set e.side.age e.side.distance e} {y = e} refl refl
  side_missed-main false e = refl

  main_missed-crossing : (b : Bool) (e : Desk) → (main_missed b e).beside.crossing ≡ e.beside.crossing
  unfolding main_missed main_counts taken_over
  main_missed-crossing true e =
      pick_has (λ (f : Desk). f.beside.crossing ≡ e.beside.crossing) (asks_of e.window.waits) {x = taken_over Announcement e.window.age e.window.distance e} {y = e} refl refl
  main_missed-crossing false e = refl

  counts_1 :
      TimeOver x d main → d.window.waits ≡ waits.One
      → (at_buttons card x d).main ≡ main_of Announcement (aged_of d.window.age) (further_of d.window.distance x.m)
  unfolding advanced reminded desk_older main_missed main_counts taken_over window_older
  counts_1 t w = ap (λ (u : Turn). u.desk.main) (begun_as card x d t.stands.mode) ∙ side_missed-main side_over _ ∙ rw (over_missed main t, w)

  counts_9 :
      TimeOver x d side → d.side.waits ≡ waits.Nine
      → (at_buttons card x d).beside.crossing ≡ unprotected_set (aged_of d.side.age) (further_of d.side.distance x.m) (crossing_older x.m d.beside.crossing)
  unfolding advanced reminded desk_older beside_older side_missed side_counts crossing_set window_older
  counts_9 t w =
      let rest : Desk = reminded (reminds card.settings.functions) card.settings.x card.settings.y (desk_older x.m d) in
      ap (λ (u : Turn). u.desk.beside.crossing) (begun_as card x d t.stands.mode) ∙ rw (over_missed side t, main_missed-side main_over rest, main_missed-crossing main_over rest, w)

  pub miss_laws : MissLaws card top x d
  miss_laws = record { cause_1 = cause_1; cause_2 = cause_2; miss_closes = miss_closes; counts_1 = counts_1; counts_9 = counts_9 }
