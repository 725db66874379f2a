-- On a card without pairs none ever stands, and every sample is what it was before them.
use Prim.Native.Nat.{ℕ, ◌*◌}
use mathlib.Core.Bool.{Bool, true, false, ◌&&◌, ◌||◌, not, false≢true}
use mathlib.Core.Path.{◌≡◌, refl, sym, ap, ◌∙◌}
use mathlib.Core.List.{List, [], ◌∷◌}
use lib.Dec.{eqb, ltb}
use Rattle.leaf.specs.Choosing.{pick}
use Rattle.leaf.specs.Numbers.{bit_of}
use Rattle.leaf.specs.Buttons.{crossing_button, limit_button, rearm_button}
use Rattle.card.specs.declared.Card.{Card}
use Rattle.card.specs.declared.Pairs.{Pairs}
use Rattle.card.specs.declared.Row.{Row}
use Rattle.card.specs.declared.Settings.{Settings}
use Rattle.card.specs.Card.{reminds}
use Rattle.signals.specs.Windows.{answers_of}
use Rattle.sides.specs.declared.pairs.Paired.{Paired}
use Rattle.sides.specs.Limit.{may_step, stepped_final, removable}
use Rattle.sides.specs.Pairs.{first_older, paired_older, four_older, all_older, nothing_paired, no_paired, four_with, any_paired, paired_goes, lowest_to_go, paired_speed}
use Rattle.leaf.specs.Checks.{or_fault}
use Rattle.desk.specs.declared.state.Desk.{Desk}
use Rattle.desk.specs.declared.clock.Turn.{Turn}
use Rattle.desk.specs.State.{with_code, taken_over, crossing_set, limit_now, mode_changed}
use Rattle.desk.specs.Beside.{beside_older}
use Rattle.desk.specs.Clock.{desk_older, reminded, begun}
use Rattle.buttons.specs.Buttons.{main_answered, side_answered, pressed, free_for, option_used, limit_removed, paired_removed, lowest_removed, reminder_answered, override_armed, stop_increased, limit_stepped, limit_pressed, increase_pressed, hide_pressed, crossing_pressed, window_presses, all_presses, presses_of}
use Rattle.beacons.specs.Beacons.{reads_of, main_opened, side_opened, option_offered, reading4, stopped, reading_single, reading_limit, reading_of, read_if, beacon_taken}
use Rattle.step.specs.declared.Input.{Input}
use Rattle.step.specs.declared.Answer.{Answer}
use Rattle.step.specs.Speed.{crossing_turned, limits, supervised_of, paired_limit, lower}
use Rattle.step.specs.Reason.{first_at, reason_of}
use Rattle.step.specs.Brake.{braked}
use Rattle.step.specs.Step.{has_pairs, limit_goes, moved_of, answer_of, arose_of, judged_of, step_of}
use Rattle.desk.specs.Brake.{standstill}
use Rattle.step_laws.specs.Walk.{Sets, ToBeacon, OfBeacon}
use Rattle.step_laws.proofs.Choosing.{pick_has}
use Rattle.step_laws.proofs.Walk.{AnyReading, sets_any, begun_has, at_limit, limit_pressed_lem, at_beacon_lem, after_beacon}
use Rattle.session.specs.declared.Sample.{Sample}
use Rattle.session.specs.declared.Session.{Session}
use Rattle.session.specs.Session.{Outcome}
use Rattle.session.specs.Types.{type_speed}
use Rattle.session.specs.Session.{carried, ran_of, sample_of}
use Rattle.session.specs.Runs.{accepted, after, outcomes}
use Rattle.session.proofs.Runs.{accepted_runs, refused_stays}
use Rattle.demands.specs.Unpaired.{limit_pressed01, may_step01, increase_pressed01, presses_of01, reading_limit01, reading_of01, beacon_taken01, moved_of01, limits01, supervised01, answer_of01, judged_of01, step_of01, sample_of01, outcomes01}
use Rattle.demands.proofs.Hushed.{card_kept}

abbrev pub Unpaired : Desk → Type 0
Unpaired e = e.beside.paired ≡ nothing_paired

-- ---- none ever stands, where the card has no pairs

sets_none : Sets Unpaired AnyReading
unfolding taken_over crossing_set limit_now
sets_none = sets_any (λ kind age distance e h. h) (λ age distance e h. h) (λ age e h. h)

older_none : (m : ℕ) (p : Paired) → p ≡ nothing_paired → all_older m p ≡ nothing_paired
unfolding all_older first_older four_older paired_older
older_none m p e = rw e

-- taking one off leaves none
pick_same : {A : Type 0} (t : Bool) (a : A) → pick t a a ≡ a
pick_same true a = refl
pick_same false a = refl

with_none : (speed : ℕ) (p : Paired) → p ≡ nothing_paired → ◌≡◌ {A = Paired} (record { first = p.first; limits = four_with speed no_paired p.limits }) nothing_paired
unfolding four_with
with_none speed p e =
    rw (e, pick_same (eqb speed 30) no_paired, pick_same (eqb speed 40) no_paired, pick_same (eqb speed 50) no_paired, pick_same (eqb speed 70) no_paired)

module _ (card : Card) (top : ℕ) (x : Input) (d : Desk) (without : has_pairs card.version ≡ false) (none : Unpaired d) where
  to_beacon_none : ToBeacon card top x d Unpaired
  unfolding mode_changed reminded desk_older beside_older option_used limit_removed paired_removed reminder_answered override_armed stop_increased limit_stepped hide_pressed
  to_beacon_none =
      record {
        changed = λ e. refl;
        advanced = λ e. older_none x.m d.beside.paired none;
        main_closed = λ e h. h;
        side_closed = λ e h. h;
        option = λ e h. h;
        removed = λ e h. h;
        paired_removed_lem = λ speed e h. pick_has Unpaired (eqb speed 0) h (with_none speed e.beside.paired h);
        answered = λ e h. h;
        armed = λ e h. h;
        increased = λ e h. h;
        stepped = λ e h. h;
        hidden = λ e h. h;
      }

  of_beacon_none : OfBeacon card top x d Unpaired Unpaired
  unfolding main_opened side_opened stopped reading4 option_offered limit_now
  of_beacon_none =
      record {
        unread = λ e h. h;
        main_opened_lem = λ w e o h. h;
        side_opened_lem = λ w e o h. h;
        zone_opened = λ e r c z h. h;
        shut = λ e r c h. h;
        stop = λ e r c h. h;
        protected = λ e h. h;
        single = λ e r h. h;
        first = λ code own e three r h. absurd (false≢true (sym without ∙ three));
        pair = λ speed e three r h. absurd (false≢true (sym without ∙ three));
        offered = λ e h. h;
      }

  -- where the buttons, the limit's button and the beacon are looked at, and after the sample
  begun_none : Unpaired (begun x.bts x.m (reminds card.settings.functions) card.settings.x card.settings.y d).desk
  begun_none = begun_has sets_none to_beacon_none

  limit_none : Unpaired (crossing_pressed (bit_of x.buttons crossing_button) (window_presses x.buttons (begun x.bts x.m (reminds card.settings.functions) card.settings.x card.settings.y d).desk))
  limit_none = at_limit sets_none to_beacon_none

  moved_none : Unpaired (moved_of card top x d).desk
  moved_none = after_beacon sets_none of_beacon_none (at_beacon_lem sets_none to_beacon_none)

  pub after_none : Unpaired (step_of card top x d).desk
  unfolding step_of judged_of crossing_turned braked
  after_none = moved_none

-- ---- the stages, where none stands

-- a press that no window takes leaves the desk as it is
free_leaves : (on : Bool) (weight : ℕ) (d : Desk) → free_for on weight d ≡ true → pressed on weight d ≡ d
unfolding free_for pressed main_answered side_answered
free_leaves on weight d h = cases on (answers_of d.window weight) (answers_of d.side weight) h
  where
    cases : (o m s : Bool) → (o && not m && not s) ≡ true → side_answered (o && not m && s) weight (main_answered (o && m) weight d) ≡ d
    cases true true true h = absurd (false≢true h)
    cases true true false h = absurd (false≢true h)
    cases true false true h = absurd (false≢true h)
    cases true false false h = refl
    cases false m s h = absurd (false≢true h)

none_to_go : (m top : ℕ) (d : Desk) → Unpaired d → lowest_to_go m top d.beside.paired.limits ≡ 0
unfolding lowest_to_go paired_goes or_fault
none_to_go m top d h = rw h

removed_as : (free : Bool) (m : ℕ) (row : Row) (top : ℕ) (d : Desk) → Unpaired d
    → lowest_removed free m row top d ≡ limit_removed (free && removable m row.last top d.beside.limit) d
unfolding lowest_removed paired_removed limit_removed
removed_as false m row top d h = refl
removed_as true m row top d h = rw (none_to_go m top d h) (cases (removable m row.last top d.beside.limit))
  where
    cases : (t : Bool) → pick (t && (true || ltb (stepped_final row.last d.beside.limit.steps top) (paired_speed top 0))) (limit_removed true d) d ≡ limit_removed t d
    cases true = refl
    cases false = refl

limit_pressed_as : (on : Bool) (m : ℕ) (row : Row) (top : ℕ) (d : Desk) → Unpaired d → Unpaired (pressed on limit_button d)
    → limit_pressed on m row top d ≡ limit_pressed01 on m row top d
unfolding limit_pressed limit_pressed01
limit_pressed_as on m row top d h g = removed_as (free_for on limit_button d) m row top (pressed on limit_button d) g ∙ cases (free_for on limit_button d) refl
  where
    cases : (free : Bool) → free_for on limit_button d ≡ free
        → limit_removed (free && removable m row.last top (pressed on limit_button d).beside.limit) (pressed on limit_button d)
        ≡ limit_removed (free && removable m row.last top d.beside.limit) (pressed on limit_button d)
    cases true e = ap (λ (q : Desk). limit_removed (removable m row.last top q.beside.limit) (pressed on limit_button d)) (free_leaves on limit_button d e)
    cases false e = refl

increase_as : (on : Bool) (row : Row) (top : ℕ) (d : Desk) → increase_pressed on false row top d ≡ increase_pressed01 on row top d
unfolding increase_pressed increase_pressed01 may_step may_step01
increase_as on row top d = refl

reading_as : (code : ℕ) (f0 f1 : Bool) (pairs : Pairs) (d : Desk) → reading_of code f0 f1 false pairs d ≡ reading_of01 code f0 f1 d
unfolding reading_of reading_of01 reading_limit reading_limit01 reading_single
reading_as code f0 f1 pairs d = refl

beacon_as : (code : ℕ) (f0 f1 f3 : Bool) (pairs : Pairs) (d : Desk) → beacon_taken code f0 f1 f3 false pairs d ≡ beacon_taken01 code f0 f1 f3 d
unfolding beacon_taken beacon_taken01 read_if
beacon_as code f0 f1 f3 pairs d = rw (read (reads_of code f3 d.bts d.code))
  where
    read : (t : Bool) → read_if t code f0 f1 false pairs (with_code code d) ≡ pick t (reading_of01 code f0 f1 (with_code code d)) (with_code code d)
    read true = reading_as code f0 f1 pairs (with_code code d)
    read false = refl

presses_as : (b m : ℕ) (row : Row) (top : ℕ) (d : Desk) → (let e = crossing_pressed (bit_of b crossing_button) (window_presses b d) in Unpaired e × Unpaired (pressed (bit_of b limit_button) limit_button e))
    → presses_of b m false row top d ≡ presses_of01 b m row top d
unfolding presses_of presses_of01 all_presses
presses_as b m row top d h =
    rw (limit_pressed_as (bit_of b limit_button) m row top (crossing_pressed (bit_of b crossing_button) (window_presses b d)) h.0 h.1, increase_as)

-- S, the limit that sets it and the answer
speed_as : (s : Settings) (top : ℕ) (d : Desk) → Unpaired d → supervised_of s top d ≡ supervised01 s top d
unfolding supervised_of supervised01 lower paired_limit
speed_as s top d h = rw h

listed_as : (n : ℕ) (s : Settings) (top : ℕ) (d : Desk) → Unpaired d → first_at n (limits s top d) ≡ first_at n (limits01 s top d)
unfolding paired_limit
listed_as n s top d h = rw h

named_as : (s : Settings) (top : ℕ) (d : Desk) → Unpaired d → reason_of s top d ≡ first_at (supervised01 s top d) (limits01 s top d)
unfolding reason_of
named_as s top d h = ap (λ (n : ℕ). first_at n (limits s top d)) (speed_as s top d h) ∙ listed_as (supervised01 s top d) s top d h

answer_as : (s : Settings) (top m : ℕ) (still : Bool) (speed : ℕ) (d : Desk) → Unpaired d → answer_of s top m still speed d ≡ answer_of01 s top m still speed d
unfolding answer_of answer_of01 limit_goes any_paired
answer_as s top m still speed d h =
    rw (none_to_go m top d h, h, or_none (removable m s.limit.last top d.beside.limit), or_none d.beside.limit.on)
  where
    or_none : (b : Bool) → (b || false) ≡ b
    or_none true = refl
    or_none false = refl

judged_as : (s : Settings) (top : ℕ) (x : Input) (cause : ℕ) (d : Desk) → Unpaired d → judged_of s top x cause d ≡ judged_of01 s top x cause d
unfolding judged_of judged_of01 crossing_turned braked
judged_as s top x cause d h =
    let turned : Desk = crossing_turned x.m d in
    let speed : ℕ = supervised01 s top turned in
    let arose : ℕ = arose_of cause x.m speed x.beacon x.bts in
    let still : Bool = standstill x.pulses turned.brake in
    let after : Desk = braked arose (still && bit_of x.buttons rearm_button) x.pulses turned in
    rw (speed_as s top turned h, named_as s top turned h)
    (ap (λ (a : Answer). record { desk = after; arose = arose; answer = a; named = first_at speed (limits01 s top turned) }) (answer_as s top x.m still speed after h))

-- ---- the sample, and any number of them

module _ (card : Card) (top : ℕ) (x : Input) (d : Desk) (without : has_pairs card.version ≡ false) (none : Unpaired d) where
  moved_as : moved_of card top x d ≡ moved_of01 card.settings top x d
  unfolding moved_of moved_of01
  moved_as =
      let e = limit_none card top x d without none in
      rw (without, presses_as x.buttons x.m card.settings.limit top _ (e, limit_pressed_lem sets_none (to_beacon_none card top x d without none) _ e), beacon_as)

  step_as : step_of card top x d ≡ step_of01 card.settings top x d
  unfolding step_of step_of01
  step_as = judged_as card.settings top x _ _ (moved_none card top x d without none) ∙ ap (λ (t : Turn). judged_of01 card.settings top x t.cause t.desk) moved_as

module _ (s : Session) (x : Sample) (without : has_pairs s.card.version ≡ false) (none : Unpaired s.desk) where
  sample_as : sample_of s x ≡ sample_of01 s x
  unfolding sample_of sample_of01 ran_of
  sample_as = rw (step_as s.card (type_speed s.train * 100) (carried s x) s.desk without none)

  sample_none : Unpaired (sample_of s x).session.desk
  unfolding ran_of
  sample_none = cases (accepted s x) refl
    where
      cases : (t : Bool) → accepted s x ≡ t → Unpaired (sample_of s x).session.desk
      cases true e = rw (accepted_runs s x e) (after_none s.card (type_speed s.train * 100) (carried s x) s.desk without none)
      cases false e = rw (refused_stays s x e) none

  kept_without : has_pairs (sample_of s x).session.card.version ≡ false
  kept_without = ap (λ (c : Card). has_pairs c.version) (card_kept s x) ∙ without

pub never_paired : (s : Session) (xs : List Sample) → has_pairs s.card.version ≡ false → Unpaired s.desk → Unpaired (after s xs).desk
unfolding after
never_paired s [] without none = none
never_paired s (x ∷ xs) without none = never_paired (sample_of s x).session xs (kept_without s x without none) (sample_none s x without none)

pub as_before : (s : Session) (xs : List Sample) → has_pairs s.card.version ≡ false → Unpaired s.desk → outcomes s xs ≡ outcomes01 s xs
unfolding outcomes outcomes01
as_before s [] without none = refl
as_before s (x ∷ xs) without none =
    rw (← sample_as s x without none)
    (ap (λ (l : List Outcome). (sample_of s x).outcome ∷ l) (as_before (sample_of s x).session xs (kept_without s x without none) (sample_none s x without none)))
