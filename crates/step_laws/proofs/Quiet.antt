-- A quiet pickup, of every sample: the alarm, cause 6, and that nothing else comes of it.
use Prim.Native.Nat.{ℕ, ◌^◌, ◌≤◌}
use native.Mathlib.Omega.{arith}
use mathlib.Core.Path.{◌≡◌, refl, sym, ap, ◌∙◌}
use mathlib.Core.Bool.{Bool, true, false, ◌&&◌, ◌||◌, not}
use mathlib.Core.Logic.{◌↔◌}
use lib.Dec.{eqb}
use lib.Bits.{bit_or, or_zero_l}
use borrow.Author.Tests.{le-leb, eqb-true, eq-eqb, ne_eqb, not-true}
use Rattle.leaf.specs.Choosing.{pick, and_split}
use Rattle.leaf.specs.Numbers.{quiet_code, bit_of}
use Rattle.leaf.specs.Buttons.{rearm_button}
use Rattle.card.specs.declared.Card.{Card}
use Rattle.card.specs.declared.Settings.{Settings}
use Rattle.card.specs.declared.Pairs.{Pairs}
use Rattle.card.specs.Card.{protects, zones, reminds, reads_in_bts_bit}
use Rattle.sides.specs.Crossing.{icon_of}
use Rattle.sides.specs.Pairs.{any_paired}
use Rattle.desk.specs.declared.state.Desk.{Desk}
use Rattle.desk.specs.declared.clock.Turn.{Turn}
use Rattle.desk.specs.Brake.{standstill}
use Rattle.desk.specs.State.{with_brake, with_code}
use Rattle.desk.specs.Clock.{begun}
use Rattle.beacons.specs.Beacons.{is_beacon, is_side, reads_of, read_if, beacon_taken}
use Rattle.step.specs.declared.Input.{Input}
use Rattle.step.specs.declared.Answer.{Answer}
use Rattle.step.specs.declared.Stepped.{Stepped}
use Rattle.step.specs.Reason.{reason_of}
use Rattle.step.specs.Speed.{crossing_turned, supervised_of}
use Rattle.step.specs.Brake.{lowest, braked, lamp_if, button_lamps, alarm_lamp, lamps_of}
use Rattle.step.specs.Step.{has_pairs, limit_goes, moved_of, answer_of, quiet_cause, arose_of, judged_of, step_of}
use Rattle.step.proofs.Lowest.{lowest_alone}
use Rattle.step_laws.specs.Walk.{at_beacon}
use Rattle.step_laws.specs.Unanswered.{reads}
use Rattle.step_laws.specs.Brake.{rearms}
use Rattle.step_laws.specs.Quiet.{answer_before, judged_before, step_before, with_beacon, QuietLaws, OnlyAlarm}
use Rattle.step_laws.proofs.Choosing.{not_so}
use Rattle.step_laws.proofs.Carried.{moved_carries, carried_laws}
use Rattle.step_laws.proofs.Causes.{to_speed}
use Rattle.step_laws.proofs.Lamps.{lamp_alarm, lamps_else, lamps_code}
use Rattle.step_laws.proofs.Ranges.{standing_in}
use Rattle.step_laws.proofs.Brake.{brake_laws}
use Rattle.step_laws.proofs.Unseen.{other_code, at_beacon_lem, first-cause}

-- ---- on numbers

-- beside a lower cause 6 is not seen
six_behind : (a : ℕ) → (a ≡ 0 → ⊥) → a ≤ 5 → (q : Bool) → lowest a (pick q 6 0) ≡ a
unfolding lowest
six_behind a n low true = rw (ne_eqb a 0 n) (omega arith)
six_behind a n low false = lowest_alone a

-- a code that is no beacon's is remembered, and that is all
unread_taken : (code : ℕ) → is_beacon code ≡ false → (f0 f1 f3 paired : Bool) (pairs : Pairs) (d : Desk)
    → beacon_taken code f0 f1 f3 paired pairs d ≡ record { desk = with_code code d; cause = 0 }
unfolding beacon_taken read_if reads_of
unread_taken code h f0 f1 f3 paired pairs d = rw h

-- behind a 12 a beacon is read as behind a 0
reads_alike : (code : ℕ) → 1 ≤ code → code ≤ 11 → (f3 bts : Bool) → reads_of code f3 bts 12 ≡ reads_of code f3 bts 0
unfolding reads_of
reads_alike code low high f3 bts = rw (ne_eqb code 12 (λ e. omega arith), ne_eqb code 0 (λ e. omega arith))

-- without 12 the answer has no alarm
answer_as : (s : Settings) (top m : ℕ) (still : Bool) (speed : ℕ) (d : Desk) → (d.code ≡ 12 → ⊥) → answer_of s top m still speed d ≡ answer_before s top m still speed d
unfolding answer_of answer_before lamps_of
answer_as s top m still speed d h =
    let lamps : ℕ = button_lamps (limit_goes m s.limit.last top d) still d in
    ap (λ (t : Bool). told (bit_or (lamp_if t alarm_lamp) lamps)) (ne_eqb d.code quiet_code h) ∙ ap told (or_zero_l lamps)
  where
    told : ℕ → Answer
    told lamps = record { speed = speed; lamps = lamps; cause = d.brake.cause; icon = icon_of d.beside.crossing; limit = d.beside.limit.on || any_paired d.beside.paired.limits }

module _ (card : Card) (top : ℕ) (x : Input) (d : Desk) where
  abbrev moved : Turn
  moved = moved_of card top x d

  abbrev begins : Turn
  begins = begun x.bts x.m (reminds card.settings.functions) card.settings.x card.settings.y d

  -- ---- the lamp

  lit : bit_of (step_of card top x d).answer.lamps alarm_lamp ≡ eqb x.beacon quiet_code
  unfolding step_of judged_of answer_of
  lit = lamp_alarm _ _ _ ∙ ap (λ (n : ℕ). eqb n quiet_code) (carried_laws card top x d).code_after

  lamp_11 : (bit_of (step_of card top x d).answer.lamps 2048 ≡ true) ↔ (x.beacon ≡ 12)
  lamp_11 = (λ h. eqb-true x.beacon 12 (sym lit ∙ h), λ e. lit ∙ eq-eqb x.beacon 12 e)

  -- ---- the cause

  abbrev test : Bool
  test = eqb x.beacon quiet_code && not x.bts

  arose_as : (step_of card top x d).arose ≡ lowest (step_before card top x d).arose (pick test 6 0)
  unfolding step_of judged_of arose_of step_before judged_before
  arose_as = refl

  before_high : (step_before card top x d).arose ≤ 5
  unfolding step_before judged_before
  before_high = to_speed card top x d _

  raised : x.beacon ≡ 12 → x.bts ≡ false → (step_before card top x d).arose ≡ 0 → (step_of card top x d).arose ≡ 6
  unfolding lowest
  raised e conv none =
      arose_as ∙ ap (λ (n : ℕ). lowest n (pick test 6 0)) none ∙ ap (λ (c : ℕ). lowest 0 (quiet_cause c x.bts)) e
      ∙ ap (λ (b : Bool). lowest 0 (quiet_cause 12 b)) conv

  behind : ((step_before card top x d).arose ≡ 0 → ⊥) → (step_of card top x d).arose ≡ (step_before card top x d).arose
  behind some = arose_as ∙ six_behind _ some before_high test

  unquiet : (x.beacon ≡ 12 → x.bts ≡ false → ⊥) → test ≡ false
  unquiet h =
      not_so test (λ t. let p = and_split (eqb x.beacon quiet_code) (not x.bts) t in h (eqb-true x.beacon 12 p.0) (not-true x.bts p.1))

  not_raised : (x.beacon ≡ 12 → x.bts ≡ false → ⊥) → (step_of card top x d).arose ≡ (step_before card top x d).arose
  not_raised h = arose_as ∙ ap (λ (t : Bool). lowest (step_before card top x d).arose (pick t 6 0)) (unquiet h) ∙ lowest_alone _

  -- ---- no beacon

  unread : x.beacon ≡ 12 → reads card x d ≡ false
  unfolding reads_of
  unread e = ap (λ (c : ℕ). reads_of c (reads_in_bts_bit card.settings.functions) x.bts d.code) e

  -- the steps before the speed's, of a code that is no beacon's
  moved_unread : is_beacon x.beacon ≡ false → moved ≡ record { desk = with_code x.beacon (at_beacon card top x d); cause = begins.cause }
  unfolding moved_of
  moved_unread h =
      ap (λ (t : Turn). record { desk = t.desk; cause = lowest begins.cause t.cause })
      (unread_taken x.beacon h (protects card.settings.functions) (zones card.settings.functions) (reads_in_bts_bit card.settings.functions) (has_pairs card.version) card.settings.pairs (at_beacon card top x d))
      ∙ ap (λ (n : ℕ). record { desk = with_code x.beacon (at_beacon card top x d); cause = n }) (lowest_alone begins.cause)

  no_beacon : x.beacon ≡ 12 → is_beacon x.beacon ≡ false
  no_beacon e = ap is_beacon e

  nothing_taken : x.beacon ≡ 12 → moved.desk ≡ with_code 12 (at_beacon card top x d)
  nothing_taken e = ap (λ (t : Turn). t.desk) (moved_unread (no_beacon e)) ∙ ap (λ (c : ℕ). with_code c (at_beacon card top x d)) e

  nothing_arisen : x.beacon ≡ 12 → moved.cause ≡ begins.cause
  nothing_arisen e = ap (λ (t : Turn). t.cause) (moved_unread (no_beacon e))

  read_after : d.code ≡ 12 → 1 ≤ x.beacon → x.beacon ≤ 11 → reads card x d ≡ (not x.bts || is_side x.beacon && reads_in_bts_bit card.settings.functions)
  unfolding reads_of
  read_after last low high = rw (le-leb 1 x.beacon low, le-leb x.beacon 11 high, ne_eqb x.beacon d.code (λ e. omega arith))

  -- the sample behind a last code n, by whether its beacon is read
  taken : Bool → Turn
  taken reads =
      record {
        desk = read_if reads x.beacon (protects card.settings.functions) (zones card.settings.functions) (has_pairs card.version) card.settings.pairs (with_code x.beacon (at_beacon card top x d));
        cause = lowest begins.cause (pick (reads && eqb x.beacon 8 && not (at_beacon card top x d).armed.armed) 4 0);
      }

  behind_code : (n : ℕ) → moved_of card top x (with_code n d) ≡ taken (reads_of x.beacon (reads_in_bts_bit card.settings.functions) (at_beacon card top x d).bts n)
  unfolding moved_of beacon_taken taken
  behind_code n =
      ap (λ (e : Desk). read (begun x.bts x.m (reminds card.settings.functions) card.settings.x card.settings.y (with_code n d)).cause e) ((at_beacon_lem (other_code n) card top x).at d)
      ∙ ap (λ (cause : ℕ). read cause (with_code n (at_beacon card top x d))) (first-cause (other_code n) card top x d)
    where
      read : ℕ → Desk → Turn
      read cause e =
          let t : Turn = beacon_taken x.beacon (protects card.settings.functions) (zones card.settings.functions) (reads_in_bts_bit card.settings.functions) (has_pairs card.version) card.settings.pairs e in
          record { desk = t.desk; cause = lowest cause t.cause }

  counts_changed : 1 ≤ x.beacon → x.beacon ≤ 11 → step_of card top x (with_code 12 d) ≡ step_of card top x (with_code 0 d)
  unfolding step_of
  counts_changed low high = ap (λ (t : Turn). judged_of card.settings top x t.cause t.desk) (behind_code 12 ∙ ap taken as_0 ∙ sym (behind_code 0))
    where
      as_0 : reads_of x.beacon (reads_in_bts_bit card.settings.functions) (at_beacon card top x d).bts 12 ≡ reads_of x.beacon (reads_in_bts_bit card.settings.functions) (at_beacon card top x d).bts 0
      as_0 = reads_alike x.beacon low high (reads_in_bts_bit card.settings.functions) (at_beacon card top x d).bts

  -- ---- without 12

  as_before : (x.beacon ≡ 12 → ⊥) → step_of card top x d ≡ step_before card top x d
  unfolding step_of judged_of arose_of step_before judged_before crossing_turned braked
  as_before h =
      ap ended (not_raised (λ e conv. h e))
      ∙ ap (λ (a : Answer). record { desk = (ended before).desk; arose = before; answer = a; named = reason_of card.settings top turned })
      (answer_as card.settings top x.m still speed (ended before).desk (λ e. h (sym (moved_carries card top x d).1 ∙ e)))
    where
      turned : Desk
      turned = crossing_turned x.m moved.desk

      speed : ℕ
      speed = supervised_of card.settings top turned

      still : Bool
      still = standstill x.pulses turned.brake

      before : ℕ
      before = (step_before card top x d).arose

      -- the brake's step, and the answer with the alarm
      ended : ℕ → Stepped
      ended arose =
          let after : Desk = braked arose (still && bit_of x.buttons rearm_button) x.pulses turned in
          record { desk = after; arose = arose; answer = answer_of card.settings top x.m still speed after; named = reason_of card.settings top turned }

  stays_low : (x.beacon ≡ 12 → ⊥) → d.brake.cause ≤ 5 → (step_of card top x d).desk.brake.cause ≤ 5
  stays_low h low =
      let arose = not_raised (λ e conv. h e) in
      let high = before_high in
      let after = (brake_laws card top x d).cause_after_lem in
      let within = standing_in 5 d.brake.cause (step_of card top x d).arose (rearms x d) low (omega arith) in
      omega arith

  pub quiet_laws : QuietLaws card top x d
  quiet_laws =
      record {
        lamp_11 = lamp_11;
        before_high = before_high;
        raised = raised;
        behind = behind;
        not_raised = not_raised;
        unread = unread;
        nothing_taken = nothing_taken;
        nothing_arisen = nothing_arisen;
        read_after = read_after;
        counts_changed = counts_changed;
        as_before = as_before;
        stays_low = stays_low;
      }

-- ---- 12 in place of 0

module _ (card : Card) (top : ℕ) (x : Input) (d : Desk) where
  -- the desk that the beacon's step finds, whatever the code is, and what arose
  abbrev found : Desk
  found = at_beacon card top x d

  abbrev judged : ℕ → Stepped
  judged code = judged_of card.settings top (with_beacon code x) (begins card top x d).cause (with_code code found)

  judged_at : (code : ℕ) → is_beacon code ≡ false → step_of card top (with_beacon code x) d ≡ judged code
  unfolding step_of
  judged_at code h = ap (λ (t : Turn). judged_of card.settings top (with_beacon code x) t.cause t.desk) (moved_unread card top (with_beacon code x) d h)

  arose : (step_before card top (with_beacon 12 x) d).arose ≡ (step_before card top (with_beacon 0 x) d).arose
  unfolding step_before judged_before crossing_turned supervised_of
  arose = at 12 refl ∙ sym (at 0 refl)
    where
      at : (code : ℕ) → is_beacon code ≡ false
          → (step_before card top (with_beacon code x) d).arose ≡ (judged_before card.settings top (with_beacon code x) (begins card top x d).cause (with_code code found)).arose
      at code h = ap (λ (t : Turn). (judged_before card.settings top (with_beacon code x) t.cause t.desk).arose) (moved_unread card top (with_beacon code x) d h)

  -- what both give alike
  alike : {A : Type 0} (f : Stepped → A) → f (judged 12) ≡ f (judged 0) → f (step_of card top (with_beacon 12 x) d) ≡ f (step_of card top (with_beacon 0 x) d)
  alike f same = ap f (judged_at 12 refl) ∙ same ∙ sym (ap f (judged_at 0 refl))

  lamps_of_lem : (k : ℕ) → (k ≡ 10 → ⊥) → (k ≡ 11 → ⊥) → (code : ℕ)
      → bit_of (judged code).answer.lamps (2 ^ k)
      ≡ bit_of (button_lamps (limit_goes x.m card.settings.limit.last top found) false (crossing_turned x.m found)) (2 ^ k)
  unfolding judged_of answer_of limit_goes crossing_turned braked
  lamps_of_lem k ten eleven code =
      lamps_else k ten _ _ _ (crossing_turned x.m (with_code code found)) ∙ lamps_code k eleven _ false code (crossing_turned x.m found)

  pub only_alarm : OnlyAlarm card top x d
  unfolding judged_of answer_of crossing_turned supervised_of braked
  only_alarm =
      record {
        arose = arose;
        desk = λ code b. alike (λ (r : Stepped). with_code code (with_brake b r.desk)) refl;
        stood = alike (λ (r : Stepped). r.desk.brake.stood) refl;
        speed = alike (λ (r : Stepped). r.answer.speed) refl;
        icon = alike (λ (r : Stepped). r.answer.icon) refl;
        limit = alike (λ (r : Stepped). r.answer.limit) refl;
        lamps = λ k ten eleven. alike (λ (r : Stepped). bit_of r.answer.lamps (2 ^ k)) (lamps_of_lem k ten eleven 12 ∙ sym (lamps_of_lem k ten eleven 0));
      }
