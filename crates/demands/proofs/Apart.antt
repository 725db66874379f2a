-- One sample of two sessions whose cards differ in version, functions, X, Y and pairs alone: where no differing function speaks, each stage
-- gives the same, and so does the sample.
use Prim.Native.Nat.{ℕ, zero, suc, ◌*◌, ◌≤◌}
use native.Mathlib.Omega.{arith}
use mathlib.Core.Bool.{Bool, true, false, ◌&&◌, ◌||◌, not, false≢true}
use mathlib.Core.Path.{◌≡◌, refl, sym, ap, ◌∙◌}
use mathlib.Core.List.{◌∷◌}
use lib.Dec.{eqb, leb, ltb}
use borrow.Author.Tests.{eqb-true, leb-true}
use Rattle.leaf.specs.Choosing.{pick, and_split}
use Rattle.card.specs.declared.Card.{Card}
use Rattle.card.specs.declared.Pairs.{Pairs}
use Rattle.card.specs.declared.Row.{Row}
use Rattle.card.specs.declared.Settings.{Settings}
use Rattle.card.specs.Card.{protects, zones, reminds, reads_in_bts_bit}
use Rattle.signals.specs.declared.control.Main.{Main}
use Rattle.signals.specs.declared.control.MainKind.{MainKind}
use Rattle.signals.specs.declared.control.MainKind.TheVariants.{Clear, Start, ConditionalClear, Announcement, Preannouncement, Caution, BeforeStop, Stop, Zone}
use Rattle.signals.specs.Stop.{reminded_of}
use Rattle.sides.specs.declared.limit.Limit.{Limit}
use Rattle.sides.specs.Limit.{highest, stepped_final, may_step}
use Rattle.sides.specs.Pairs.{is_first, is_second}
use Rattle.curve.specs.Curve.{row_speed}
use Rattle.buttons.specs.Buttons.{increase_pressed, all_presses, presses_of}
use Rattle.desk.specs.declared.state.Desk.{Desk}
use Rattle.desk.specs.declared.clock.Turn.{Turn}
use Rattle.desk.specs.State.{with_code, mode_changed}
use Rattle.desk.specs.Clock.{same_mode, desk_older, reminded, advanced, begun}
use Rattle.beacons.specs.Beacons.{is_beacon, is_side, reads_of, zone_met, reading7, reading_paired, reading_limit, reading_of, read_if, beacon_taken}
use Rattle.step.specs.declared.Input.{Input}
use Rattle.step.specs.declared.speed.Standing.{Standing}
use Rattle.step.specs.declared.speed.Reason.TheVariants.{Vmax, Train}
use Rattle.step.specs.Speed.{main_speed, none, always_at, bts_limit, main_limit, limits_beside, least_of, supervised_of, crossing_turned, limits}
use Rattle.step.specs.Reason.{first_at, reason_of}
use Rattle.step.specs.Step.{has_pairs, moved_of, answer_of, judged_of, step_of}
use Rattle.step_laws.specs.Walk.{at_beacon, reads_at, is_limit, reads_limit}
use Rattle.step_laws.proofs.Walk.{at_increase}
use Rattle.step_laws.proofs.Carried.{zone_code}
use Rattle.demands.specs.Speaks.{same, same_pairs, pairs_differ}
use Rattle.demands.proofs.Later.{later_in, later, or_false}
use Rattle.demands.proofs.ByAnswer.{by_answer, by_increase}

-- ---- the reminders: bit 2, X and Y

-- where function 2 does not differ, its bit, X and Y are the same: with the bit off they are 0 in both
pub reminder_same : (p q : Bool) (x y v w : ℕ) → (p ≡ false → (x ≡ 0) × (y ≡ 0)) → (q ≡ false → (v ≡ 0) × (w ≡ 0))
    → (not (same p q) || p && q && not (eqb x v && eqb y w)) ≡ false → (p ≡ q) × (x ≡ v) × (y ≡ w)
reminder_same true true x y v w hp hq h =
    let e = and_split (eqb x v) (eqb y w) (twice _ h) in
    (refl, eqb-true x v e.0, eqb-true y w e.1)
  where
    twice : (b : Bool) → not b ≡ false → b ≡ true
    twice true h = refl
    twice false h = sym h
reminder_same true false x y v w hp hq h = absurd (let z : ◌≡◌ {A = ℕ} 0 1 = cc in omega arith)
reminder_same false true x y v w hp hq h = absurd (let z : ◌≡◌ {A = ℕ} 0 1 = cc in omega arith)
reminder_same false false x y v w hp hq h = (refl, (hp refl).0 ∙ sym (hq refl).0, (hp refl).1 ∙ sym (hq refl).1)

module _ (b : Bool) (m : ℕ) (p q : Bool) (x y v w : ℕ) (d : Desk) where
  -- the reminders' step gives the same, where it is looked at
  abbrev pub RemindsAlike : Type 0
  RemindsAlike =
      same_mode d.bts b ≡ true → reminded_of (desk_older m d).main p x y (desk_older m d).reminder ≡ reminded_of (desk_older m d).main q v w (desk_older m d).reminder

  begun_alike : RemindsAlike → begun b m p x y d ≡ begun b m q v w d
  unfolding begun advanced reminded
  begun_alike h = cases (same_mode d.bts b) refl
    where
      changed : Turn
      changed = record { desk = mode_changed b d; cause = 0 }

      cases : (t : Bool) → same_mode d.bts b ≡ t → pick t (advanced m p x y d) changed ≡ pick t (advanced m q v w d) changed
      cases true s = rw (h s)
      cases false s = refl

-- ---- the beacon: bits 0, 1 and 3

-- "A function differs by its bit", and speaks: not both
abbrev Apart : Bool → Bool → Bool → Type 0
Apart f g speaking = (not (same f g) && speaking) ≡ false

-- bit 3: which beacons are read
reads_alike : (f g bts : Bool) (code last : ℕ) → Apart f g (bts && is_side code) → reads_of code f bts last ≡ reads_of code g bts last
unfolding reads_of
reads_alike true true bts code last h = refl
reads_alike false false bts code last h = refl
reads_alike true false true code last h = rw h
reads_alike true false false code last h = refl
reads_alike false true true code last h = rw h
reads_alike false true false code last h = refl

-- bit 0: beacons 3 and 4
bit_0 : (f g f1 p : Bool) (r : Pairs) (code : ℕ) (d : Desk) → Apart f g (eqb code 3 || eqb code 4) → reading_of code f f1 p r d ≡ reading_of code g f1 p r d
unfolding reading_of
bit_0 true true f1 p r code d h = refl
bit_0 false false f1 p r code d h = refl
bit_0 true false f1 p r code d h = let e = or_false (eqb code 3) (eqb code 4) h in rw (e.0, e.1)
bit_0 false true f1 p r code d h = let e = or_false (eqb code 3) (eqb code 4) h in rw (e.0, e.1)

-- bit 1: beacon 7 in the zone
zone_7 : (f g : Bool) (d : Desk) → zone_met d ≡ false → reading7 f d ≡ reading7 g d
unfolding reading7
zone_7 f g d h = rw h

bit_1_apart : (f g f0 p : Bool) (r : Pairs) (code : ℕ) (d : Desk) → (eqb code 7 && true && zone_met d) ≡ false → reading_of code f0 f p r d ≡ reading_of code f0 g p r d
unfolding reading_of
bit_1_apart f g f0 p r code d h = cases (eqb code 7) refl h
  where
    cases : (t : Bool) → eqb code 7 ≡ t → (t && true && zone_met d) ≡ false → reading_of code f0 f p r d ≡ reading_of code f0 g p r d
    cases true e h = rw (zone_7 f g d h)
    cases false e h = rw e

bit_1 : (f g f0 p : Bool) (r : Pairs) (code : ℕ) (d : Desk) → Apart f g (eqb code 7 && true && zone_met d) → reading_of code f0 f p r d ≡ reading_of code f0 g p r d
bit_1 true true f0 p r code d h = refl
bit_1 false false f0 p r code d h = refl
bit_1 true false f0 p r code d h = bit_1_apart true false f0 p r code d h
bit_1 false true f0 p r code d h = bit_1_apart false true f0 p r code d h

-- ---- 02 g, the beacon: the version, and bytes 44 to 48

-- numbers that are the same by their test
same_pairs_lem : (p q : Pairs) → same_pairs p q ≡ true → p ≡ q
same_pairs_lem p q h =
    let e = and_split (eqb p.ten_ten q.ten_ten && eqb p.ten_eleven q.ten_eleven && eqb p.eleven_ten q.eleven_ten && eqb p.eleven_eleven q.eleven_eleven) (eqb p.distance q.distance) h in
    let d = and_split (eqb p.ten_ten q.ten_ten && eqb p.ten_eleven q.ten_eleven && eqb p.eleven_ten q.eleven_ten) (eqb p.eleven_eleven q.eleven_eleven) e.0 in
    let c = and_split (eqb p.ten_ten q.ten_ten && eqb p.ten_eleven q.ten_eleven) (eqb p.eleven_ten q.eleven_ten) d.0 in
    let b = and_split (eqb p.ten_ten q.ten_ten) (eqb p.ten_eleven q.ten_eleven) c.0 in
    rw (
      eqb-true p.ten_ten q.ten_ten b.0,
      eqb-true p.ten_eleven q.ten_eleven b.1,
      eqb-true p.eleven_ten q.eleven_ten c.1,
      eqb-true p.eleven_eleven q.eleven_eleven d.1,
      eqb-true p.distance q.distance e.1,
    )

-- one that is not a second acts alike, whatever the pairs are
first_alike : (code : ℕ) (r q : Pairs) (d : Desk) → is_first d.beside.paired.first.kind ≡ false → reading_paired code r d ≡ reading_paired code q d
unfolding reading_paired is_second
first_alike code r q d h = rw h

paired_alike : (code : ℕ) (r q : Pairs) (d : Desk) → (not (same_pairs r q) && is_first d.beside.paired.first.kind) ≡ false
    → reading_paired code r d ≡ reading_paired code q d
paired_alike code r q d h = cases (same_pairs r q) refl h
  where
    cases : (t : Bool) → same_pairs r q ≡ t → (not t && is_first d.beside.paired.first.kind) ≡ false → reading_paired code r d ≡ reading_paired code q d
    cases true e h = ap (λ (u : Pairs). reading_paired code u d) (same_pairs_lem r q e)
    cases false e h = first_alike code r q d h

limit_alike_at : (code : ℕ) (p q : Bool) (r u : Pairs) (d : Desk) → Apart p q true → (p && q && not (same_pairs r u) && is_first d.beside.paired.first.kind) ≡ false
    → reading_limit code p r d ≡ reading_limit code q u d
unfolding reading_limit
limit_alike_at code true true r u d v h = paired_alike code r u d h
limit_alike_at code false false r u d v h = refl
limit_alike_at code true false r u d v h = absurd (false≢true (sym v))
limit_alike_at code false true r u d v h = absurd (false≢true (sym v))

-- a code that is read is at most 11
code_high : (code : ℕ) (f3 bts : Bool) (last : ℕ) → reads_of code f3 bts last ≡ true → code ≤ 11
unfolding reads_of
code_high code f3 bts last r =
    let beacon = (and_split (is_beacon code) (not (eqb code last)) (and_split (is_beacon code && not (eqb code last)) (not bts || is_side code && f3) r).0).0 in
    leb-true code 11 (and_split (leb 1 code) (leb code 11) beacon).1

-- of what is read only a 10 or 11 looks at the pairs
other_alike : (code : ℕ) (f0 f1 p q : Bool) (r u : Pairs) (d : Desk) → code ≤ 11
    → (is_limit code ≡ true → reading_limit code p r d ≡ reading_limit code q u d) → (code ≡ 0 → ⊥) → reading_of code f0 f1 p r d ≡ reading_of code f0 f1 q u d
unfolding reading_of
other_alike zero f0 f1 p q r u d high alike some = absurd (some refl)
other_alike (suc zero) f0 f1 p q r u d high alike some = refl
other_alike (suc (suc zero)) f0 f1 p q r u d high alike some = refl
other_alike (suc (suc (suc zero))) f0 f1 p q r u d high alike some = refl
other_alike (suc (suc (suc (suc zero)))) f0 f1 p q r u d high alike some = refl
other_alike (suc (suc (suc (suc (suc zero))))) f0 f1 p q r u d high alike some = refl
other_alike (suc (suc (suc (suc (suc (suc zero)))))) f0 f1 p q r u d high alike some = refl
other_alike (suc (suc (suc (suc (suc (suc (suc zero))))))) f0 f1 p q r u d high alike some = refl
other_alike (suc (suc (suc (suc (suc (suc (suc (suc zero)))))))) f0 f1 p q r u d high alike some = refl
other_alike (suc (suc (suc (suc (suc (suc (suc (suc (suc zero))))))))) f0 f1 p q r u d high alike some = refl
other_alike (suc (suc (suc (suc (suc (suc (suc (suc (suc (suc zero)))))))))) f0 f1 p q r u d high alike some = alike refl
other_alike (suc (suc (suc (suc (suc (suc (suc (suc (suc (suc (suc zero))))))))))) f0 f1 p q r u d high alike some = alike refl
other_alike (suc (suc (suc (suc (suc (suc (suc (suc (suc (suc (suc (suc code)))))))))))) f0 f1 p q r u d high alike some = absurd (omega arith)

-- no code 0 is read
not_zero : (code : ℕ) (f3 bts : Bool) (last : ℕ) → reads_of code f3 bts last ≡ true → code ≡ 0 → ⊥
unfolding reads_of
not_zero code f3 bts last r e =
    let beacon = (and_split (is_beacon code) (not (eqb code last)) (and_split (is_beacon code && not (eqb code last)) (not bts || is_side code && f3) r).0).0 in
    let low = leb-true 1 code (and_split (leb 1 code) (leb code 11) beacon).0 in
    omega arith

pairs_alike : (code : ℕ) (f0 f1 p q f3 bts : Bool) (last : ℕ) (r u : Pairs) (d : Desk) → reads_of code f3 bts last ≡ true
    → Apart p q (is_limit code && true) → (p && q && not (same_pairs r u) && (is_limit code && true && is_first d.beside.paired.first.kind)) ≡ false
    → reading_of code f0 f1 p r d ≡ reading_of code f0 f1 q u d
pairs_alike code f0 f1 p q f3 bts last r u d reads v h =
    other_alike code f0 f1 p q r u d (code_high code f3 bts last reads) (λ e. limit_alike_at code p q r u d (rw e at v) (rw e at h)) (not_zero code f3 bts last reads)

read_alike : (reads f0 g0 f1 g1 p q f3 bts : Bool) (last code : ℕ) (r u : Pairs) (d : Desk) → reads_of code f3 bts last ≡ reads
    → Apart f0 g0 (eqb code 3 || eqb code 4) → Apart f1 g1 (eqb code 7 && reads && zone_met d) → Apart p q (is_limit code && reads)
    → (p && q && not (same_pairs r u) && (is_limit code && reads && is_first d.beside.paired.first.kind)) ≡ false
    → read_if reads code f0 f1 p r d ≡ read_if reads code g0 g1 q u d
unfolding read_if
read_alike true f0 g0 f1 g1 p q f3 bts last code r u d e h0 h1 hv hp =
    bit_0 f0 g0 f1 p r code d h0 ∙ bit_1 f1 g1 g0 p r code d h1 ∙ pairs_alike code g0 g1 p q f3 bts last r u d e hv hp
read_alike false f0 g0 f1 g1 p q f3 bts last code r u d e h0 h1 hv hp = refl

beacon_alike : (code : ℕ) (f0 g0 f1 g1 f3 g3 p q : Bool) (r u : Pairs) (d : Desk) → Apart f0 g0 (eqb code 3 || eqb code 4)
    → Apart f1 g1 (eqb code 7 && reads_of code f3 d.bts d.code && zone_met d) → Apart f3 g3 (d.bts && is_side code)
    → Apart p q (is_limit code && reads_of code f3 d.bts d.code)
    → (p && q && not (same_pairs r u) && (is_limit code && reads_of code f3 d.bts d.code && is_first d.beside.paired.first.kind)) ≡ false
    → beacon_taken code f0 f1 f3 p r d ≡ beacon_taken code g0 g1 g3 q u d
unfolding beacon_taken
beacon_alike code f0 g0 f1 g1 f3 g3 p q r u d h0 h1 h3 hv hp =
    let reads = reads_of code f3 d.bts d.code in
    rw (← (reads_alike f3 g3 d.bts code d.code h3), read_alike reads f0 g0 f1 g1 p q f3 d.bts d.code code r u (with_code code d) refl h0 (rw (zone_code code d) h1) hv hp)

-- ---- 02 g, the buttons: increase

-- where whether the card has pairs differs, the limit was set by an answer, or none stands
steps_alike : (p q : Bool) (row last top : ℕ) (l : Limit) → (not (same p q) ≡ true → (not l.on || l.answered) ≡ true)
    → may_step p row last top l ≡ may_step q row last top l
unfolding may_step
steps_alike true true row last top l h = refl
steps_alike false false row last top l h = refl
steps_alike true false row last top l h = cases l.on l.answered (h refl)
  where
    cases : (on answered : Bool) → (not on || answered) ≡ true
        → ((not true || answered) && on && leb row (last * 100) && ltb (stepped_final last l.steps top) (highest top))
        ≡ ((not false || answered) && on && leb row (last * 100) && ltb (stepped_final last l.steps top) (highest top))
    cases true true h = refl
    cases true false h = absurd (false≢true h)
    cases false true h = refl
    cases false false h = refl
steps_alike false true row last top l h = cases l.on l.answered (h refl)
  where
    cases : (on answered : Bool) → (not on || answered) ≡ true
        → ((not false || answered) && on && leb row (last * 100) && ltb (stepped_final last l.steps top) (highest top))
        ≡ ((not true || answered) && on && leb row (last * 100) && ltb (stepped_final last l.steps top) (highest top))
    cases true true h = refl
    cases true false h = absurd (false≢true h)
    cases false true h = refl
    cases false false h = refl

presses_alike : (b m : ℕ) (p q : Bool) (row : Row) (top : ℕ) (d : Desk) → (not (same p q) ≡ true → by_answer (at_increase b m row top d) ≡ true)
    → presses_of b m p row top d ≡ presses_of b m q row top d
unfolding presses_of all_presses increase_pressed
presses_alike b m p q row top d h =
    let l = (at_increase b m row top d).beside.limit in
    rw (steps_alike p q (row_speed row l.age) row.last top l h)

-- ---- speed, brake and answer see no function

main_alike : (s t : Settings) (k : MainKind) (c : Main) (top : ℕ) → main_speed k c (later_in s t) top ≡ main_speed k c s top
unfolding main_speed
main_alike s t Clear c top = refl
main_alike s t Start c top = refl
main_alike s t ConditionalClear c top = refl
main_alike s t Announcement c top = refl
main_alike s t Preannouncement c top = refl
main_alike s t Caution c top = refl
main_alike s t BeforeStop c top = refl
main_alike s t Stop c top = refl
main_alike s t Zone c top = refl

limit_alike : (s t : Settings) (top : ℕ) (c : Main) → main_limit (later_in s t) top c ≡ main_limit s top c
unfolding main_limit
limit_alike s t top c = rw (main_alike s t c.kind c top)

speed_alike : (s t : Settings) (top : ℕ) (d : Desk) → supervised_of (later_in s t) top d ≡ supervised_of s top d
unfolding supervised_of
speed_alike s t top d =
    ap (λ (l : Standing). (least_of none (always_at Vmax (s.vmax * 100) ∷ always_at Train top ∷ bts_limit d.bts s.bts ∷ l ∷ limits_beside s top d.beside)).speed)
    (limit_alike s t top d.main)

-- so is the limit that sets it
pub reason_alike : (s t : Settings) (top : ℕ) (d : Desk) → reason_of (later_in s t) top d ≡ reason_of s top d
unfolding reason_of
reason_alike s t top d =
    ap (λ (speed : ℕ). first_at speed (limits (later_in s t) top d)) (speed_alike s t top d)
    ∙ ap (λ (l : Standing). first_at (supervised_of s top d) (always_at Vmax (s.vmax * 100) ∷ always_at Train top ∷ bts_limit d.bts s.bts ∷ l ∷ limits_beside s top d.beside))
    (limit_alike s t top d.main)

judged_alike : (s t : Settings) (top : ℕ) (x : Input) (cause : ℕ) (d : Desk) → judged_of (later_in s t) top x cause d ≡ judged_of s top x cause d
unfolding judged_of answer_of
judged_alike s t top x cause d = rw (speed_alike s t top (crossing_turned x.m d), reason_alike s t top (crossing_turned x.m d))

-- ---- the sample of the desk

module _
    (c t : Card) (top : ℕ) (x : Input) (d : Desk)
    (h2 : RemindsAlike x.bts x.m (reminds c.settings.functions) (reminds t.settings.functions) c.settings.x c.settings.y t.settings.x t.settings.y d)
    (mode : (at_beacon c top x d).bts ≡ x.bts)
    (h0 : Apart (protects c.settings.functions) (protects t.settings.functions) (eqb x.beacon 3 || eqb x.beacon 4))
    (h1 : Apart (zones c.settings.functions) (zones t.settings.functions) (eqb x.beacon 7 && reads_at c x (at_beacon c top x d) && zone_met (at_beacon c top x d)))
    (h3 : Apart (reads_in_bts_bit c.settings.functions) (reads_in_bts_bit t.settings.functions) (x.bts && is_side x.beacon))
    (hv : Apart (has_pairs c.version) (has_pairs t.version) (reads_limit c x (at_beacon c top x d)))
    (hp : (pairs_differ c t && (reads_limit c x (at_beacon c top x d) && is_first (at_beacon c top x d).beside.paired.first.kind)) ≡ false)
    (quiet : not (same (has_pairs c.version) (has_pairs t.version)) ≡ true → by_answer d ≡ true) where
  abbrev s : Settings
  s = c.settings

  abbrev r : Settings
  r = t.settings

  abbrev begins : Turn
  begins = begun x.bts x.m (reminds s.functions) s.x s.y d

  -- the buttons leave one desk
  buttons_alike : presses_of x.buttons x.m (has_pairs c.version) s.limit top begins.desk
      ≡ presses_of x.buttons x.m (has_pairs t.version) s.limit top begins.desk
  buttons_alike =
      presses_alike x.buttons x.m (has_pairs c.version) (has_pairs t.version) s.limit top begins.desk (λ o. by_increase c top x d (quiet o))

  moved_alike : moved_of (later c t) top x d ≡ moved_of c top x d
  unfolding moved_of
  moved_alike =
      rw (
        ← (begun_alike x.bts x.m (reminds s.functions) (reminds r.functions) s.x s.y r.x r.y d h2),
        ← buttons_alike,
        ← (beacon_alike x.beacon (protects s.functions) (protects r.functions) (zones s.functions) (zones r.functions) (reads_in_bts_bit s.functions) (reads_in_bts_bit r.functions)
            (has_pairs c.version) (has_pairs t.version) s.pairs r.pairs (at_beacon c top x d) h0 h1 (rw mode h3) hv hp),
      )

  pub step_alike : step_of (later c t) top x d ≡ step_of c top x d
  unfolding step_of
  step_alike = rw moved_alike (judged_alike s r top x _ _)
