-- Request c holds: what a quiet pickup comes to, that nothing else comes of it, and that a ride without it is as before.
use Prim.Native.Nat.{ℕ, ◌^◌, ◌≤◌}
use native.Mathlib.Omega.{arith}
use mathlib.Core.Bool.{Bool, true, false, ◌&&◌, ◌||◌, not}
use mathlib.Core.List.{List, [], ◌∷◌}
use mathlib.Core.Logic.{◌⊎◌, inl, inr, ◌↔◌}
use mathlib.Core.Path.{◌≡◌, refl, sym, ap, ◌∙◌}
use lib.Dec.{leb, eqb}
use borrow.Author.Tests.{le-leb, leb-true, leb-false, lt-leb, eqb-true, eqb-false}
use Rattle.std.specs.Prelude.{Ok}
use Rattle.leaf.specs.Choosing.{pick, and_split}
use Rattle.leaf.specs.Numbers.{code_top, buttons_top, bit_of}
use Rattle.tone.proofs.Readings.{code_quiet, code_permanent}
use Rattle.card.specs.Card.{reads_in_bts_bit}
use Rattle.desk.specs.declared.state.Desk.{Desk}
use Rattle.desk.specs.Brake.{standstill}
use Rattle.desk.specs.State.{with_brake, with_code}
use Rattle.desk.specs.Ranges.{desk_inside}
use Rattle.beacons.specs.Beacons.{is_side}
use Rattle.step.specs.declared.Answer.{Answer as Told}
use Rattle.step.specs.declared.Stepped.{Stepped}
use Rattle.step.specs.Brake.{standing_cause}
use Rattle.session.specs.declared.Sample.{Sample}
use Rattle.session.specs.declared.Session.{Session}
use Rattle.session.specs.declared.Sampled.{Sampled}
use Rattle.session.specs.Session.{inside_of, in_bts, refused_by, carried, sampled_as, stepped, ran_of, sample_of}
use Rattle.session.specs.Runs.{accepted}
use Rattle.session.proofs.Runs.{refused_stays}
use Rattle.step_laws.specs.Brake.{rearms}
use Rattle.step_laws.specs.Unanswered.{reads}
use Rattle.step_laws.specs.Quiet.{QuietLaws}
use Rattle.step_laws.proofs.Carried.{carried_laws}
use Rattle.step_laws.proofs.Quiet.{quiet_laws, only_alarm}
use Rattle.laws.specs.Ranges.{Inside}
use Rattle.laws.specs.Refusals.{Accepted}
use Rattle.laws.specs.Unanswered.{top_of}
use Rattle.laws.proofs.Refusals.{refusal_laws}
use Rattle.demands.specs.Demand1.{refusal_by}
use Rattle.demands.specs.Quiet.{inside_before, refused_before, stepped_before, sample_before, sampled_by, No12, Arisen, Alarm, with_last, with_cause, coded, AlikeButAlarm, Quiet, QuietExamples}
use Rattle.demands.specs.Quiet as paper
use Rattle.demands.proofs.Computes.{definitions}
use Rattle.demands.proofs.Standing.{desk_after, told, laws}

-- ---- the alarm

-- the mode of a sample that is accepted, as the desk takes it
conv_of : (mode : ℕ) → mode ≡ 1 → in_bts mode ≡ false
conv_of mode e = ap in_bts e

of_conv : (mode : ℕ) → 1 ≤ mode → mode ≤ 2 → in_bts mode ≡ false → mode ≡ 1
of_conv mode low high h = let n = eqb-false mode 2 h in omega arith

module _ (s : Session) (x : Sample) where
  abbrev quiet : QuietLaws s.card (top_of s) (carried s x) s.desk
  quiet = quiet_laws s.card (top_of s) (carried s x) s.desk

  abbrev Loud : Type 0
  Loud = (x.beacon ≡ 12) × (x.mode ≡ 1)

  pub arisen : Accepted s x → Arisen (stepped_before s x).arose Loud (stepped s (carried s x)).arose
  arisen a = cases (eqb (stepped_before s x).arose 0) refl (eqb x.beacon 12) refl (eqb x.mode 1) refl
    where
      silent : (stepped_before s x).arose ≡ 0 → (Loud → ⊥) → Arisen (stepped_before s x).arose Loud (stepped s (carried s x)).arose
      silent z h =
          let conv = of_conv x.mode a.codes.mode_low a.codes.mode_high in
          rw (quiet.not_raised (λ e c. h (e, conv c)) ∙ z) (paper.Arisen.none z h)

      cases : (t : Bool) → eqb (stepped_before s x).arose 0 ≡ t → (q : Bool) → eqb x.beacon 12 ≡ q → (c : Bool) → eqb x.mode 1 ≡ c
          → Arisen (stepped_before s x).arose Loud (stepped s (carried s x)).arose
      cases false e q f c g = let some = eqb-false (stepped_before s x).arose 0 e in rw (quiet.behind some) (paper.Arisen.lower some)
      cases true e true f true g =
          let z = eqb-true (stepped_before s x).arose 0 e in
          let beacon = eqb-true x.beacon 12 f in
          let mode = eqb-true x.mode 1 g in
          rw (quiet.raised beacon (conv_of x.mode mode) z) (paper.Arisen.six z (beacon, mode))
      cases true e true f false g = silent (eqb-true (stepped_before s x).arose 0 e) (λ r. eqb-false x.mode 1 g r.1)
      cases true e false f c g = silent (eqb-true (stepped_before s x).arose 0 e) (λ r. eqb-false x.beacon 12 f r.0)

  -- a beacon behind a 12
  abbrev ReadInBts : Type 0
  ReadInBts = (is_side x.beacon ≡ true) × (reads_in_bts_bit s.card.settings.functions ≡ true)

  read_after : Accepted s x → s.desk.code ≡ 12 → 1 ≤ x.beacon → x.beacon ≤ 11
      → (reads s.card (carried s x) s.desk ≡ true) ↔ ((x.mode ≡ 1) ⊎ ReadInBts)
  read_after a last low high = ((λ h. only (in_bts x.mode) refl (sym law ∙ h)), λ h. law ∙ when h)
    where
      law : reads s.card (carried s x) s.desk ≡ (not (in_bts x.mode) || is_side x.beacon && reads_in_bts_bit s.card.settings.functions)
      law = quiet.read_after last low high

      only : (t : Bool) → in_bts x.mode ≡ t → (not t || is_side x.beacon && reads_in_bts_bit s.card.settings.functions) ≡ true → (x.mode ≡ 1) ⊎ ReadInBts
      only true e h = inr (and_split (is_side x.beacon) (reads_in_bts_bit s.card.settings.functions) h)
      only false e h = inl (of_conv x.mode a.codes.mode_low a.codes.mode_high e)

      either : (t : Bool) → (t || true) ≡ true
      either true = refl
      either false = refl

      when : (x.mode ≡ 1) ⊎ ReadInBts → (not (in_bts x.mode) || is_side x.beacon && reads_in_bts_bit s.card.settings.functions) ≡ true
      when (inl e) = rw (conv_of x.mode e)
      when (inr p) = rw (p.0, p.1) (either (not (in_bts x.mode)))

  alarm : (a : Told) → (sample_of s x).outcome ≡ Ok a → Alarm s x a
  alarm a h =
      let t = told s x a h in
      let same = ap (λ (b : Told). bit_of b.lamps 2048) t.1 in
      record {
        lamp_11 = ((λ lit. quiet.lamp_11.0 (same ∙ lit)), λ e. sym same ∙ quiet.lamp_11.1 e);
        unread = quiet.unread;
        remembered = ap (λ (d : Desk). d.code) (desk_after s x t.0) ∙ (carried_laws s.card (top_of s) (carried s x) s.desk).code_after;
        read_after = read_after t.0;
      }

-- ---- nothing else

module _ (s : Session) (x : Sample) (a b : Told) (ea : (sample_of s (coded 12 x)).outcome ≡ Ok a) (eb : (sample_of s (coded 0 x)).outcome ≡ Ok b) where
  abbrev p : Accepted s (coded 12 x) × ((stepped s (carried s (coded 12 x))).answer ≡ a)
  p = told s (coded 12 x) a ea

  abbrev q : Accepted s (coded 0 x) × ((stepped s (carried s (coded 0 x))).answer ≡ b)
  q = told s (coded 0 x) b eb

  -- what the two steps give alike, the sessions and the answers do
  desks : {A : Type 0} (f : Desk → A) → f (stepped s (carried s (coded 12 x))).desk ≡ f (stepped s (carried s (coded 0 x))).desk
      → f (sample_of s (coded 12 x)).session.desk ≡ f (sample_of s (coded 0 x)).session.desk
  desks f same = ap f (desk_after s (coded 12 x) p.0) ∙ same ∙ sym (ap f (desk_after s (coded 0 x) q.0))

  answers : {A : Type 0} (f : Told → A) → f (stepped s (carried s (coded 12 x))).answer ≡ f (stepped s (carried s (coded 0 x))).answer → f a ≡ f b
  answers f same = ap f (sym p.1) ∙ same ∙ ap f q.1

  -- in BTS the alarm raises nothing
  arose_bts : x.mode ≡ 2 → (code : ℕ) → (stepped s (carried s (coded code x))).arose ≡ (stepped_before s (coded code x)).arose
  arose_bts two code = (quiet s (coded code x)).not_raised (λ e conv. let m = eqb-false x.mode 2 conv in m two)

  cause : x.mode ≡ 2 → a.cause ≡ b.cause
  cause two =
      answers (λ (r : Told). r.cause)
      ((laws s (coded 12 x)).cause_told ∙ (laws s (coded 12 x)).cause_after_lem
      ∙ ap (λ (n : ℕ). standing_cause s.desk.brake.cause n (rearms (carried s x) s.desk))
      (arose_bts two 12 ∙ (only_alarm s.card (top_of s) (carried s x) s.desk).arose ∙ sym (arose_bts two 0))
      ∙ sym (laws s (coded 0 x)).cause_after_lem ∙ sym (laws s (coded 0 x)).cause_told)

  nothing_else : AlikeButAlarm s x a b
  nothing_else =
      let only = only_alarm s.card (top_of s) (carried s x) s.desk in
      record {
        desk = λ code brake. desks (λ (d : Desk). with_code code (with_brake brake d)) (only.desk code brake);
        stood = desks (λ (d : Desk). d.brake.stood) only.stood;
        speed = answers (λ (r : Told). r.speed) only.speed;
        icon = answers (λ (r : Told). r.icon) only.icon;
        limit = answers (λ (r : Told). r.limit) only.limit;
        lamps = λ k ten eleven. answers (λ (r : Told). bit_of r.lamps (2 ^ k)) (only.lamps k ten eleven);
        arose = only.arose;
        cause = cause;
      }

refused_alike : (s : Session) (x : Sample) → refused_by s (coded 12 x) ≡ refused_by s (coded 0 x)
unfolding refused_by
refused_alike s x = refl

-- ---- behind a 12

last_12 : (s : Session) (x : Sample) → refused_by (with_last 12 s) x ≡ refused_by (with_last 0 s) x
unfolding refused_by inside_of desk_inside
last_12 s x = refl

cause_6 : (s : Session) (x : Sample) → refused_by (with_cause 6 s) x ≡ refused_by (with_cause 5 s) x
unfolding refused_by inside_of desk_inside standstill
cause_6 s x = refl

counts_changed : (s : Session) (x : Sample) (a : Told) → 1 ≤ x.beacon → x.beacon ≤ 11 → (sample_of (with_last 12 s) x).outcome ≡ Ok a
    → sample_of (with_last 12 s) x ≡ sample_of (with_last 0 s) x
unfolding ran_of
counts_changed s x a low high h =
    let none = (refusal_laws (with_last 12 s) x).accepted.1 (told (with_last 12 s) x a h).0 in
    (refusal_laws (with_last 12 s) x).accepted_as none
    ∙ ap (sampled_as s) ((quiet s x).counts_changed low high)
    ∙ sym ((refusal_laws (with_last 0 s) x).accepted_as (sym (last_12 s x) ∙ none))

-- ---- refusals

module _ (s : Session) (x : Sample) where
  by_9 : Inside s → (x.beacon ≤ code_top → x.buttons ≤ buttons_top → ⊥) → sample_of s x ≡ refusal_by 9 s
  by_9 inside h =
      (refusal_laws s x).refused_as 9 ((refusal_laws s x).refused_9.1 (inside, λ m. h m.beacon_high m.buttons_high)) (λ z. omega arith)

  by_8 : (Inside s → ⊥) → sample_of s x ≡ refusal_by 8 s
  by_8 h = (refusal_laws s x).refused_as 8 ((refusal_laws s x).refused_8.1 h) (λ z. omega arith)

-- ---- as before

codes_alike : (code : ℕ) → (code ≡ 12 → ⊥) → leb code code_top ≡ leb code 11
codes_alike code h = cases (leb code 11) refl
  where
    cases : (t : Bool) → leb code 11 ≡ t → leb code code_top ≡ t
    cases true e = let low = leb-true code 11 e in le-leb code code_top (omega arith)
    cases false e = let high = leb-false code 11 e in lt-leb code code_top (omega arith)

module _ (s : Session) (x : Sample) (code : s.desk.code ≤ 11) (cause : s.desk.brake.cause ≤ 5) (h : x.beacon ≡ 12 → ⊥) where
  inside_alike : inside_of s ≡ inside_before s
  inside_alike = rw (le-leb s.desk.code 11 code, le-leb s.desk.brake.cause 5 cause) (alone (inside_of s))
    where
      alone : (t : Bool) → t ≡ (t && true && true)
      alone true = refl
      alone false = refl

  refused_as : refused_by s x ≡ refused_before s x
  unfolding refused_by refused_before
  refused_as = rw (codes_alike x.beacon h, ← inside_alike)

  sample_as : sample_of s x ≡ sample_before s x
  unfolding sample_of sample_before ran_of
  sample_as =
      ap (λ (n : ℕ). pick (eqb n 0) (ran_of s x) (refusal_by n s)) refused_as
      ∙ ap (λ (r : Stepped). pick (eqb (refused_before s x) 0) (sampled_as s r) (refusal_by (refused_before s x) s)) ((quiet s x).as_before h)

  -- and what it leaves the desk before could hold
  left_low : ((sample_of s x).session.desk.code ≤ 11) × ((sample_of s x).session.desk.brake.cause ≤ 5)
  left_low = cases (accepted s x) refl
    where
      cases : (t : Bool) → accepted s x ≡ t → ((sample_of s x).session.desk.code ≤ 11) × ((sample_of s x).session.desk.brake.cause ≤ 5)
      cases true e =
          let m = (refusal_laws s x).accepted.0 (eqb-true (refused_by s x) 0 e) in
          let after = (carried_laws s.card (top_of s) (carried s x) s.desk).code_after in
          let low = m.codes.beacon_high in
          rw (desk_after s x m) (omega arith, (quiet s x).stays_low h cause)
      cases false e = rw (refused_stays s x e) (code, cause)

as_before : (s : Session) (xs : List Sample) → s.desk.code ≤ 11 → s.desk.brake.cause ≤ 5 → No12 xs → sampled_by sample_of s xs ≡ sampled_by sample_before s xs
unfolding sampled_by
as_before s [] code cause none = refl
as_before s (x ∷ xs) code cause none =
    let low = left_low s x code cause none.0 in
    ap (λ (l : List Sampled). sample_of s x ∷ l) (as_before (sample_of s x).session xs low.0 low.1 none.1)
    ∙ ap (λ (r : Sampled). r ∷ sampled_by sample_before r.session xs) (sample_as s x code cause none.0)

pub quiet_pickup : Quiet
quiet_pickup =
    record {
      nothing_12 = code_quiet;
      permanent_0 = code_permanent;
      causes = arisen;
      before_high = λ s x. (quiet s x).before_high;
      alarm = alarm;
      nothing_else = nothing_else;
      refused_alike = refused_alike;
      counts_changed = counts_changed;
      last_12 = last_12;
      cause_6 = cause_6;
      code_13 = λ s x inside high. by_9 s x inside (λ c b. omega arith);
      button_11 = λ s x inside high. by_9 s x inside (λ c b. omega arith);
      code_outside = λ s x high. by_8 s x (λ i. let low = i.desk.code in omega arith);
      cause_outside = λ s x high. by_8 s x (λ i. let low = i.desk.brake.cause in omega arith);
      as_before = as_before;
    }

pub quiet_examples : QuietExamples
unfolding definitions
quiet_examples =
    record {
      tone_back = refl;
      ride_in_bts = refl;
      in_conv = refl;
      entering = refl;
      leaving = refl;
      both_read = refl;
      one_read = refl;
      standing = refl;
      too_fast = refl;
      just_over = refl;
      just_under = refl;
      thirteen = refl;
      no_button = refl;
    }
