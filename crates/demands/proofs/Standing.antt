-- Request b holds: the count along a list of samples, and what standstill comes to.
use Prim.Native.Nat.{ℕ, ◌^◌, ◌+◌, ◌*◌, min, ◌≤◌, ◌<◌}
use native.Mathlib.Nat.{zero-add}
use native.Mathlib.Omega.{arith}
use mathlib.Core.Bool.{Bool, true, false}
use mathlib.Core.List.{List, [], ◌∷◌, ◌++◌}
use mathlib.Core.Logic.{◌⊎◌, inl, inr, ◌↔◌}
use mathlib.Core.Path.{◌≡◌, refl, sym, ap, ◌∙◌}
use lib.Dec.{eqb}
use lib.ListN.{length}
use borrow.Author.Tests.{eqb-true, eqb-false, ne_eqb}
use Rattle.std.specs.Prelude.{Ok, Err}
use Rattle.leaf.specs.Choosing.{and_split}
use Rattle.leaf.specs.Numbers.{bit_of}
use Rattle.leaf.specs.Buttons.{rearm_button}
use Rattle.leaf.specs.Answers.{given}
use Rattle.leaf.specs.declared.refusal.Refusal.{Refusal}
use Rattle.card.specs.declared.Card.{Card}
use Rattle.desk.specs.declared.state.Desk.{Desk}
use Rattle.desk.specs.Brake.{stood_after, standstill}
use Rattle.desk.specs.State.{with_brake}
use Rattle.step.specs.declared.Answer.{Answer as Told}
use Rattle.step.specs.Brake.{standing_cause}
use Rattle.session.specs.declared.Sample.{Sample}
use Rattle.session.specs.declared.Session.{Session}
use Rattle.session.specs.declared.Sampled.{Sampled}
use Rattle.session.specs.Session.{Outcome, open_session, refused_by, carried, stepped, ran_of, sample_of}
use Rattle.session.specs.Runs.{accepted, after}
use Rattle.session.proofs.Opening.{opening_fresh}
use Rattle.session.proofs.Runs.{accepted_runs, refused_stays, number_given}
use Rattle.step_laws.specs.Brake.{rearms, BrakeLaws}
use Rattle.step_laws.proofs.Choosing.{not_so}
use Rattle.step_laws.proofs.Brake.{brake_laws}
use Rattle.step_laws.proofs.Unseen.{brake_unseen}
use Rattle.laws.specs.Ranges.{Inside}
use Rattle.laws.specs.Refusals.{CodesMet, ModeMet, mode_of, Accepted}
use Rattle.laws.specs.Unanswered.{top_of}
use Rattle.laws.proofs.Ranges.{inside_only}
use Rattle.laws.proofs.Refusals.{refusal_laws}
use Rattle.laws.proofs.Inside.{inside_laws}
use Rattle.demands.specs.Demand1.{refusal_by}
use Rattle.demands.specs.Standing.{kept_if, accepted_of, NoPulses, StoodFor, count_of, Counts, Still, Braked, NoCause, Pressed, StandstillLaws, with_count, AlikeBut10, Standing, StandingExamples}
use Rattle.demands.specs.Standing as paper
use Rattle.demands.specs.Lazy.{counted_on}
use Rattle.demands.proofs.Computes.{definitions}

-- ---- the count along accepted samples

along_append : (n : ℕ) (xs ys : List Sample) → counted_on n (xs ++ ys) ≡ counted_on (counted_on n xs) ys
along_append n [] ys = refl
along_append n (x ∷ xs) ys = along_append (stood_after x.pulses n) xs ys

-- without pulses it goes on, and stops at 30,000
along_still : (n : ℕ) (xs : List Sample) → n ≤ 30000 → NoPulses xs → counted_on n xs ≡ min 30000 (n + length xs)
unfolding stood_after
along_still n [] low still = omega arith
along_still n (x ∷ xs) low still =
    ap (λ (p : ℕ). counted_on (stood_after p n) xs) still.0
    ∙ (let next = along_still (min (n + 1) 30000) xs (omega arith) still.1 in omega arith)

-- a sample with pulses makes it 0
moved_zero : (pulses n : ℕ) → 1 ≤ pulses → stood_after pulses n ≡ 0
unfolding stood_after
moved_zero pulses n h = rw (ne_eqb pulses 0 (λ z. omega arith))

pub along_as : (xs : List Sample) (n : ℕ) → StoodFor xs n → counted_on 10 xs ≡ min 30000 n
along_as xs n (paper.StoodFor.since before last behind e moved still) =
    ap (counted_on 10) e ∙ along_append 10 before (last ∷ behind)
    ∙ ap (λ (k : ℕ). counted_on k behind) (moved_zero last.pulses (counted_on 10 before) moved)
    ∙ along_still 0 behind (omega arith) still ∙ ap (min 30000) (zero-add (length behind))
along_as xs n (paper.StoodFor.never_moved still) = along_still 10 xs (omega arith) still

counted : (xs : List Sample) → (n : ℕ) × StoodFor xs n
counted [] = (10, paper.StoodFor.never_moved tt)
counted (x ∷ xs) = more (counted xs)
  where
    first : (t : Bool) → eqb x.pulses 0 ≡ t → NoPulses xs → (n : ℕ) × StoodFor (x ∷ xs) n
    first true e still = (10 + length (x ∷ xs), paper.StoodFor.never_moved (eqb-true x.pulses 0 e, still))
    first false e still = let m = eqb-false x.pulses 0 e in (length xs, paper.StoodFor.since [] x xs refl (omega arith) still)

    more : (n : ℕ) × StoodFor xs n → (n : ℕ) × StoodFor (x ∷ xs) n
    more (n, paper.StoodFor.since before last behind e moved still) =
        (length behind, paper.StoodFor.since (x ∷ before) last behind (ap (λ (l : List Sample). x ∷ l) e) moved still)
    more (n, paper.StoodFor.never_moved still) = first (eqb x.pulses 0) refl still

-- ---- the count of a session

module _ (s : Session) (x : Sample) where
  count_after : accepted s x ≡ true → count_of (sample_of s x).session ≡ stood_after x.pulses (count_of s)
  unfolding ran_of
  count_after h =
      ap (λ (r : Sampled). count_of r.session) (accepted_runs s x h)
      ∙ (brake_laws s.card (top_of s) (carried s x) s.desk).stood_then_lem

-- a list of samples, accepted or refused
count_along : (s : Session) (xs : List Sample) → count_of (after s xs) ≡ counted_on (count_of s) (accepted_of s xs)
unfolding after accepted_of
count_along s [] = refl
count_along s (x ∷ xs) = count_along (sample_of s x).session xs ∙ cases (accepted s x) refl
  where
    cases : (t : Bool) → accepted s x ≡ t
        → counted_on (count_of (sample_of s x).session) (accepted_of (sample_of s x).session xs) ≡ counted_on (count_of s) (kept_if t x (accepted_of (sample_of s x).session xs))
    cases true e = ap (λ (n : ℕ). counted_on n (accepted_of (sample_of s x).session xs)) (count_after s x e)
    cases false e =
        ap (λ (n : ℕ). counted_on n (accepted_of (sample_of s x).session xs))
        (ap (λ (r : Sampled). count_of r.session) (refused_stays s x e))

count : Counts (λ s xs. count_of (after s xs))
count card train s xs n h stood =
    count_along s xs
    ∙ ap (λ (k : ℕ). counted_on k (accepted_of s xs)) (ap count_of (opening_fresh card train s h))
    ∙ along_as (accepted_of s xs) n stood

-- ---- standstill

pub answered-refused : {a : Told} {why : Refusal} → ◌≡◌ {A = Outcome} (Ok a) (Err why) → ⊥
answered-refused h = let z : ◌≡◌ {A = ℕ} 0 1 = cc in omega arith

pub answer_is : {a b : Told} → ◌≡◌ {A = Outcome} (Ok a) (Ok b) → a ≡ b
answer_is h = cc

module _ (s : Session) (x : Sample) where
  ran : Accepted s x → sample_of s x ≡ ran_of s x
  ran a = (refusal_laws s x).accepted_as ((refusal_laws s x).accepted.1 a)

  refused_11 : (sample_of s x ≡ refusal_by 11 s)
      ↔ (Inside s × (CodesMet x × ((x.pulses * s.card.settings.tick ≤ 100000) × ((x.mode ≡ mode_of s → ⊥) × (Still s x → ⊥)))))
  unfolding ran_of
  refused_11 = (only, when)
    where
      only : sample_of s x ≡ refusal_by 11 s
          → Inside s × (CodesMet x × ((x.pulses * s.card.settings.tick ≤ 100000) × ((x.mode ≡ mode_of s → ⊥) × (Still s x → ⊥))))
      only h =
          let m = (refusal_laws s x).refused_11.0 (sym (number_given s x 11 h).1) in
          (m.0, (m.1.0, (m.1.1.0, ((λ e. m.1.1.1 (inl e)), (λ e. m.1.1.1 (inr e))))))

      kept : (x.mode ≡ mode_of s → ⊥) → (Still s x → ⊥) → ModeMet s x → ⊥
      kept changed moving (inl e) = changed e
      kept changed moving (inr e) = moving e

      when : Inside s × (CodesMet x × ((x.pulses * s.card.settings.tick ≤ 100000) × ((x.mode ≡ mode_of s → ⊥) × (Still s x → ⊥))))
          → sample_of s x ≡ refusal_by 11 s
      when m =
          let number = (refusal_laws s x).refused_11.1 (m.0, (m.1.0, (m.1.1.0, kept m.1.1.1.0 m.1.1.1.1))) in
          (refusal_laws s x).refused_as 11 number (λ z. omega arith)

  abbrev pub laws : BrakeLaws s.card (top_of s) (carried s x) s.desk
  laws = brake_laws s.card (top_of s) (carried s x) s.desk

  pub desk_after : Accepted s x → (sample_of s x).session.desk ≡ (stepped s (carried s x)).desk
  unfolding ran_of
  desk_after a = ap (λ (r : Sampled). r.session.desk) (ran a)

  cause_after_lem : Accepted s x → (sample_of s x).session.desk.brake.cause ≡ (stepped s (carried s x)).desk.brake.cause
  cause_after_lem a = ap (λ (d : Desk). d.brake.cause) (desk_after a)

  rearmed : Accepted s x → (Braked s × ((sample_of s x).session.desk.brake.cause ≡ 0)) ↔ (Braked s × (Still s x × (Pressed x × NoCause s x)))
  rearmed a = (only, when)
    where
      only : Braked s × ((sample_of s x).session.desk.brake.cause ≡ 0) → Braked s × (Still s x × (Pressed x × NoCause s x))
      only h = (h.0, cases (laws.stands_until h.0))
        where
          cases : ((stepped s (carried s x)).desk.brake.cause ≡ s.desk.brake.cause)
              ⊎ (((stepped s (carried s x)).desk.brake.cause ≡ 0) × (Still s x × (Pressed x × NoCause s x)))
              → Still s x × (Pressed x × NoCause s x)
          cases (inl e) = absurd (h.0 (sym e ∙ sym (cause_after_lem a) ∙ h.1))
          cases (inr e) = e.1

      when : Braked s × (Still s x × (Pressed x × NoCause s x)) → Braked s × ((sample_of s x).session.desk.brake.cause ≡ 0)
      when h = (h.0, cause_after_lem a ∙ laws.goes_off h.1.0 h.1.1.0 h.1.1.1)

  pub told : (a : Told) → (sample_of s x).outcome ≡ Ok a → Accepted s x × ((stepped s (carried s x)).answer ≡ a)
  unfolding ran_of
  told a h = cases (accepted s x) refl
    where
      cases : (t : Bool) → accepted s x ≡ t → Accepted s x × ((stepped s (carried s x)).answer ≡ a)
      cases true e =
          ((refusal_laws s x).accepted.0 (eqb-true (refused_by s x) 0 e), answer_is (sym (ap (λ (r : Sampled). r.outcome) (accepted_runs s x e)) ∙ h))
      cases false e = absurd (answered-refused (sym h ∙ ap (λ (r : Sampled). r.outcome) (refused_stays s x e)))

  cause_told : (a : Told) → (sample_of s x).outcome ≡ Ok a → (sample_of s x).session.desk.brake.cause ≡ a.cause
  cause_told a h = let t = told a h in cause_after_lem t.0 ∙ sym laws.cause_told ∙ ap (λ (b : Told). b.cause) t.1

  lamp_10 : (a : Told) → (sample_of s x).outcome ≡ Ok a → (bit_of a.lamps rearm_button ≡ true) ↔ ((a.cause ≡ 0 → ⊥) × Still s x)
  lamp_10 a h = (only, when)
    where
      same : (stepped s (carried s x)).answer ≡ a
      same = (told a h).1

      cause : (stepped s (carried s x)).desk.brake.cause ≡ a.cause
      cause = sym laws.cause_told ∙ ap (λ (b : Told). b.cause) same

      only : bit_of a.lamps rearm_button ≡ true → (a.cause ≡ 0 → ⊥) × Still s x
      only lit =
          let m = laws.lamp_10.0 (ap (λ (b : Told). bit_of b.lamps rearm_button) same ∙ lit) in
          ((λ z. m.0 (cause ∙ z)), m.1)

      when : (a.cause ≡ 0 → ⊥) × Still s x → bit_of a.lamps rearm_button ≡ true
      when m = ap (λ (b : Told). bit_of b.lamps rearm_button) (sym same) ∙ laws.lamp_10.1 ((λ z. m.0 (sym cause ∙ z)), m.1)

  standstill_laws : StandstillLaws s x
  standstill_laws = record { refused_11 = refused_11; rearmed = rearmed; lamp_10 = lamp_10; cause_told = cause_told }

-- ---- nothing else

-- without rearm the cause told is the first one's, or what arose
unpressed : (s : Session) (x : Sample) (a : Told) → (sample_of s x).outcome ≡ Ok a → (Pressed x → ⊥)
    → a.cause ≡ standing_cause s.desk.brake.cause (stepped s (carried s x)).arose false
unpressed s x a h none =
    sym (cause_told s x a h) ∙ cause_after_lem s x (told s x a h).0 ∙ (laws s x).cause_after_lem
    ∙ ap (standing_cause s.desk.brake.cause (stepped s (carried s x)).arose)
    (not_so (rearms (carried s x) s.desk) (λ e. none (and_split (standstill x.pulses s.desk.brake) (bit_of x.buttons rearm_button) e).1))

nothing_else : (s : Session) (n : ℕ) (x : Sample) (a b : Told) → (sample_of s x).outcome ≡ Ok a → (sample_of (with_count n s) x).outcome ≡ Ok b
    → AlikeBut10 s (with_count n s) x a b
nothing_else s n x a b ea eb =
    let p = told s x a ea in
    let q = told (with_count n s) x b eb in
    let unseen = brake_unseen s.card (top_of s) (carried s x) s.desk (with_count n s).desk.brake in
    record {
      desk = λ c. ap (with_brake c) (desk_after s x p.0) ∙ sym (unseen.desk c) ∙ sym (ap (with_brake c) (desk_after (with_count n s) x q.0));
      speed = ap (λ (r : Told). r.speed) (sym p.1) ∙ sym unseen.speed ∙ ap (λ (r : Told). r.speed) q.1;
      icon = ap (λ (r : Told). r.icon) (sym p.1) ∙ sym unseen.icon ∙ ap (λ (r : Told). r.icon) q.1;
      limit = ap (λ (r : Told). r.limit) (sym p.1) ∙ sym unseen.limit ∙ ap (λ (r : Told). r.limit) q.1;
      cause = λ none.
          unpressed s x a ea none
          ∙ ap (λ (arose : ℕ). standing_cause s.desk.brake.cause arose false) (sym unseen.arose)
          ∙ sym (unpressed (with_count n s) x b eb none);
      lamps = λ k ten.
          ap (λ (r : Told). bit_of r.lamps (2 ^ k)) (sym p.1) ∙ sym (unseen.lamps k ten) ∙ ap (λ (r : Told). bit_of r.lamps (2 ^ k)) q.1;
    }

-- ---- the ranges

count_inside : (card : Card) (train : ℕ) (s : Session) (xs : List Sample) → open_session card train ≡ given s → count_of (after s xs) ≤ 30000
count_inside card train s xs h = (inside_only _ (inside_laws.always_inside card train s xs h)).desk.brake.stood

count_outside : (s : Session) (x : Sample) → 30000 < count_of s → sample_of s x ≡ refusal_by 8 s
count_outside s x high =
    (refusal_laws s x).refused_as 8 ((refusal_laws s x).refused_8.1 (λ i. let low = i.desk.brake.stood in omega arith)) (λ z. omega arith)

pub standing : Standing
standing = record { count = count; counted = counted; standstill = standstill_laws; nothing_else = nothing_else; count_inside = count_inside; count_outside = count_outside }

pub standing_examples : StandingExamples
unfolding definitions
standing_examples =
    record {
      opened_stands = refl;
      opened_moves = refl;
      opened_rearms = refl;
      mode_at_10 = refl;
      mode_at_9 = refl;
      rearm_at_10 = refl;
      rearm_at_9 = refl;
      lamp_at_10 = refl;
      refused_within = refl;
      refused_uncounted = refl;
      mode_counts_on = refl;
      bts_counts = refl;
      bts_counts_9 = refl;
    }
