-- Which of the sample's refusals is given, and when: each test and its facts, then the order.
use Prim.Native.Nat.{ℕ, ◌*◌, ◌≤◌, ◌<◌}
use native.Mathlib.Omega.{arith}
use mathlib.Core.Path.{◌≡◌, refl, sym, ◌∙◌}
use mathlib.Core.Bool.{Bool, true, false, ◌&&◌, ◌||◌}
use mathlib.Core.Logic.{◌⊎◌, inl, inr, ◌↔◌}
use lib.Dec.{leb, eqb}
use borrow.Author.Tests.{le-leb, leb-true, leb-false, lt-leb, eqb-true, eqb-false, ne_eqb}
use Rattle.std.specs.Prelude.{Err}
use Rattle.leaf.specs.Choosing.{pick, and_split}
use Rattle.leaf.specs.Numbers.{code_top, buttons_top}
use Rattle.leaf.specs.Checks.{FirstFault, first_fault}
use Rattle.leaf.specs.Answers.{numbered_refusal}
use Rattle.desk.specs.declared.brake.Brake.{Brake}
use Rattle.desk.specs.Brake.{standstill}
use Rattle.desk.specs.Clock.{same_mode}
use Rattle.session.specs.declared.Sample.{Sample}
use Rattle.session.specs.declared.Session.{Session}
use Rattle.session.specs.Session.{inside_of, in_bts, codes_fit, sample_checks, refused_by, ran_of, sample_of}
use Rattle.session.proofs.Numbers.{verdict, by_tests}
use Rattle.step_laws.specs.Brake.{AtStandstill}
use Rattle.step_laws.proofs.Choosing.{not_so}
use Rattle.step_laws.proofs.Brake.{standstill_as}
use Rattle.laws.specs.Ranges.{Inside}
use Rattle.laws.specs.Refusals.{CodesMet, ModeMet, Accepted, RefusalLaws}
use Rattle.laws.proofs.Ranges.{inside_only, inside_when}

-- ---- each test and its facts

apart : {A : Type 0} (t : Bool) → t ≡ true → t ≡ false → A
apart t p q = let z : ◌≡◌ {A = ℕ} 0 1 = cc in absurd (omega arith)

-- "session out of its ranges": exactly when the facts of a session inside do not all hold
outside_only : (s : Session) → inside_of s ≡ false → Inside s → ⊥
outside_only s h i = apart (inside_of s) (inside_when s i) h

outside_when : (s : Session) → (Inside s → ⊥) → inside_of s ≡ false
outside_when s h = not_so (inside_of s) (λ e. h (inside_only s e))

codes_only : (x : Sample) → codes_fit x ≡ true → CodesMet x
codes_only x h =
    let a = and_split (leb x.beacon code_top && leb x.buttons buttons_top && leb 1 x.mode) (leb x.mode 2) h in
    let b = and_split (leb x.beacon code_top && leb x.buttons buttons_top) (leb 1 x.mode) a.0 in
    let c = and_split (leb x.beacon code_top) (leb x.buttons buttons_top) b.0 in
    record {
      beacon_high = leb-true x.beacon code_top c.0;
      buttons_high = leb-true x.buttons buttons_top c.1;
      mode_low = leb-true 1 x.mode b.1;
      mode_high = leb-true x.mode 2 a.1;
    }

codes_when : (x : Sample) → CodesMet x → codes_fit x ≡ true
codes_when x m =
    rw (le-leb x.beacon code_top m.beacon_high, le-leb x.buttons buttons_top m.buttons_high, le-leb 1 x.mode m.mode_low, le-leb x.mode 2 m.mode_high)

abbrev mode_test : Bool → ℕ → Brake → ℕ → Bool
mode_test bts pulses brake mode = same_mode bts (in_bts mode) || standstill pulses brake

mode_only : (bts : Bool) (pulses : ℕ) (brake : Brake) (mode : ℕ) → 1 ≤ mode → mode ≤ 2 → mode_test bts pulses brake mode ≡ true
    → (mode ≡ pick bts 2 1) ⊎ AtStandstill pulses brake
mode_only bts pulses brake mode low high h = cases bts (eqb mode 2) refl h
  where
    cases : (b t : Bool) → eqb mode 2 ≡ t → (same_mode b t || standstill pulses brake) ≡ true → (mode ≡ pick b 2 1) ⊎ AtStandstill pulses brake
    cases true true e h = inl (eqb-true mode 2 e)
    cases true false e h = inr ((standstill_as pulses brake).0 h)
    cases false true e h = inr ((standstill_as pulses brake).0 h)
    cases false false e h = let n = eqb-false mode 2 e in inl (omega arith)

mode_when : (bts : Bool) (pulses : ℕ) (brake : Brake) (mode : ℕ) → (mode ≡ pick bts 2 1) ⊎ AtStandstill pulses brake → mode_test bts pulses brake mode ≡ true
mode_when bts pulses brake mode (inl e) = cases bts e
  where
    cases : (b : Bool) → mode ≡ pick b 2 1 → mode_test b pulses brake mode ≡ true
    cases true e = rw e
    cases false e = rw e
mode_when bts pulses brake mode (inr e) = rw ((standstill_as pulses brake).1 e) (cases (same_mode bts (in_bts mode)))
  where
    cases : (b : Bool) → (b || true) ≡ true
    cases true = refl
    cases false = refl

-- ---- the order

is_0 : (a b c e : Bool) → verdict a b c e ≡ 0 → (a ≡ true) × ((b ≡ true) × ((c ≡ true) × (e ≡ true)))
is_0 false b c e h = absurd (omega arith)
is_0 true false c e h = absurd (omega arith)
is_0 true true false e h = absurd (omega arith)
is_0 true true true false h = absurd (omega arith)
is_0 true true true true h = (refl, (refl, (refl, refl)))

is_8 : (a b c e : Bool) → verdict a b c e ≡ 8 → a ≡ false
is_8 false b c e h = refl
is_8 true false c e h = absurd (omega arith)
is_8 true true false e h = absurd (omega arith)
is_8 true true true false h = absurd (omega arith)
is_8 true true true true h = absurd (omega arith)

is_9 : (a b c e : Bool) → verdict a b c e ≡ 9 → (a ≡ true) × (b ≡ false)
is_9 false b c e h = absurd (omega arith)
is_9 true false c e h = (refl, refl)
is_9 true true false e h = absurd (omega arith)
is_9 true true true false h = absurd (omega arith)
is_9 true true true true h = absurd (omega arith)

is_10 : (a b c e : Bool) → verdict a b c e ≡ 10 → (a ≡ true) × ((b ≡ true) × (c ≡ false))
is_10 false b c e h = absurd (omega arith)
is_10 true false c e h = absurd (omega arith)
is_10 true true false e h = (refl, (refl, refl))
is_10 true true true false h = absurd (omega arith)
is_10 true true true true h = absurd (omega arith)

is_11 : (a b c e : Bool) → verdict a b c e ≡ 11 → (a ≡ true) × ((b ≡ true) × ((c ≡ true) × (e ≡ false)))
is_11 false b c e h = absurd (omega arith)
is_11 true false c e h = absurd (omega arith)
is_11 true true false e h = absurd (omega arith)
is_11 true true true false h = (refl, (refl, (refl, refl)))
is_11 true true true true h = absurd (omega arith)

module _ (s : Session) (x : Sample) where
  abbrev a : Bool
  a = inside_of s

  abbrev b : Bool
  b = codes_fit x

  abbrev c : Bool
  c = leb (x.pulses * s.card.settings.tick) 100000

  abbrev e : Bool
  e = mode_test s.desk.bts x.pulses s.desk.brake x.mode

  named : refused_by s x ≡ verdict a b c e
  named = by_tests s x

  accepted : (refused_by s x ≡ 0) ↔ Accepted s x
  accepted = (only, when)
    where
      only : refused_by s x ≡ 0 → Accepted s x
      only h =
          let t = is_0 a b c e (sym named ∙ h) in
          let codes = codes_only x t.1.0 in
          record {
            inside = inside_only s t.0;
            codes = codes;
            slow = leb-true _ _ t.1.1.0;
            kept = mode_only s.desk.bts x.pulses s.desk.brake x.mode codes.mode_low codes.mode_high t.1.1.1;
          }

      when : Accepted s x → refused_by s x ≡ 0
      when m =
          named
          ∙ rw (inside_when s m.inside, codes_when x m.codes, le-leb _ _ m.slow, mode_when s.desk.bts x.pulses s.desk.brake x.mode m.kept)

  refused_8 : (refused_by s x ≡ 8) ↔ (Inside s → ⊥)
  refused_8 = (λ h. outside_only s (is_8 a b c e (sym named ∙ h)), λ m. named ∙ rw (outside_when s m))

  refused_9 : (refused_by s x ≡ 9) ↔ (Inside s × (CodesMet x → ⊥))
  refused_9 = (only, when)
    where
      only : refused_by s x ≡ 9 → Inside s × (CodesMet x → ⊥)
      only h =
          let t = is_9 a b c e (sym named ∙ h) in
          (inside_only s t.0, λ m. apart b (codes_when x m) t.1)

      when : Inside s × (CodesMet x → ⊥) → refused_by s x ≡ 9
      when m = named ∙ rw (inside_when s m.0, not_so b (λ q. m.1 (codes_only x q)))

  refused_10 : (refused_by s x ≡ 10) ↔ (Inside s × (CodesMet x × (100000 < x.pulses * s.card.settings.tick)))
  refused_10 = (only, when)
    where
      only : refused_by s x ≡ 10 → Inside s × (CodesMet x × (100000 < x.pulses * s.card.settings.tick))
      only h =
          let t = is_10 a b c e (sym named ∙ h) in
          (inside_only s t.0, (codes_only x t.1.0, leb-false _ _ t.1.1))

      when : Inside s × (CodesMet x × (100000 < x.pulses * s.card.settings.tick)) → refused_by s x ≡ 10
      when m = named ∙ rw (inside_when s m.0, codes_when x m.1.0, lt-leb _ _ m.1.1)

  refused_11 : (refused_by s x ≡ 11)
      ↔ (Inside s × (CodesMet x × ((x.pulses * s.card.settings.tick ≤ 100000) × (ModeMet s x → ⊥))))
  refused_11 = (only, when)
    where
      only : refused_by s x ≡ 11
          → Inside s × (CodesMet x × ((x.pulses * s.card.settings.tick ≤ 100000) × (ModeMet s x → ⊥)))
      only h =
          let t = is_11 a b c e (sym named ∙ h) in
          (inside_only s t.0, (codes_only x t.1.0, (leb-true _ _ t.1.1.0, λ m. apart e (mode_when s.desk.bts x.pulses s.desk.brake x.mode m) t.1.1.1)))

      when : Inside s × (CodesMet x × ((x.pulses * s.card.settings.tick ≤ 100000) × (ModeMet s x → ⊥)))
          → refused_by s x ≡ 11
      when m =
          let codes = m.1.0 in
          named
          ∙ rw (
            inside_when s m.0,
            codes_when x codes,
            le-leb _ _ m.1.1.0,
            not_so e (λ q. m.1.1.1 (mode_only s.desk.bts x.pulses s.desk.brake x.mode codes.mode_low codes.mode_high q)),
          )

  first_refused : (n : ℕ) → refused_by s x ≡ n → (n ≡ 0 → ⊥) → FirstFault n (sample_checks s x)
  unfolding refused_by
  first_refused n h z = first_fault (sample_checks s x) n tt h z

  refused_as : (n : ℕ) → refused_by s x ≡ n → (n ≡ 0 → ⊥)
      → sample_of s x ≡ record { session = s; outcome = Err (numbered_refusal n) }
  unfolding sample_of
  refused_as n h z = rw (h, ne_eqb n 0 z)

  accepted_as : refused_by s x ≡ 0 → sample_of s x ≡ ran_of s x
  unfolding sample_of
  accepted_as h = rw h

  pub refusal_laws : RefusalLaws s x
  refusal_laws =
      record {
        accepted = accepted;
        refused_8 = refused_8;
        refused_9 = refused_9;
        refused_10 = refused_10;
        refused_11 = refused_11;
        first_refused = first_refused;
        refused_as = refused_as;
        accepted_as = accepted_as;
      }
