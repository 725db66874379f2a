-- The check of settings, over every kind of card: none is out exactly when each meets its range, and a place that is given is that of
-- the first that is out.
use Prim.Native.Nat.{ℕ, ◌/◌, ◌%◌, ◌≤◌, ◌<◌}
use native.Mathlib.Omega.{arith}
use mathlib.Core.Path.{◌≡◌, refl, sym, ◌∙◌}
use mathlib.Core.Bool.{Bool, true, false}
use mathlib.Core.Logic.{◌↔◌}
use lib.Dec.{T, ltb, eqb, lit≤, lit<}
use borrow.Author.Tests.{ltb-true, ltb-false, eqb-true, eqb-false, ne_eqb}
use Rattle.leaf.specs.Choosing.{pick}
use Rattle.leaf.specs.Checks.{first_bad, numbered, none_bad, fine_none, all_hold_lem}
use Rattle.leaf.specs.Answers.{Answer, refused_at, is_given}
use Rattle.card.specs.Card.{base_kind, speed_of, no_pairs, reminds}
use Rattle.card.specs.Ranges.{place_of, settings_checks, settings_fault, settings_inside, check_of, in_range}
use Rattle.card.specs.Plain.{Setting, vmax_setting, tick_setting, bts_setting, initial_setting, last_setting, drop_setting, functions_setting, x_setting, y_setting, pair_speed_setting, pair_distance_setting, OfCard, offset, place, SettingMet, RangesMet, FirstOut, Placed, CheckedAs, out_of_range, all_in_range}
use Rattle.card.specs.declared.Kind.{Kind}
use Rattle.card.specs.declared.Pairs.{Pairs}
use Rattle.card.specs.declared.Settings.{Settings}
use Rattle.card.proofs.Listed.{all_map, all-numbered, first, settings, each, every, test, in_order, test_met, met_test}

-- ---- places

offset_top : (setting : Setting) → OfCard setting → offset setting ≤ 45
offset_top vmax_setting of = lit≤ tt
offset_top tick_setting of = lit≤ tt
offset_top bts_setting of = lit≤ tt
offset_top (initial_setting row) of = omega arith
offset_top (last_setting row) of = omega arith
offset_top (drop_setting row) of = omega arith
offset_top functions_setting of = lit≤ tt
offset_top x_setting of = lit≤ tt
offset_top y_setting of = lit≤ tt
offset_top (pair_speed_setting pair) of = omega arith
offset_top pair_distance_setting of = lit≤ tt

-- a first setting out of range is at one place
pub first_one : {kind : Kind} {v : ℕ} {s : Settings} (a b : ℕ) → FirstOut kind v s a → FirstOut kind v s b → a ≡ b
first_one a b f g = cases (ltb a b) refl (ltb b a) refl
  where
    cases : (t : Bool) → ltb a b ≡ t → (u : Bool) → ltb b a ≡ u → a ≡ b
    cases true e u d = absurd (f.out (g.earlier f.setting f.of_card (rw f.stands (ltb-true a b e))))
    cases false e true d = absurd (g.out (f.earlier g.setting g.of_card (rw g.stands (ltb-true b a d))))
    cases false e false d = omega (arith, ltb-false a b e, ltb-false b a d)

-- no fault is found where every setting is in range
pub met_fault : (kind : Kind) (v : ℕ) (s : Settings) → RangesMet kind v s → settings_fault kind v s ≡ 0
unfolding settings_fault
met_fault kind v s m = fine_none (settings_checks kind v s) (all_map (met_test kind v s) (settings s) (every (SettingMet kind v s) s m))

module _ (kind : Kind) (placed : Placed kind) (v : ℕ) (s : Settings) where
  in_byte : (setting : Setting) → OfCard setting → place_of kind (offset setting) ≡ place kind setting
  in_byte setting of = omega (arith, offset_top setting of, placed.high)

  no_zero : T (numbered (settings_checks kind v s))
  no_zero =
      all-numbered (place_of kind) offset (test kind v s) (settings s)
      (every (λ setting. place_of kind (offset setting) ≡ 0 → ⊥) s (λ setting of zero. omega (arith, in_byte setting of, placed.low)))

  -- every setting is in range where no fault is found
  pub fault_met : settings_fault kind v s ≡ 0 → RangesMet kind v s
  unfolding settings_fault
  fault_met h = each (SettingMet kind v s) s (all_map (test_met kind v s) (settings s) (none_bad 0 (settings_checks kind v s) no_zero h).1)

  -- a fault that is found is the first
  pub fault_out : (settings_fault kind v s ≡ 0 → ⊥) → FirstOut kind v s (settings_fault kind v s)
  unfolding settings_fault
  fault_out found =
      let f = first (place_of kind) offset (test kind v s) OfCard (settings s) (settings_fault kind v s) (every OfCard s (λ setting of. of)) (in_order kind v s) no_zero refl found in
      let stands : place kind f.the ≡ settings_fault kind v s = sym (in_byte f.the f.one) ∙ f.stands in
      record {
        setting = f.the;
        of_card = f.one;
        stands = stands;
        out = λ m. let z : ◌≡◌ {A = ℕ} 0 1 = cc (met_test kind v s f.the m, f.fails) in omega arith;
        earlier = λ other of low.
            test_met kind v s other (each (λ a. offset a < offset f.the → test kind v s a ≡ true) s f.lower other of (omega (arith, stands)));
      }

  -- and the first setting out of range is found
  pub out_fault : (at : ℕ) → FirstOut kind v s at → settings_fault kind v s ≡ at
  out_fault at f = cases (eqb (settings_fault kind v s) 0) refl
    where
      cases : (t : Bool) → eqb (settings_fault kind v s) 0 ≡ t → settings_fault kind v s ≡ at
      cases true e = absurd (f.out (fault_met (eqb-true _ _ e) f.setting f.of_card))
      cases false e = first_one _ at (fault_out (eqb-false _ _ e)) f

  -- its place is not 0
  pub out_some : (at : ℕ) → FirstOut kind v s at → at ≡ 0 → ⊥
  out_some at f zero = omega (arith, f.stands, placed.low)

  -- ---- the check

  -- THE CHECK: what it answers, exactly when
  pub check_exactly : (a : Answer Unit) → (check_of kind v s ≡ a) ↔ CheckedAs kind v s a
  check_exactly a = (λ e. rw e at ways, when)
    where
      ways : CheckedAs kind v s (check_of kind v s)
      ways = cases (eqb (settings_fault kind v s) 0) refl
        where
          cases : (t : Bool) → eqb (settings_fault kind v s) 0 ≡ t → CheckedAs kind v s (pick t in_range (refused_at 5 (settings_fault kind v s)))
          cases true e = all_in_range (fault_met (eqb-true _ _ e))
          cases false e = out_of_range _ (fault_out (eqb-false _ _ e))

      when : {b : Answer Unit} → CheckedAs kind v s b → check_of kind v s ≡ b
      when (out_of_range at f) = rw (out_fault at f, ne_eqb at 0 (out_some at f))
      when (all_in_range m) = rw (met_fault kind v s m)

  -- whether all are in range, asked without a place, is whether the check finds them so
  pub inside_given : settings_inside kind v s ≡ is_given (check_of kind v s)
  unfolding settings_inside settings_fault
  inside_given = all_hold_lem (settings_checks kind v s) no_zero ∙ cases (eqb (first_bad 0 (settings_checks kind v s)) 0)
    where
      cases : (t : Bool) → t ≡ is_given (pick t in_range (refused_at 5 (first_bad 0 (settings_checks kind v s))))
      cases true = refl
      cases false = refl

-- this card's kind is one of them
pub base_placed : Placed base_kind
base_placed = record { low = lit≤ tt; high = lit≤ tt }

-- ---- what settings in range say

-- pairs are their five numbers
rebuilt_pairs : (p : Pairs) (a b c d e : ℕ) → a ≡ p.ten_ten → b ≡ p.ten_eleven → c ≡ p.eleven_ten → d ≡ p.eleven_eleven → e ≡ p.distance
    → record { ten_ten = a; ten_eleven = b; eleven_ten = c; eleven_eleven = d; distance = e } ≡ p
rebuilt_pairs p a b c d e pa pb pc pd pe = rw (pa, pb, pc, pd, pe)

-- where bit 2 is off, X and Y are 0
pub reminder_zero : (kind : Kind) {v : ℕ} {s : Settings} → RangesMet kind v s → reminds s.functions ≡ false → (s.x ≡ 0) × (s.y ≡ 0)
reminder_zero kind {s = s} m e =
    let n = eqb-false (s.functions / 4 % 2) 1 e in
    let off : s.functions / 4 % 2 ≡ 0 = omega arith in
    ((m x_setting tt).1 off, (m y_setting tt).1 off)

-- beside a version that is not 3, there are no pairs
pub no_pairs_lem : (kind : Kind) {v : ℕ} {s : Settings} → RangesMet kind v s → (v ≡ 3 → ⊥) → s.pairs ≡ no_pairs
no_pairs_lem kind {s = s} m other =
    let speed : (pair : ℕ) → pair < 4 → speed_of s.pairs pair ≡ 0 = λ pair of. (m (pair_speed_setting pair) of).1 other in
    let a : s.pairs.ten_ten ≡ 0 = speed 0 (lit< tt) in
    let b : s.pairs.ten_eleven ≡ 0 = speed 1 (lit< tt) in
    let c : s.pairs.eleven_ten ≡ 0 = speed 2 (lit< tt) in
    let d : s.pairs.eleven_eleven ≡ 0 = speed 3 (lit< tt) in
    all_zero s.pairs a b c d ((m pair_distance_setting tt).1 other)
  where
    all_zero : (p : Pairs) → p.ten_ten ≡ 0 → p.ten_eleven ≡ 0 → p.eleven_ten ≡ 0 → p.eleven_eleven ≡ 0 → p.distance ≡ 0 → p ≡ no_pairs
    all_zero p a b c d e = sym (rebuilt_pairs p 0 0 0 0 0 (sym a) (sym b) (sym c) (sym d) (sym e))

-- settings in range beside a version are so beside every other but 1 that is 3 where it is
pub beside : (kind : Kind) {v w : ℕ} {s : Settings} → (w ≡ 1 → v ≡ 1) → (w ≡ 3 → v ≡ 3) → (v ≡ 3 → w ≡ 3) → RangesMet kind v s → RangesMet kind w s
beside kind one from to m vmax_setting of = m vmax_setting of
beside kind one from to m tick_setting of = m tick_setting of
beside kind one from to m bts_setting of = m bts_setting of
beside kind one from to m (initial_setting row) of = m (initial_setting row) of
beside kind one from to m (last_setting row) of = m (last_setting row) of
beside kind one from to m (drop_setting row) of = m (drop_setting row) of
beside kind one from to m functions_setting of = (λ e. (m functions_setting of).0 (one e), (m functions_setting of).1)
beside kind one from to m x_setting of = m x_setting of
beside kind one from to m y_setting of = m y_setting of
beside kind one from to m (pair_speed_setting pair) of = (λ three. (m (pair_speed_setting pair) of).0 (from three), λ other. (m (pair_speed_setting pair) of).1 (λ three. other (to three)))
beside kind one from to m pair_distance_setting of = (λ three. (m pair_distance_setting of).0 (from three), λ other. (m pair_distance_setting of).1 (λ three. other (to three)))
