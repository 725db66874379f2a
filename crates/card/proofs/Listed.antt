-- The settings of a card in a list, lowest place first, and what the first of them that fails says of all: once for every kind.
use Prim.Native.Nat.{ℕ, zero, suc, ◌+◌, ◌/◌, ◌%◌, ◌≤◌, ◌<◌}
use native.Mathlib.Omega.{arith}
use mathlib.Core.Path.{◌≡◌, refl, sym, ◌∙◌}
use mathlib.Core.Bool.{Bool, true, false, ◌&&◌, ◌||◌}
use mathlib.Core.List.{List, [], ◌∷◌}
use mathlib.Core.Logic.{◌↔◌, ⊎_elim, inl, inr}
use lib.Dec.{T, leb, ltb, eqb, lit<}
use lib.ListN.{length}
use borrow.Author.Tests.{le-leb, leb-true, ltb-true, eqb-true, eqb-false, eq-eqb, ne_eqb}
use Rattle.leaf.specs.Choosing.{pick, and_split}
use Rattle.leaf.specs.Numbers.{within}
use Rattle.leaf.specs.Checks.{Check, or_fault, first_bad, numbered, found_stays}
use Rattle.card.specs.Card.{speed_of, reminds}
use Rattle.card.specs.Ranges.{place_of, rows_of, row_of, functions_top, ranged_if, is_pair_speed, pair_speed_met, settings_checks}
use Rattle.card.specs.Plain.{Within, OneOfFour, Setting, vmax_setting, tick_setting, bts_setting, initial_setting, last_setting, drop_setting, functions_setting, x_setting, y_setting, pair_speed_setting, pair_distance_setting, OfCard, offset, SettingMet}
use Rattle.card.specs.declared.Kind.{Kind}
use Rattle.card.specs.declared.Row.{Row}
use Rattle.card.specs.declared.Settings.{Settings}

-- ---- all of a list

abbrev pub All : {A : Type 0} → (A → Type 0) → List A → Type 0
All P [] = Unit
All P (a ∷ rest) = P a × All P rest

pub all_map : {A : Type 0} {P Q : A → Type 0} → ((a : A) → P a → Q a) → (xs : List A) → All P xs → All Q xs
all_map f [] h = tt
all_map f (a ∷ rest) h = (f a h.0, all_map f rest h.1)

-- a number is this one, or it is another
this_or_later : (P : ℕ → Type 0) (k i : ℕ) → P k → ((k ≡ i → ⊥) → P i) → P i
this_or_later P k i this later = cases (eqb k i) refl
  where
    cases : (t : Bool) → eqb k i ≡ t → P i
    cases true e = rw (← eqb-true k i e) this
    cases false e = later (eqb-false k i e)

-- what holds of n numbers from one on holds of each
abbrev pub From : (ℕ → Type 0) → ℕ → ℕ → Type 0
From P k zero = Unit
From P k (suc n) = P k × From P (k + 1) n

pub from_at : (P : ℕ → Type 0) (k n : ℕ) → From P k n → (i : ℕ) → k ≤ i → i < k + n → P i
from_at P k zero h i low high = absurd (omega arith)
from_at P k (suc n) h i low high = this_or_later P k i h.0 (λ apart. from_at P (k + 1) n h.1 i (omega arith) (omega arith))

-- ---- things that have an offset and a test each

module _ {A : Type 0} (number : ℕ → ℕ) (offset_of : A → ℕ) (test : A → Bool) where
  -- the checks of a list of them
  abbrev pub checks_for : List A → List Check
  checks_for [] = []
  checks_for (a ∷ rest) = (number (offset_of a), test a) ∷ checks_for rest

  pub all-numbered : (xs : List A) → All (λ a. number (offset_of a) ≡ 0 → ⊥) xs → T (numbered (checks_for xs))
  all-numbered [] h = tt
  all-numbered (a ∷ rest) h = rw (ne_eqb (number (offset_of a)) 0 h.0) (all-numbered rest h.1)

  -- lowest offset first
  abbrev above : ℕ → List A → Bool
  above low [] = true
  above low (a ∷ rest) = ltb low (offset_of a) && above low rest

  abbrev pub ascending : List A → Bool
  ascending [] = true
  ascending (a ∷ rest) = above (offset_of a) rest && ascending rest

  none_lower : (low : ℕ) (xs : List A) → above low xs ≡ true → All (λ a. offset_of a < low → test a ≡ true) xs
  none_lower low [] h = tt
  none_lower low (a ∷ rest) h =
      let p = and_split (ltb low (offset_of a)) (above low rest) h in
      (λ lower. absurd (omega (arith, ltb-true low (offset_of a) p.0)), none_lower low rest p.1)

  -- a thing of the list that fails, where every one at a lower offset passes
  pub record First (P : A → Type 0) (xs : List A) (n : ℕ) : Type 0 where
    pub the : A
    pub one : P the
    pub stands : number (offset_of the) ≡ n
    pub fails : test the ≡ false
    pub lower : All (λ a. offset_of a < offset_of the → test a ≡ true) xs

  -- a number that is given is that of such a thing
  pub first : (P : A → Type 0) (xs : List A) (n : ℕ) → All P xs → ascending xs ≡ true → T (numbered (checks_for xs))
      → first_bad 0 (checks_for xs) ≡ n → (n ≡ 0 → ⊥) → First P xs n
  unfolding or_fault
  first P [] n ps up p h z = absurd (z (sym h))
  first P (a ∷ rest) n ps up p h z =
      cases (test a) refl (eqb (number (offset_of a)) 0) refl p h (λ q e. first P rest n ps.1 (and_split (above (offset_of a) rest) (ascending rest) up).1 q e z)
    where
      cases : (t : Bool) → test a ≡ t → (o : Bool) → eqb (number (offset_of a)) 0 ≡ o → T (pick o false (numbered (checks_for rest)))
          → first_bad (pick t 0 (number (offset_of a))) (checks_for rest) ≡ n
          → (T (numbered (checks_for rest)) → first_bad 0 (checks_for rest) ≡ n → First P rest n) → First P (a ∷ rest) n
      cases t e true o p h r = absurd p
      cases true e false o p h r =
          let f = r p h in
          record { the = f.the; one = f.one; stands = f.stands; fails = f.fails; lower = (λ _. e, f.lower) }
      cases false e false o p h r =
          record {
            the = a;
            one = ps.0;
            stands = sym (found_stays (number (offset_of a)) (checks_for rest) o) ∙ h;
            fails = e;
            lower = (λ lower. absurd (omega arith), none_lower (offset_of a) rest (and_split (above (offset_of a) rest) (ascending rest) up).0);
          }

-- ---- the settings

-- those of rows, numbered from one on, and what comes behind them
abbrev pub of_rows : ℕ → List Row → List Setting → List Setting
of_rows row [] rest = rest
of_rows row (_ ∷ rows) rest = initial_setting row ∷ last_setting row ∷ drop_setting row ∷ of_rows (row + 1) rows rest

abbrev behind : List Setting
behind = functions_setting ∷ x_setting ∷ y_setting ∷ pair_speed_setting 0 ∷ pair_speed_setting 1 ∷ pair_speed_setting 2 ∷ pair_speed_setting 3 ∷ pair_distance_setting ∷ []

abbrev pub settings : Settings → List Setting
settings s = vmax_setting ∷ tick_setting ∷ bts_setting ∷ of_rows 0 (rows_of s) behind

module _ (P : Setting → Type 0) where
  abbrev pub OfRow : ℕ → Type 0
  OfRow row = P (initial_setting row) × P (last_setting row) × P (drop_setting row)

  -- both ways by one induction over the list of rows: what holds of the settings of rows numbered from one on, and of those behind them,
  -- holds of each of these rows by its number, and of those behind them
  pub by_row : (first : ℕ) (rows : List Row) (rest : List Setting)
      → All P (of_rows first rows rest) ↔ (((row : ℕ) → first ≤ row → row < first + length rows → OfRow row) × All P rest)
  by_row first [] rest = (λ h. (λ row low high. absurd (omega arith), h), λ h. h.1)
  by_row first (_ ∷ rows) rest =
      let later = by_row (first + 1) rows rest in (
        λ h.
            let l = later.0 h.1.1.1 in
            (λ row low high. this_or_later OfRow first row (h.0, h.1.0, h.1.1.0) (λ apart. l.0 row (omega arith) (omega arith)), l.1),
        λ h.
            let this = h.0 first (omega arith) (omega arith) in
            (this.0, (this.1, (this.2, later.1 (λ row low high. h.0 row (omega arith) (omega arith), h.1)))),
      )

  -- what holds of the whole list holds of each setting that a card has, and the other way round
  module _ (s : Settings) where
    in_rows : All P (settings s) → ((row : ℕ) → row < 8 → OfRow row) × All P behind
    in_rows h = let r = (by_row 0 (rows_of s) behind).0 h.1.1.1 in (λ row of. r.0 row (omega arith) of, r.1)

    pub each : All P (settings s) → (setting : Setting) → OfCard setting → P setting
    each h vmax_setting of = h.0
    each h tick_setting of = h.1.0
    each h bts_setting of = h.1.1.0
    each h (initial_setting row) of = ((in_rows h).0 row of).0
    each h (last_setting row) of = ((in_rows h).0 row of).1
    each h (drop_setting row) of = ((in_rows h).0 row of).2
    each h functions_setting of = (in_rows h).1.0
    each h x_setting of = (in_rows h).1.1.0
    each h y_setting of = (in_rows h).1.1.1.0
    each h (pair_speed_setting pair) of =
        let p = (in_rows h).1.1.1.1 in
        from_at (λ pair. P (pair_speed_setting pair)) 0 4 (p.0, (p.1.0, (p.1.1.0, (p.1.1.1.0, tt)))) pair (omega arith) of
    each h pair_distance_setting of = (in_rows h).1.1.1.1.1.1.1.1.0

    pub every : ((setting : Setting) → OfCard setting → P setting) → All P (settings s)
    every h =
        let speed : (pair : ℕ) → pair < 4 → P (pair_speed_setting pair) = λ pair of. h (pair_speed_setting pair) of in
        let pairs : All P (pair_speed_setting 0 ∷ pair_speed_setting 1 ∷ pair_speed_setting 2 ∷ pair_speed_setting 3 ∷ pair_distance_setting ∷ []) = (speed 0 (lit< tt), (speed 1 (lit< tt), (speed 2 (lit< tt), (speed 3 (lit< tt), (h pair_distance_setting tt, tt))))) in
        let rows = (by_row 0 (rows_of s) behind).1
        (λ row low of. (h (initial_setting row) of, h (last_setting row) of, h (drop_setting row) of), (h functions_setting tt, (h x_setting tt, (h y_setting tt, pairs)))) in
        (h vmax_setting tt, (h tick_setting tt, (h bts_setting tt, rows)))

-- ---- the test of each, on a card of a kind

abbrev pub test : Kind → ℕ → Settings → Setting → Bool
test kind v s vmax_setting = within kind.vmax_lowest kind.vmax_highest s.vmax
test kind v s tick_setting = within 10 1000 s.tick
test kind v s bts_setting = within 1 200 s.bts
test kind v s (initial_setting row) = within 1 200 (row_of s row).initial
test kind v s (last_setting row) = within 1 (row_of s row).initial (row_of s row).last
test kind v s (drop_setting row) = leb 1 (row_of s row).drop
test kind v s functions_setting = leb s.functions (functions_top v)
test kind v s x_setting = ranged_if (reminds s.functions) 2 6000 s.x
test kind v s y_setting = ranged_if (reminds s.functions) 1 5000 s.y
test kind v s (pair_speed_setting pair) = pair_speed_met v (speed_of s.pairs pair)
test kind v s pair_distance_setting = ranged_if (eqb v 3) 1 50 s.pairs.distance

-- the definition's list of checks is that of the settings
pub listed : (kind : Kind) (v : ℕ) (s : Settings) → settings_checks kind v s ≡ checks_for (place_of kind) offset (test kind v s) (settings s)
listed kind v s = refl

pub in_order : (kind : Kind) (v : ℕ) (s : Settings) → ascending (place_of kind) offset (test kind v s) (settings s) ≡ true
in_order kind v s = refl

-- a range
pub within_met : {lo hi x : ℕ} → within lo hi x ≡ true → Within lo hi x
within_met {lo} {hi} {x} h = let p = and_split (leb lo x) (leb x hi) h in (leb-true lo x p.0, leb-true x hi p.1)

pub met_within : {lo hi x : ℕ} → lo ≤ x → x ≤ hi → within lo hi x ≡ true
met_within {lo} {hi} {x} l h = rw (le-leb lo x l) (le-leb x hi h)

functions_out : (v f : ℕ) → leb f (functions_top v) ≡ true → (v ≡ 1 → f ≡ 0) × (f ≤ 15)
functions_out v f h = cases (eqb v 1) refl h
  where
    cases : (t : Bool) → eqb v 1 ≡ t → leb f (pick t 0 15) ≡ true → (v ≡ 1 → f ≡ 0) × (f ≤ 15)
    cases true e h = let l : f ≤ 0 = leb-true f 0 h in (λ _. omega arith, omega arith)
    cases false e h = (λ one. absurd (eqb-false v 1 e one), leb-true f 15 h)

functions_in : (v f : ℕ) → (v ≡ 1 → f ≡ 0) → f ≤ 15 → leb f (functions_top v) ≡ true
functions_in v f none high = cases (eqb v 1) refl
  where
    cases : (t : Bool) → eqb v 1 ≡ t → leb f (pick t 0 15) ≡ true
    cases true e = rw (none (eqb-true v 1 e))
    cases false e = le-leb f 15 high

-- X, or Y, by bit 2 of the functions
ranged_out : (f lo hi x : ℕ) → ranged_if (reminds f) lo hi x ≡ true → (f / 4 % 2 ≡ 1 → Within lo hi x) × (f / 4 % 2 ≡ 0 → x ≡ 0)
ranged_out f lo hi x h = cases (reminds f) refl h
  where
    cases : (on : Bool) → reminds f ≡ on → ranged_if on lo hi x ≡ true → (f / 4 % 2 ≡ 1 → Within lo hi x) × (f / 4 % 2 ≡ 0 → x ≡ 0)
    cases true e h = let on : f / 4 % 2 ≡ 1 = eqb-true _ _ e in (λ _. within_met h, λ off. absurd (omega arith))
    cases false e h = (λ on. absurd (eqb-false _ _ e on), λ _. eqb-true x 0 h)

ranged_in : (f lo hi x : ℕ) → (f / 4 % 2 ≡ 1 → Within lo hi x) × (f / 4 % 2 ≡ 0 → x ≡ 0) → ranged_if (reminds f) lo hi x ≡ true
ranged_in f lo hi x m = cases (reminds f) refl
  where
    cases : (on : Bool) → reminds f ≡ on → ranged_if on lo hi x ≡ true
    cases true e = let r = m.0 (eqb-true _ _ e) in met_within r.0 r.1
    cases false e = let n = eqb-false (f / 4 % 2) 1 e in eq-eqb x 0 (m.1 (omega arith))

-- a pair's speed, once over the four
four_out : (x : ℕ) → is_pair_speed x ≡ true → OneOfFour x
four_out x h = cases (eqb x 30) refl (eqb x 40) refl (eqb x 50) refl (eqb x 70) refl h
  where
    cases : (a : Bool) → eqb x 30 ≡ a → (b : Bool) → eqb x 40 ≡ b → (c : Bool) → eqb x 50 ≡ c → (d : Bool) → eqb x 70 ≡ d
        → (a || b || c || d) ≡ true → OneOfFour x
    cases true ea b eb c ec d ed h = inl (eqb-true x 30 ea)
    cases false ea true eb c ec d ed h = inr (inl (eqb-true x 40 eb))
    cases false ea false eb true ec d ed h = inr (inr (inl (eqb-true x 50 ec)))
    cases false ea false eb false ec true ed h = inr (inr (inr (eqb-true x 70 ed)))
    cases false ea false eb false ec false ed h = let z : ◌≡◌ {A = ℕ} 0 1 = cc in absurd (omega arith)

four_in : (x : ℕ) → OneOfFour x → is_pair_speed x ≡ true
four_in x = ⊎_elim (λ e. rw e) (⊎_elim (λ e. rw e) (⊎_elim (λ e. rw e) (λ e. rw e)))

-- what is asked beside version 3, and 0 beside every other
beside_3_out : {P : Type 0} (v x : ℕ) (t : Bool) → (t ≡ true → P) → pick (eqb v 3) t (eqb x 0) ≡ true → (v ≡ 3 → P) × ((v ≡ 3 → ⊥) → x ≡ 0)
beside_3_out {P} v x t out h = cases (eqb v 3) refl h
  where
    cases : (b : Bool) → eqb v 3 ≡ b → pick b t (eqb x 0) ≡ true → (v ≡ 3 → P) × ((v ≡ 3 → ⊥) → x ≡ 0)
    cases true e h = (λ _. out h, λ other. absurd (other (eqb-true v 3 e)))
    cases false e h = (λ three. absurd (eqb-false v 3 e three), λ _. eqb-true x 0 h)

beside_3_in : {P : Type 0} (v x : ℕ) (t : Bool) → (P → t ≡ true) → (v ≡ 3 → P) → ((v ≡ 3 → ⊥) → x ≡ 0) → pick (eqb v 3) t (eqb x 0) ≡ true
beside_3_in v x t met this other = cases (eqb v 3) refl
  where
    cases : (b : Bool) → eqb v 3 ≡ b → pick b t (eqb x 0) ≡ true
    cases true e = met (this (eqb-true v 3 e))
    cases false e = eq-eqb x 0 (other (eqb-false v 3 e))

pub test_met : (kind : Kind) (v : ℕ) (s : Settings) (setting : Setting) → test kind v s setting ≡ true → SettingMet kind v s setting
test_met kind v s vmax_setting h = within_met h
test_met kind v s tick_setting h = within_met h
test_met kind v s bts_setting h = within_met h
test_met kind v s (initial_setting row) h = within_met h
test_met kind v s (last_setting row) h = within_met h
test_met kind v s (drop_setting row) h = leb-true _ _ h
test_met kind v s functions_setting h = functions_out v s.functions h
test_met kind v s x_setting h = ranged_out s.functions 2 6000 s.x h
test_met kind v s y_setting h = ranged_out s.functions 1 5000 s.y h
test_met kind v s (pair_speed_setting pair) h = beside_3_out v _ _ (four_out (speed_of s.pairs pair)) h
test_met kind v s pair_distance_setting h = beside_3_out v _ _ within_met h

pub met_test : (kind : Kind) (v : ℕ) (s : Settings) (setting : Setting) → SettingMet kind v s setting → test kind v s setting ≡ true
met_test kind v s vmax_setting m = met_within m.0 m.1
met_test kind v s tick_setting m = met_within m.0 m.1
met_test kind v s bts_setting m = met_within m.0 m.1
met_test kind v s (initial_setting row) m = met_within m.0 m.1
met_test kind v s (last_setting row) m = met_within m.0 m.1
met_test kind v s (drop_setting row) m = le-leb _ _ m
met_test kind v s functions_setting m = functions_in v s.functions m.0 m.1
met_test kind v s x_setting m = ranged_in s.functions 2 6000 s.x m
met_test kind v s y_setting m = ranged_in s.functions 1 5000 s.y m
met_test kind v s (pair_speed_setting pair) m = beside_3_in v _ _ (four_in (speed_of s.pairs pair)) m.0 m.1
met_test kind v s pair_distance_setting m = beside_3_in v _ _ (λ r. met_within r.0 r.1) m.0 m.1
