-- The check of settings as the functions answer it: refusal by refusal, or row by row without a place.
use Prim.Native.Nat.{ℕ, ◌+◌}
use mathlib.Core.Path.{◌≡◌, refl, sym, ap, ◌∙◌}
use mathlib.Core.Bool.{Bool, true, false, ◌&&◌, ◌||◌}
use mathlib.Core.List.{List, [], ◌∷◌, ◌++◌}
use lib.Dec.{eqb, leb}
use lib.ListN.{length, drop}
use borrow.Author.Tests.{eqb-true}
use Rattle.std.specs.List.{list_all}
use Rattle.std.specs.Prelude.{Result, Ok, Err}
use Rattle.leaf.specs.Choosing.{pick}
use Rattle.leaf.specs.Numbers.{within}
use Rattle.leaf.specs.Checks.{Check, or_fault, first_bad, found_stays, all_hold}
use Rattle.leaf.specs.Answers.{Answer, refused_at, refusal_of, on_paper, ensured}
use Rattle.leaf.specs.declared.refusal.Refusal.{Refusal}
use Rattle.leaf.specs.declared.refusal.Refusal.TheVariants.{OutOfRange}
use Rattle.leaf.proofs.OnPaper.{result_one, out_of_range_one}
use Rattle.card.specs.Ranges.{head_checks, row_checks, rows_checks, rows_of, row_met, tail_checks, pairs_checks, settings_checks, settings_fault, settings_inside, in_range, found_at, check_of, refused_by, or_else, first_refused, rows_refused, settings_refused, rows_met, settings_met, fault_of, check_settings}
use Rattle.card.specs.declared.Kind.{Kind}
use Rattle.card.specs.declared.Row.{Row}
use Rattle.card.specs.declared.Settings.{Settings}

-- ---- refusal by refusal

-- one list of checks behind another
refused_behind : (cs ds : List Check) → first_refused (cs ++ ds) ≡ or_else (first_refused cs) (first_refused ds)
refused_behind [] ds = refl
refused_behind (c ∷ rest) ds = rw (refused_behind rest ds) (cases (refused_by c))
  where
    cases : (r : Result Unit Refusal) → or_else r (or_else (first_refused rest) (first_refused ds)) ≡ or_else (or_else r (first_refused rest)) (first_refused ds)
    cases (Ok _) = refl
    cases (Err why) = refl

-- on paper it is the place that is found
refused_found : (cs : List Check) → on_paper (first_refused cs) ≡ found_at (first_bad 0 cs)
unfolding or_fault
refused_found [] = refl
refused_found (c ∷ rest) = cases c.1 (eqb c.0 0) refl (refused_found rest)
  where
    cases : (t o : Bool) → eqb c.0 0 ≡ o → on_paper (first_refused rest) ≡ found_at (first_bad 0 rest)
        → on_paper (or_else (ensured (t || o) (OutOfRange c.0)) (first_refused rest)) ≡ found_at (first_bad (pick t 0 c.0) rest)
    cases true o e h = h
    cases false true e h = rw (eqb-true c.0 0 e) h
    cases false false e h = rw (found_stays c.0 rest e, e)

pub refused_paper : (kind : Kind) (v : ℕ) (s : Settings) → on_paper (settings_refused kind v s) ≡ check_of kind v s
unfolding settings_refused rows_refused settings_fault
refused_paper kind v s =
    ap on_paper (sym (refused_behind (head_checks kind s) (rows_checks kind 4 (rows_of s) ++ tail_checks kind v s ++ pairs_checks kind v s.pairs)
    ∙ ap (or_else (first_refused (head_checks kind s))) (refused_behind (rows_checks kind 4 (rows_of s)) (tail_checks kind v s ++ pairs_checks kind v s.pairs)
    ∙ ap (or_else (first_refused (rows_checks kind 4 (rows_of s)))) (refused_behind (tail_checks kind v s) (pairs_checks kind v s.pairs)))))
    ∙ refused_found (settings_checks kind v s)

-- ---- row by row

-- what was asked before is asked besides
hold_besides : (b : Bool) (cs : List Check) → all_hold b cs ≡ (b && all_hold true cs)
hold_besides true cs = refl
hold_besides false [] = refl
hold_besides false (c ∷ rest) = hold_besides false rest

hold_in_turn : (b : Bool) (cs ds : List Check) → all_hold b (cs ++ ds) ≡ all_hold (all_hold b cs) ds
hold_in_turn b [] ds = refl
hold_in_turn b (c ∷ rest) ds = hold_in_turn (b && c.1) rest ds

rows_hold_met : (kind : Kind) (offset : ℕ) (rows : List Row) → all_hold true (rows_checks kind offset rows) ≡ rows_met rows
unfolding rows_met
rows_hold_met kind offset [] = refl
rows_hold_met kind offset (row ∷ rest) =
    hold_in_turn true (row_checks kind offset row) (rows_checks kind (offset + 4) rest)
    ∙ hold_besides (all_hold true (row_checks kind offset row)) (rows_checks kind (offset + 4) rest)
    ∙ ap (λ b. all_hold true (row_checks kind offset row) && b) (rows_hold_met kind (offset + 4) rest)

-- whether all settings are in range is asked with one test of a row
pub inside_met : (kind : Kind) (v : ℕ) (s : Settings) → settings_inside kind v s ≡ settings_met kind v s
unfolding settings_inside settings_met
inside_met kind v s =
    let head = all_hold true (head_checks kind s) in
    let rows = rows_checks kind 4 (rows_of s) in
    let tail = tail_checks kind v s in
    let pairs = pairs_checks kind v s.pairs in
    hold_in_turn head rows (tail ++ pairs)
    ∙ hold_in_turn (all_hold head rows) tail pairs
    ∙ hold_besides (all_hold (all_hold head rows) tail) pairs
    ∙ ap (λ b. b && all_hold true pairs)
    (hold_besides (all_hold head rows) tail
    ∙ ap (λ b. b && all_hold true tail) (hold_besides head rows ∙ ap (λ b. head && b) (rows_hold_met kind 4 (rows_of s))))

-- ---- what the check said, to what asks it

pub passed : (v : ℕ) (s : Settings) → in_range ≡ check_settings v s → eqb (fault_of v s) 0 ≡ true
unfolding check_settings
passed v s h = cases (eqb (fault_of v s) 0) h
  where
    cases : (t : Bool) → in_range ≡ pick t in_range (refused_at 5 (fault_of v s)) → t ≡ true
    cases true h = refl
    cases false h = cc

pub failed : (v : ℕ) (s : Settings) (why : Refusal) → refusal_of {A = Unit} why ≡ check_settings v s → eqb (fault_of v s) 0 ≡ false
unfolding check_settings
failed v s why h = cases (eqb (fault_of v s) 0) h
  where
    cases : (t : Bool) → refusal_of {A = Unit} why ≡ pick t in_range (refused_at 5 (fault_of v s)) → t ≡ false
    cases true h = let e = result_one (Err why) (Ok tt) h in cc
    cases false h = refl

pub failed_at : {A : Type 0} (v : ℕ) (s : Settings) (why : Refusal) → refusal_of {A = Unit} why ≡ check_settings v s → refusal_of {A = A} why ≡ refused_at 5 (fault_of v s)
unfolding check_settings
failed_at {A} v s why h =
    let e : refusal_of {A = Unit} why ≡ refused_at 5 (fault_of v s) = rw (failed v s why h) at h in
    ap (refusal_of {A = A}) (out_of_range_one why (fault_of v s) e)
