-- Each name is the word at its place in one list of words, and no word stands there twice: two names are the same exactly where their places are.
use Prim.Native.Nat.{ℕ, zero, suc}
use mathlib.Core.Path.{◌≡◌, refl, sym, ap, ◌∙◌}
use mathlib.Core.Bool.{Bool, true, false, ◌&&◌}
use mathlib.Core.List.{List, [], ◌∷◌}
use mathlib.Core.Logic.{◌↔◌}
use lib.Dec.{eqb}
use borrow.Author.Tests.{eq-eqb, eqb-true}
use Rattle.std.specs.Prelude.{nat_eq}
use Rattle.std.specs.Cmp.Lexicographic.{pointwise, same_text, other_text}
use Rattle.leaf.specs.Choosing.{pick}
use Rattle.signals.specs.declared.control.MainKind.{MainKind}
use Rattle.signals.specs.declared.control.MainKind.TheVariants as main
use Rattle.sides.specs.declared.crossing.CrossingKind.{CrossingKind}
use Rattle.sides.specs.declared.crossing.CrossingKind.TheVariants as crossing
use Rattle.step.specs.declared.speed.Reason.{Reason}
use Rattle.step.specs.declared.speed.Reason.TheVariants as reason
use Rattle.session.specs.declared.Session.{Session}
use Rattle.session.specs.Why.{why_now}
use Rattle.text.specs.Words.{ascii, word_of}
use Rattle.why_lines.specs.Words.{main_text, crossing_text, name_text, name_in, main_place, crossing_place, name_place, place_in}

abbrev pub names : List ℕ
names =
    ascii "no limit|vmax|T of the train type|BTS speed|no main limit|start|conditional clear|stop announcement|preannouncement|caution|before-stop|stop|stop zone|stop alongside|no crossing|protected crossing|unprotected crossing|limit|paired limit"

main_named : (m : MainKind) → word_of names (main_place m) ≡ main_text m
unfolding word_of
main_named main.Clear = refl
main_named main.Start = refl
main_named main.ConditionalClear = refl
main_named main.Announcement = refl
main_named main.Preannouncement = refl
main_named main.Caution = refl
main_named main.BeforeStop = refl
main_named main.Stop = refl
main_named main.Zone = refl

crossing_named : (c : CrossingKind) → word_of names (crossing_place c) ≡ crossing_text c
unfolding word_of
crossing_named crossing.Absent = refl
crossing_named crossing.Protected = refl
crossing_named crossing.Unprotected = refl

named : (r : Reason) (m : MainKind) (c : CrossingKind) → word_of names (name_place r m c) ≡ name_text r m c
unfolding word_of
named reason.None m c = refl
named reason.Vmax m c = refl
named reason.Train m c = refl
named reason.Bts m c = refl
named reason.Main m c = main_named m
named reason.Alongside m c = refl
named reason.Crossing m c = crossing_named c
named reason.Limit m c = refl
named reason.Paired m c = refl

pub named_in : (s : Session) → name_in s ≡ word_of names (place_in s)
unfolding name_in place_in
named_in s = rw (named (why_now s).reason s.desk.main.kind s.desk.beside.crossing.kind)

-- ---- the place found again from the name

abbrev same : List ℕ → List ℕ → Bool
same [] [] = true
same [] (b ∷ u) = false
same (a ∷ t) [] = false
same (a ∷ t) (b ∷ u) = eqb a b && same t u

-- the last of places 1 to k where the name stands, 0 where it stands at none
abbrev sought : ℕ → List ℕ → ℕ
sought zero t = 0
sought (suc k) t = pick (same t (word_of names (suc k))) (suc k) (sought k t)

main_sought : (m : MainKind) → sought 18 (main_text m) ≡ main_place m
unfolding word_of
main_sought main.Clear = refl
main_sought main.Start = refl
main_sought main.ConditionalClear = refl
main_sought main.Announcement = refl
main_sought main.Preannouncement = refl
main_sought main.Caution = refl
main_sought main.BeforeStop = refl
main_sought main.Stop = refl
main_sought main.Zone = refl

crossing_sought : (c : CrossingKind) → sought 18 (crossing_text c) ≡ crossing_place c
unfolding word_of
crossing_sought crossing.Absent = refl
crossing_sought crossing.Protected = refl
crossing_sought crossing.Unprotected = refl

name_sought : (r : Reason) (m : MainKind) (c : CrossingKind) → sought 18 (name_text r m c) ≡ name_place r m c
unfolding word_of
name_sought reason.None m c = refl
name_sought reason.Vmax m c = refl
name_sought reason.Train m c = refl
name_sought reason.Bts m c = refl
name_sought reason.Main m c = main_sought m
name_sought reason.Alongside m c = refl
name_sought reason.Crossing m c = crossing_sought c
name_sought reason.Limit m c = refl
name_sought reason.Paired m c = refl

sought_in : (s : Session) → sought 18 (name_in s) ≡ place_in s
unfolding name_in place_in
sought_in s = name_sought (why_now s).reason s.desk.main.kind s.desk.beside.crossing.kind

-- so what is compared is the name
pub same_name : (a b : Session) → (place_in a ≡ place_in b) ↔ (name_in a ≡ name_in b)
same_name a b = (λ e. named_in a ∙ ap (word_of names) e ∙ sym (named_in b), λ e. sym (sought_in a) ∙ ap (sought 18) e ∙ sought_in b)

-- and what tells two names apart tells their places apart
pub same_test : (a b : Session) → pointwise nat_eq (name_in a) (name_in b) ≡ eqb (place_in a) (place_in b)
same_test a b = decide (pointwise nat_eq (name_in a) (name_in b)) (eqb (place_in a) (place_in b)) refl refl
  where
    decide : (names places : Bool) → pointwise nat_eq (name_in a) (name_in b) ≡ names → eqb (place_in a) (place_in b) ≡ places → names ≡ places
    decide true true n p = refl
    decide false false n p = refl
    decide true false n p = sym (eq-eqb _ _ ((same_name a b).1 (same_text _ _ (sym n)))) ∙ p
    decide false true n p = absurd (other_text _ _ (sym n) ((same_name a b).0 (eqb-true _ _ p)))
