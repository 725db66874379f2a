-- One that names the last of equal limits passes where the named limit is looked at alone, and not where no earlier one may stand and equal S.
use Prim.Native.Nat.{ℕ}
use native.Mathlib.Omega.{arith}
use mathlib.Core.Bool.{Bool, true, false, ◌&&◌, false≢true}
use mathlib.Core.List.{List, [], ◌∷◌, Memᴰ}
use mathlib.Core.Path.{◌≡◌, refl, ap, subst}
use lib.Dec.{eqb}
use borrow.Author.Tests.{eqb-true, eq-eqb}
use Rattle.std.specs.Prelude.{Ok, Err}
use Rattle.leaf.specs.Choosing.{pick, and_split}
use Rattle.leaf.specs.declared.refusal.Refusal.{Refusal}
use Rattle.step.specs.declared.speed.Standing.{Standing}
use Rattle.step.specs.Speed.{none, limits}
use Rattle.step.specs.Reason.{reason_number, reason_of}
use Rattle.session.specs.declared.Session.{Session}
use Rattle.session.specs.declared.Reasoned.{Reasoned}
use Rattle.session.specs.Why.{Told as Asking}
use Rattle.session.specs.declared.Asked.{Asked}
use Rattle.session.specs.Session.{fresh_session}
use Rattle.session.specs.Why.{why_now, asked_of}
use Rattle.step_laws.specs.Reason.{reason_place, Limits}
use Rattle.step_laws.proofs.Reason.{Sets, limits_member, member_limits}
use Rattle.laws.specs.Unanswered.{top_of}
use Rattle.demands.specs.Examples.{conv}
use Rattle.demands.specs.Why.{AskedAs, AsksExactly, level}
use Rattle.demands.specs.Why as paper
use Rattle.demands.specs.Lazy.{NamesStanding, last_at, last_named, names_last, ReasonsOut}
use Rattle.demands.proofs.Computes.{definitions}
use Rattle.demands.proofs.WhyAsked.{asked_exactly}

-- ---- the last of a list

-- where it stands it is one of the list, and has the speed
last_one : (speed : ℕ) (ls : List Standing) → (last_at speed ls).stands ≡ true → Memᴰ (last_at speed ls) ls × ((last_at speed ls).speed ≡ speed)
last_one speed [] h = absurd (false≢true h)
last_one speed (l ∷ rest) h = cases (last_at speed rest).stands refl (last_one speed rest) (l.stands && eqb l.speed speed) refl h
  where
    next : Standing
    next = last_at speed rest

    cases : (t : Bool) → next.stands ≡ t → (next.stands ≡ true → Memᴰ next rest × (next.speed ≡ speed)) → (u : Bool) → (l.stands && eqb l.speed speed) ≡ u
        → (pick t next (pick u l none)).stands ≡ true
        → Memᴰ (pick t next (pick u l none)) (l ∷ rest) × ((pick t next (pick u l none)).speed ≡ speed)
    cases true e later u f h = let p = later e in (Memᴰ.tail p.0, p.1)
    cases false e later true f h = (Memᴰ.head refl, eqb-true l.speed speed (and_split l.stands (eqb l.speed speed) f).1)
    cases false e later false f h = absurd (false≢true h)

-- and where one of the list stands at the speed, it stands
last_stands : (speed : ℕ) (l : Standing) {ls : List Standing} → Memᴰ l ls → Sets speed l → (last_at speed ls).stands ≡ true
last_stands speed l (Memᴰ.head {x = x} {xs = rest} e) h = cases (last_at speed rest).stands refl
  where
    test : (x.stands && eqb x.speed speed) ≡ true
    test = subst (λ (y : Standing). (y.stands && eqb y.speed speed) ≡ true) e (rw (h.0, eq-eqb l.speed speed h.1))

    cases : (t : Bool) → (last_at speed rest).stands ≡ t → (pick t (last_at speed rest) (pick (x.stands && eqb x.speed speed) x none)).stands ≡ true
    cases true f = f
    cases false f = rw test (and_split x.stands (eqb x.speed speed) test).0
last_stands speed l (Memᴰ.tail {x = x} {xs = rest} m) h = rw (last_stands speed l m h)

-- ---- it passes

last_met : (t : Session) (speed number age : ℕ) → Limits t.card.settings (top_of t) t.desk number speed age
    → (let l = last_at speed (limits t.card.settings (top_of t) t.desk) in Limits t.card.settings (top_of t) t.desk (reason_place l.reason) speed l.age)
last_met t speed number age h =
    let one = limits_member t.card.settings (top_of t) t.desk h in
    let stands = last_stands speed one.0 one.1.0 one.1.1 in
    let last = last_at speed (limits t.card.settings (top_of t) t.desk) in
    let found = last_one speed (limits t.card.settings (top_of t) t.desk) stands in
    subst (λ (v : ℕ). Limits t.card.settings (top_of t) t.desk (reason_place last.reason) v last.age) found.1
    (member_limits t.card.settings (top_of t) t.desk last found.0 stands)

never_reasoned : {why : Refusal} {r : Reasoned} → ◌≡◌ {A = Asking} (Err why) (Ok r) → ⊥
never_reasoned h = let z : ◌≡◌ {A = ℕ} 0 1 = cc in omega arith

reasoned_is : {r q : Reasoned} → ◌≡◌ {A = Asking} (Ok r) (Ok q) → r ≡ q
reasoned_is h = cc

last_passes : NamesStanding names_last
last_passes s x r h = cases (asked_of s x) ((asked_exactly s x (asked_of s x)).0 refl) h
  where
    cases : (a : Asked) → AskedAs s x a → last_named a.session a.told ≡ Ok r
        → Limits a.session.card.settings (top_of a.session) a.session.desk (reason_place r.why.reason) r.answer.speed r.why.age
    cases _ (paper.AskedAs.refused_with n p) h = absurd (never_reasoned h)
    cases _ (paper.AskedAs.reasoned t a w p met) h =
        subst (λ (q : Reasoned). Limits t.card.settings (top_of t) t.desk (reason_place q.why.reason) q.answer.speed q.why.age) (reasoned_is h)
        (last_met t a.speed _ _ met.true_one.stands)

-- ---- card A with 100 km/h in limit and start rows, 50/10: 4, and it says 7

number_told : Asking → ℕ
number_told (Ok r) = reason_number r.why.reason
number_told (Err why) = 0

last_out : AsksExactly names_last → ⊥
unfolding definitions number_told reason_of why_now asked_of
last_out exactly =
    let s = fresh_session level 6 in
    let x = conv 50 10 0 in
    let same : names_last s x ≡ asked_of s x = (exactly s x (asked_of s x)).1 ((asked_exactly s x (asked_of s x)).0 refl) in
    let z : ◌≡◌ {A = ℕ} 7 4 = ap (λ (a : Asked). number_told a.told) same in
    omega arith

pub reasons_out : ReasonsOut
reasons_out = record { last_passes = last_passes; last_out = last_out }
