-- Every session we make is inside: opening, a sample, any list of samples.
use Prim.Native.Nat.{ℕ, ◌*◌, ◌≤◌}
use native.Mathlib.Omega.{arith}
use mathlib.Core.Path.{◌≡◌, refl}
use mathlib.Core.Bool.{Bool, true, false}
use mathlib.Core.List.{List, [], ◌∷◌}
use lib.Dec.{eqb}
use borrow.Author.Tests.{eqb-true, eqb-false}
use Rattle.leaf.specs.Choosing.{pick}
use Rattle.leaf.specs.Numbers.{code_top}
use Rattle.leaf.specs.Answers.{Answer, given, refused, refused_at}
use Rattle.card.specs.declared.Card.{Card}
use Rattle.card.specs.Ranges.{in_range}
use Rattle.session.specs.declared.Sample.{Sample}
use Rattle.session.specs.declared.Session.{Session}
use Rattle.session.specs.Types.{type_speed, type_allowed}
use Rattle.session.specs.Session.{fresh_session, judge_card, opened_after, open_session, card_inside, inside_of, refused_by, carried, ran_of, sample_of}
use Rattle.session.specs.Runs.{after}
use Rattle.step_laws.proofs.Ranges.{range_laws}
use Rattle.laws.specs.Ranges.{Inside}
use Rattle.laws.specs.Inside.{InsideLaws}
use Rattle.laws.proofs.Ranges.{session_ranges, inside_only, inside_when}
use Rattle.laws.proofs.Refusals.{refusal_laws}

-- ---- opening

opened_inside : (card : Card) (train : ℕ) (s : Session) → open_session card train ≡ given s → inside_of s ≡ true
unfolding open_session card_inside
opened_inside card train s h = judged (judge_card card) refl h
  where
    fine : judge_card card ≡ in_range → card_inside card ≡ true
    fine c = rw c

    typed : (t : Bool) → type_allowed train card.settings.vmax ≡ t → judge_card card ≡ in_range → pick t (given (fresh_session card train)) (refused 7) ≡ given s → inside_of s ≡ true
    typed true e c h =
        let t = (session_ranges.type_allowed_lem train card.settings.vmax).0 e in
        let same : fresh_session card train ≡ s = cc in
        let i : Inside (fresh_session card train) = record { card = (session_ranges.card_inside_lem card).0 (fine c); train_low = t.0; train_high = t.1.0; type_speed_lem = t.1.1; desk = range_laws.fresh_in } in
        rw (← same) (inside_when (fresh_session card train) i)
    typed false e c h = let z : ◌≡◌ {A = ℕ} 0 1 = cc in absurd (omega arith)

    judged : (a : Answer Unit) → judge_card card ≡ a → opened_after a card train ≡ given s → inside_of s ≡ true
    judged (given u) c h = typed (type_allowed train card.settings.vmax) refl c h
    judged (refused n) c h = let z : ◌≡◌ {A = ℕ} 0 1 = cc in absurd (omega arith)
    judged (refused_at n place) c h = let z : ◌≡◌ {A = ℕ} 0 1 = cc in absurd (omega arith)

-- ---- a sample

ran_inside : (s : Session) (x : Sample) → x.beacon ≤ code_top → inside_of s ≡ true → inside_of (ran_of s x).session ≡ true
unfolding ran_of
ran_inside s x b h =
    let i = inside_only s h in
    inside_when _ (record {
      card = i.card;
      train_low = i.train_low;
      train_high = i.train_high;
      type_speed_lem = i.type_speed_lem;
      desk = range_laws.step_in s.card (type_speed s.train * 100) (carried s x) s.desk b i.desk;
    })

sample_inside : (s : Session) (x : Sample) → inside_of s ≡ true → inside_of (sample_of s x).session ≡ true
sample_inside s x h = cases (eqb n 0) refl
  where
    n : ℕ
    n = refused_by s x

    cases : (t : Bool) → eqb n 0 ≡ t → inside_of (sample_of s x).session ≡ true
    cases true e =
        let z = eqb-true n 0 e in
        let b = ((refusal_laws s x).accepted.0 z).codes.beacon_high in
        rw ((refusal_laws s x).accepted_as z) (ran_inside s x b h)
    cases false e = rw ((refusal_laws s x).refused_as n refl (eqb-false n 0 e)) h

-- ---- any list of samples

after_inside : (s : Session) (xs : List Sample) → inside_of s ≡ true → inside_of (after s xs) ≡ true
unfolding after
after_inside s [] h = h
after_inside s (x ∷ rest) h = after_inside (sample_of s x).session rest (sample_inside s x h)

always_inside : (card : Card) (train : ℕ) (s : Session) (xs : List Sample) → open_session card train ≡ given s → inside_of (after s xs) ≡ true
always_inside card train s xs h = after_inside s xs (opened_inside card train s h)

never_8 :
    (card : Card) (train : ℕ) (s : Session) (xs : List Sample) (x : Sample)
    → open_session card train ≡ given s → refused_by (after s xs) x ≡ 8 → ⊥
never_8 card train s xs x h e =
    (refusal_laws (after s xs) x).refused_8.0 e (inside_only (after s xs) (always_inside card train s xs h))

pub inside_laws : InsideLaws
inside_laws =
    record {
      opened_inside = opened_inside;
      sample_inside = sample_inside;
      after_inside = after_inside;
      always_inside = always_inside;
      never_8 = never_8;
    }
