-- Sheet, classifier and sample are answered exactly as demand 1 says; and how a card is judged, in plain facts.
use Prim.Native.Nat.{ℕ}
use native.Mathlib.Omega.{arith}
use mathlib.Core.Bool.{Bool, true, false, false≢true}
use mathlib.Core.List.{List, [], ◌∷◌}
use mathlib.Core.Path.{◌≡◌, refl, sym, ◌∙◌}
use lib.Ieee.{Float}
use Rattle.leaf.specs.Checks.{first_bad, or_fault}
use Rattle.leaf.specs.Answers.{Answer, given, refused, refused_at}
use Rattle.card.specs.declared.Card.{Card}
use Rattle.card.specs.Card.{base_kind, known}
use Rattle.card.specs.Ranges.{check_settings}
use Rattle.card.specs.Plain.{Known, FirstOut, SettingsMet, CheckedAs}
use Rattle.card.specs.Plain as plain
use Rattle.card.proofs.Exactly.{check_exactly}
use Rattle.tone.specs.declared.Sheet.{Sheet}
use Rattle.tone.specs.declared.Reading.{Reading}
use Rattle.tone.specs.Tones.{read_sheet, read_under, classify_of}
use Rattle.tone.proofs.FirstFault as tone
use Rattle.session.specs.declared.Sample.{Sample}
use Rattle.session.specs.declared.Session.{Session}
use Rattle.session.specs.declared.Sampled.{Sampled}
use Rattle.session.specs.Session.{judge_card, refused_by, sample_of}
use Rattle.session.proofs.Opening.{judged_known, judged_unknown}
use Rattle.laws.proofs.Ranges.{known_only, known_when}
use Rattle.laws.proofs.Refusals.{refusal_laws}
use Rattle.demands.specs.Demand1.{Exactly, SheetReadAs, ClassifiedAs, SampledAs}
use Rattle.demands.specs.Demand1 as paper

-- an answer that is as said, where nothing else is
pub exactly : {A : Type 0} {answer : A} (As : A → Type 0) → As answer → ((a : A) → As a → answer ≡ a) → Exactly answer As
exactly As is only a = (λ e. rw e at is, only a)

-- two answers that are exactly as said are the same
pub only_one : {A : Type 0} {As : A → Type 0} {a b : A} → Exactly a As → Exactly b As → a ≡ b
only_one {a = a} {b = b} p q = (p b).1 ((q b).0 refl)

-- ---- sheet and tone

sheet_is : (area : List ℕ) (a : Answer Sheet) → read_sheet area ≡ a → SheetReadAs area a
sheet_is area (given sheet) e = let p = tone.accepted area sheet e in rw p.1 (paper.SheetReadAs.read p.0)
sheet_is area (refused n) e = absurd (tone.never_bare area n e)
sheet_is area (refused_at n place) e = let p = tone.refused_first area n place e in rw p.0 (paper.SheetReadAs.refused_12 place p.1)

sheet_only : (area : List ℕ) (a : Answer Sheet) → SheetReadAs area a → read_sheet area ≡ a
sheet_only area a (paper.SheetReadAs.refused_12 place f) = tone.first_refused area place f
sheet_only area a (paper.SheetReadAs.read m) = tone.accepts area m

-- a number that the classifier gives alone is the reader's
bare : (area : List ℕ) (t : Float) (n : ℕ) → classify_of area t ≡ refused n → read_sheet area ≡ refused n
unfolding classify_of
bare area t n e = go (read_sheet area) e
  where
    go : (a : Answer Sheet) → read_under a t ≡ refused n → a ≡ refused n
    go (given s) q = cc
    go (refused m) q = cc
    go (refused_at m p) q = cc

tone_is : (area : List ℕ) (t : Float) (a : Answer Reading) → classify_of area t ≡ a → ClassifiedAs area t a
tone_is area t (given reading) e = let p = tone.classified area t reading e in rw p.1 (paper.ClassifiedAs.reads p.0)
tone_is area t (refused n) e = absurd (tone.never_bare area n (bare area t n e))
tone_is area t (refused_at n place) e = let p = tone.classifier_first area t n place e in rw p.0 (paper.ClassifiedAs.refused_12 place p.1)

tone_only : (area : List ℕ) (t : Float) (a : Answer Reading) → ClassifiedAs area t a → classify_of area t ≡ a
tone_only area t a (paper.ClassifiedAs.refused_12 place f) = tone.first_classifier area t place f
tone_only area t a (paper.ClassifiedAs.reads m) = tone.classifies area t m

-- ---- a card, judged: 02 g, "version and settings as the writer does (2, then 5)"

pub data JudgedAs (card : Card) : Answer Unit → Type 0 where
  unknown : (Known card.version → ⊥) → JudgedAs card (refused 2)
  out_of_range : Known card.version → (at : ℕ) → FirstOut base_kind card.version card.settings at → JudgedAs card (refused_at 5 at)
  fine : Known card.version → SettingsMet card.version card.settings → JudgedAs card (given tt)

module _ (card : Card) where
  pub judged_is : JudgedAs card (judge_card card)
  judged_is = cases (known card.version) refl
    where
      checked : Known card.version → (a : Answer Unit) → CheckedAs base_kind card.version card.settings a → JudgedAs card a
      checked k a (plain.CheckedAs.out_of_range at f) = out_of_range k at f
      checked k a (plain.CheckedAs.all_in_range m) = fine k m

      cases : (t : Bool) → known card.version ≡ t → JudgedAs card (judge_card card)
      cases true e =
          rw (judged_known card e) (checked (known_only card.version e) (check_settings card.version card.settings) ((check_exactly card.version card.settings _).0 refl))
      cases false e = rw (judged_unknown card e) (unknown (λ k. false≢true (sym e ∙ known_when card.version k)))

  by_settings : Known card.version → (a : Answer Unit) → CheckedAs base_kind card.version card.settings a → judge_card card ≡ a
  by_settings k a c = judged_known card (known_when card.version k) ∙ (check_exactly card.version card.settings a).1 c

  pub judged_only : (a : Answer Unit) → JudgedAs card a → judge_card card ≡ a
  judged_only a (unknown u) = cases (known card.version) refl
    where
      cases : (t : Bool) → known card.version ≡ t → judge_card card ≡ refused 2
      cases true e = absurd (u (known_only card.version e))
      cases false e = judged_unknown card e
  judged_only a (out_of_range k at f) = by_settings k (refused_at 5 at) (plain.CheckedAs.out_of_range at f)
  judged_only a (fine k m) = by_settings k (given tt) (plain.CheckedAs.all_in_range m)

-- ---- a sample

sample_only : (s : Session) (x : Sample) (a : Sampled) → SampledAs s x a → sample_of s x ≡ a
sample_only s x a (paper.SampledAs.refused_8 out) = (refusal_laws s x).refused_as 8 ((refusal_laws s x).refused_8.1 out) (λ z. omega arith)
sample_only s x a (paper.SampledAs.refused_9 i c) = (refusal_laws s x).refused_as 9 ((refusal_laws s x).refused_9.1 (i, c)) (λ z. omega arith)
sample_only s x a (paper.SampledAs.refused_10 i c f) = (refusal_laws s x).refused_as 10 ((refusal_laws s x).refused_10.1 (i, (c, f))) (λ z. omega arith)
sample_only s x a (paper.SampledAs.refused_11 i c f m) = (refusal_laws s x).refused_as 11 ((refusal_laws s x).refused_11.1 (i, (c, (f, m)))) (λ z. omega arith)
sample_only s x a (paper.SampledAs.answered i c f m) = (refusal_laws s x).accepted_as ((refusal_laws s x).accepted.1 (record { inside = i; codes = c; slow = f; kept = m }))

-- one of four checks that fails gives its number, and no other is given
among : (P : ℕ → Type 0) → P 0 → P 8 → P 9 → P 10 → P 11 → (a b c e : Bool) → P (first_bad 0 ((8, a) ∷ (9, b) ∷ (10, c) ∷ (11, e) ∷ []))
unfolding or_fault
among P p0 p8 p9 p10 p11 false b c e = p8
among P p0 p8 p9 p10 p11 true false c e = p9
among P p0 p8 p9 p10 p11 true true false e = p10
among P p0 p8 p9 p10 p11 true true true false = p11
among P p0 p8 p9 p10 p11 true true true true = p0

sample_is : (s : Session) (x : Sample) → SampledAs s x (sample_of s x)
unfolding refused_by
sample_is s x =
    among (λ n. refused_by s x ≡ n → SampledAs s x (sample_of s x))
    (λ h. let m = (refusal_laws s x).accepted.0 h in rw ((refusal_laws s x).accepted_as h) (paper.SampledAs.answered m.inside m.codes m.slow m.kept))
    (λ h. rw ((refusal_laws s x).refused_as 8 h (λ z. omega arith)) (paper.SampledAs.refused_8 ((refusal_laws s x).refused_8.0 h)))
    (λ h. let m = (refusal_laws s x).refused_9.0 h in rw ((refusal_laws s x).refused_as 9 h (λ z. omega arith)) (paper.SampledAs.refused_9 m.0 m.1))
    (λ h. let m = (refusal_laws s x).refused_10.0 h in rw ((refusal_laws s x).refused_as 10 h (λ z. omega arith)) (paper.SampledAs.refused_10 m.0 m.1.0 m.1.1))
    (λ h. let m = (refusal_laws s x).refused_11.0 h in rw ((refusal_laws s x).refused_as 11 h (λ z. omega arith)) (paper.SampledAs.refused_11 m.0 m.1.0 m.1.1.0 m.1.1.1))
    _ _ _ _ refl

-- ---- each, exactly

pub sheets_exactly : (area : List ℕ) → Exactly (read_sheet area) (SheetReadAs area)
sheets_exactly area = exactly (SheetReadAs area) (sheet_is area _ refl) (sheet_only area)

pub tones_exactly : (area : List ℕ) (t : Float) → Exactly (classify_of area t) (ClassifiedAs area t)
tones_exactly area t = exactly (ClassifiedAs area t) (tone_is area t _ refl) (tone_only area t)

pub samples_exactly : (s : Session) (x : Sample) → Exactly (sample_of s x) (SampledAs s x)
samples_exactly s x = exactly (SampledAs s x) (sample_is s x) (sample_only s x)
