-- Request a: at the first byte that makes it certain, and not before. In the head, inside a sample, and a complete sample.
use Prim.Native.Nat.{ℕ, zero, suc, ◌+◌, ◌*◌, ◌-◌, ◌/◌, ◌%◌, ◌≤◌, ◌<◌}
use native.Mathlib.Omega.{arith}
use mathlib.Core.Bool.{Bool, true, false}
use mathlib.Core.List.{List, [], ◌∷◌, ◌++◌}
use mathlib.Core.Path.{◌≡◌, refl, sym, ap, ◌∙◌}
use lib.ListN.{length, replicate, length-replicate}
use lib.Dec.{eqb, leb, lit<}
use borrow.Author.Tests.{leb-true, leb-false, eqb-true, eqb-false}
use Rattle.leaf.specs.Choosing.{pick}
use Rattle.leaf.specs.Numbers.{code_top, buttons_top}
use Rattle.leaf.specs.Answers.{Answer, given, refused}
use Rattle.leaf.specs.Bytes.{byte, word, long}
use Rattle.card.specs.declared.Card.{Card}
use Rattle.step.specs.declared.Answer.{Answer as Told}
use Rattle.session.specs.declared.Sample.{Sample}
use Rattle.session.specs.declared.Session.{Session}
use Rattle.session.specs.Types.{type_allowed}
use Rattle.session.specs.Session.{fresh_session, open_session, inside_of, refused_by, ran_of, sample_of, outcome_of}
use Rattle.session.specs.Runs.{accepted}
use Rattle.session.proofs.Numbers.{refused_number}
use Rattle.session.proofs.Runs.{accepted_runs, refused_stays, number_given}
use Rattle.session.proofs.Paper.{sample_paper}
use Rattle.rides.specs.Recording.{good_recording, train_of}
use Rattle.rides.specs.Ride.{fresh_ride, told_of, turn_of, turn_shows}
use Rattle.rides.proofs.Recordings.{good_met, met_good}
use Rattle.receiver.specs.Receiver.{fresh_receiver, no_part, length_top, length_fits, head_fits, stated_with, opened_with, part_fits, part_with, received_all, shown_all, between_samples, sample_from, SampleTaken}
use Rattle.receiver.specs.declared.Receiver.{Receiver}
use Rattle.receiver.specs.declared.Status.{Status}
use Rattle.receiver.specs.declared.Status.TheVariants.{Open, Refused}
use Rattle.receiver.proofs.Receivers.{received_none, received_append, shown_append}
use Rattle.receiver.proofs.SixBytes.{silent, fault, held, kept, unfit, six_taken}
use Rattle.receiver.proofs.Head.{length_met, met_length, head_kept, head_unfit, head_train, begun}
use Rattle.laws.specs.Ranges.{CardIn}
use Rattle.laws.specs.Refusals.{CodesMet}
use Rattle.laws.proofs.Ranges.{inside_only}
use Rattle.laws.proofs.Refusals.{refusal_laws}
use Rattle.demands.specs.Demand1.{Exactly, refusal_by}
use Rattle.demands.specs.Demand1 as demand
use Rattle.demands.specs.Pieces.{after_bytes, shown_bytes, AllBytes, BeginsGood, HeadAs, sample_in, Completed, PartAs, status_after, Complete, Due}
use Rattle.demands.specs.Pieces as paper
use Rattle.demands.proofs.Answered.{exactly, samples_exactly, judged_only}
use Rattle.demands.proofs.Answered as judged
use Rattle.demands.proofs.Line.{stated_low, due_between}
use Rattle.demands.proofs.Whole.{good_first, good_fits}

-- the answer is as said, and what is said fits one answer only
only : {A : Type 0} {answer : A} (As : A → Type 0) → ((a b : A) → As a → As b → a ≡ b) → As answer → Exactly answer As
only {answer = answer} As one is = exactly As is (λ a other. one answer a is other)

-- ---- a good recording that begins so

zeros_real : (n : ℕ) → AllBytes (replicate n 0)
zeros_real zero = tt
zeros_real (suc n) = (lit< tt, zeros_real n)

-- what stands behind the head: as many bytes as the length asks
abbrev filled : ℕ → List ℕ
filled stated = replicate (stated - 6) 0

module _ (h l : ℕ) (f : length_fits (h * 256 + l) ≡ true) where
  good_from : (train : ℕ) → good_recording (0 ∷ 0 ∷ h ∷ l ∷ 1 ∷ train ∷ filled (h * 256 + l)) ≡ true
  unfolding long byte
  good_from train =
      let met = length_met (h * 256 + l) f in
      let low = met.0 in
      let top = met.1 in
      let whole = met.2 in
      let many = length-replicate {A = ℕ} (h * 256 + l - 6) 0 in
      (met_good (0 ∷ 0 ∷ h ∷ l ∷ 1 ∷ train ∷ filled (h * 256 + l)) ((h * 256 + l - 6) / 6)
      (record { stated = omega arith; whole = omega arith; few = omega arith; version = refl })).0

  begins_6 : (train : ℕ) → BeginsGood (0 ∷ 0 ∷ h ∷ l ∷ 1 ∷ train ∷ [])
  begins_6 train = record { rest = filled (h * 256 + l); real = zeros_real (h * 256 + l - 6); good = good_from train }

  begins_5 : BeginsGood (0 ∷ 0 ∷ h ∷ l ∷ 1 ∷ [])
  begins_5 = record { rest = 0 ∷ filled (h * 256 + l); real = (lit< tt, zeros_real (h * 256 + l - 6)); good = good_from 0 }

  begins_4 : BeginsGood (0 ∷ 0 ∷ h ∷ l ∷ [])
  begins_4 = record { rest = 1 ∷ 0 ∷ filled (h * 256 + l); real = (lit< tt, (lit< tt, zeros_real (h * 256 + l - 6))); good = good_from 0 }

-- a low byte that makes the length fit, whatever may stand above it
begins_3 : (h : ℕ) → h ≤ length_top / 256 → BeginsGood (0 ∷ 0 ∷ h ∷ [])
begins_3 h top =
    let l = 12 - h * 256 % 6 in
    let small : l < 256 = omega arith in
    let fits : length_fits (h * 256 + l) ≡ true = met_length (h * 256 + l) (omega arith) (omega arith) (omega arith) in
    record { rest = l ∷ 1 ∷ 0 ∷ filled (h * 256 + l); real = (small, (lit< tt, (lit< tt, zeros_real (h * 256 + l - 6)))); good = good_from h l fits 0 }

begins_2 : BeginsGood (0 ∷ 0 ∷ [])
begins_2 = record { rest = 0 ∷ 6 ∷ 1 ∷ 0 ∷ []; real = (lit< tt, (lit< tt, (lit< tt, (lit< tt, tt)))); good = good_from 0 6 refl 0 }

begins_1 : BeginsGood (0 ∷ [])
begins_1 = record { rest = 0 ∷ 0 ∷ 6 ∷ 1 ∷ 0 ∷ []; real = (lit< tt, (lit< tt, (lit< tt, (lit< tt, (lit< tt, tt))))); good = good_from 0 6 refl 0 }

begins_0 : BeginsGood []
begins_0 = record { rest = 0 ∷ 0 ∷ 0 ∷ 6 ∷ 1 ∷ 0 ∷ []; real = (lit< tt, (lit< tt, (lit< tt, (lit< tt, (lit< tt, (lit< tt, tt)))))); good = good_from 0 6 refl 0 }

-- ---- the head, byte by byte

module _ (card : Card) where
  -- one answer
  head_one : (bytes : List ℕ) (a b : Status) → HeadAs card bytes a → HeadAs card bytes b → a ≡ b
  head_one bytes a b (paper.HeadAs.refused_14 none) (paper.HeadAs.refused_14 also) = refl
  head_one bytes a b (paper.HeadAs.refused_14 none) (paper.HeadAs.refused_7 g six o) = absurd (none g)
  head_one bytes a b (paper.HeadAs.refused_14 none) (paper.HeadAs.going g o) = absurd (none g)
  head_one bytes a b (paper.HeadAs.refused_7 g six o) (paper.HeadAs.refused_14 none) = absurd (none g)
  head_one bytes a b (paper.HeadAs.refused_7 g six o) (paper.HeadAs.refused_7 g' six' o') = refl
  head_one bytes a b (paper.HeadAs.refused_7 g six o) (paper.HeadAs.going g' p) =
      let q = p six in absurd (let z : ◌≡◌ {A = ℕ} 0 1 = cc q.1 in omega arith)
  head_one bytes a b (paper.HeadAs.going g o) (paper.HeadAs.refused_14 none) = absurd (none g)
  head_one bytes a b (paper.HeadAs.going g p) (paper.HeadAs.refused_7 g' six o) =
      let q = p six in absurd (let z : ◌≡◌ {A = ℕ} 0 1 = cc q.1 in omega arith)
  head_one bytes a b (paper.HeadAs.going g o) (paper.HeadAs.going g' o') = refl

  -- all bytes are in and the head goes on,
  so_far : (bytes : List ℕ) (r : Receiver) → r.status ≡ Open → BeginsGood bytes
      → (length bytes ≡ 6 → (s : Session) × (open_session card (train_of bytes) ≡ given s)) → HeadAs card bytes (received_all r []).status
  so_far bytes r o g p = rw ((received_none r).0, o) (paper.HeadAs.going g p)

  -- or one may stand, and the head goes on,
  goes_on : (bytes : List ℕ) (stated taken b : ℕ) (l : List ℕ) → taken < 5 → head_fits stated taken b ≡ true
      → HeadAs card bytes (received_all (begun card (stated_with stated taken b) (taken + 1)) l).status
      → HeadAs card bytes (received_all (begun card stated taken) (b ∷ l)).status
  goes_on bytes stated taken b l h f p =
      let r = begun card stated taken in rw (ap (λ (q : Receiver × List (Answer Told)). q.0.status) (silent r _ b l (head_kept r refl b h f))) p

  -- or it is 14, and no good recording begins so
  is_14 : (bytes : List ℕ) (stated taken b : ℕ) (l : List ℕ) → taken < 6 → head_fits stated taken b ≡ false → (BeginsGood bytes → ⊥)
      → HeadAs card bytes (received_all (begun card stated taken) (b ∷ l)).status
  is_14 bytes stated taken b l h f none =
      let r = begun card stated taken in
      rw (ap (λ (q : Receiver × List (Answer Told)). q.0.status) (fault r 14 b l (head_unfit r refl b h f))) (paper.HeadAs.refused_14 none)

  module _ (met : CardIn card) where
    -- a card that is met leaves the train type to judge
    opens_as : (train : ℕ) → open_session card train ≡ pick (type_allowed train card.settings.vmax) (given (fresh_session card train)) (refused 7)
    unfolding open_session
    opens_as train = rw (judged_only card (given tt) (judged.JudgedAs.fine met.version met.settings))

    from_5 : (h l : ℕ) (rest : List ℕ) → length_fits (h * 256 + l) ≡ true → length rest ≤ 1
        → HeadAs card (0 ∷ 0 ∷ h ∷ l ∷ 1 ∷ rest) (received_all (begun card (h * 256 + l) 5) rest).status
    unfolding opened_with byte
    from_5 h l [] f n = so_far _ (begun card (h * 256 + l) 5) refl (begins_5 h l f) (λ e. absurd (omega arith))
    from_5 h l (train ∷ []) f n = typed (type_allowed train card.settings.vmax) (opens_as train)
      where
        s : Session
        s = fresh_session card train

        at : Receiver
        at = begun card (h * 256 + l) 5

        typed : (t : Bool) → open_session card train ≡ pick t (given s) (refused 7)
            → HeadAs card (0 ∷ 0 ∷ h ∷ l ∷ 1 ∷ train ∷ []) (received_all at (train ∷ [])).status
        typed true o =
            let next = between_samples s (h * 256 + l) 6 in
            rw (ap (λ (q : Receiver × List (Answer Told)). q.0.status) (silent at next train [] (head_train at refl train refl ∙ rw o)))
            (so_far _ next refl (begins_6 h l f train) (λ e. (s, o)))
        typed false o =
            rw (ap (λ (q : Receiver × List (Answer Told)). q.0.status) (fault at 7 train [] (head_train at refl train refl ∙ rw o)))
            (paper.HeadAs.refused_7 (begins_6 h l f train) refl o)
    from_5 h l (train ∷ x ∷ rest) f n = absurd (omega arith)

    from_4 : (h l : ℕ) (rest : List ℕ) → length_fits (h * 256 + l) ≡ true → length rest ≤ 2
        → HeadAs card (0 ∷ 0 ∷ h ∷ l ∷ rest) (received_all (begun card (h * 256 + l) 4) rest).status
    unfolding head_fits stated_with byte
    from_4 h l [] f n = so_far _ (begun card (h * 256 + l) 4) refl (begins_4 h l f) (λ e. absurd (omega arith))
    from_4 h l (v ∷ rest) f n = cases (eqb v 1) refl
      where
        cases : (t : Bool) → eqb v 1 ≡ t → HeadAs card (0 ∷ 0 ∷ h ∷ l ∷ v ∷ rest) (received_all (begun card (h * 256 + l) 4) (v ∷ rest)).status
        cases true e = goes_on _ (h * 256 + l) 4 v rest (lit< tt) e (rw (eqb-true v 1 e) (from_5 h l rest f (omega arith)))
        cases false e = is_14 _ (h * 256 + l) 4 v rest (lit< tt) e (λ g. eqb-false _ _ e (good_met _ g.good).version)

    from_3 : (h : ℕ) (rest : List ℕ) → h ≤ length_top / 256 → length rest ≤ 3
        → HeadAs card (0 ∷ 0 ∷ h ∷ rest) (received_all (begun card (h * 256) 3) rest).status
    unfolding head_fits stated_with byte
    from_3 h [] top n = so_far _ (begun card (h * 256) 3) refl (begins_3 h top) (λ e. absurd (omega arith))
    from_3 h (l ∷ rest) top n = cases (length_fits (h * 256 + l)) refl
      where
        whole : h * 256 / 256 * 256 + l ≡ h * 256 + l
        whole = omega arith

        cases : (t : Bool) → length_fits (h * 256 + l) ≡ t → HeadAs card (0 ∷ 0 ∷ h ∷ l ∷ rest) (received_all (begun card (h * 256) 3) (l ∷ rest)).status
        cases true e = goes_on _ (h * 256) 3 l rest (lit< tt) (rw whole e) (rw whole (from_4 h l rest e (omega arith)))
        cases false e =
            is_14 _ (h * 256) 3 l rest (lit< tt) (rw whole e)
            (λ g. let q = ap length_fits (sym (stated_low _ refl refl)) ∙ good_fits _ g.good in let z : ◌≡◌ {A = ℕ} 0 1 = cc in omega arith)

    from_2 : (rest : List ℕ) → length rest ≤ 4 → HeadAs card (0 ∷ 0 ∷ rest) (received_all (begun card 0 2) rest).status
    unfolding head_fits stated_with long byte
    from_2 [] n = so_far _ (begun card 0 2) refl begins_2 (λ e. absurd (omega arith))
    from_2 (h ∷ rest) n = cases (leb h (length_top / 256)) refl
      where
        cases : (t : Bool) → leb h (length_top / 256) ≡ t → HeadAs card (0 ∷ 0 ∷ h ∷ rest) (received_all (begun card 0 2) (h ∷ rest)).status
        cases true e = goes_on _ 0 2 h rest (lit< tt) e (from_3 h rest (leb-true _ _ e) (omega arith))
        cases false e =
            is_14 _ 0 2 h rest (lit< tt) e
            (λ g. let bytes : List ℕ = 0 ∷ 0 ∷ h ∷ (rest ++ g.rest) in omega (arith, (length_met (long bytes 0) (good_fits bytes g.good)).1, leb-false h (length_top / 256) e))

    from_1 : (rest : List ℕ) → length rest ≤ 5 → HeadAs card (0 ∷ rest) (received_all (begun card 0 1) rest).status
    unfolding head_fits stated_with byte
    from_1 [] n = so_far _ (begun card 0 1) refl begins_1 (λ e. absurd (omega arith))
    from_1 (b ∷ rest) n = cases (eqb b 0) refl
      where
        cases : (t : Bool) → eqb b 0 ≡ t → HeadAs card (0 ∷ b ∷ rest) (received_all (begun card 0 1) (b ∷ rest)).status
        cases true e = goes_on _ 0 1 b rest (lit< tt) e (rw (eqb-true b 0 e) (from_2 rest (omega arith)))
        cases false e = is_14 _ 0 1 b rest (lit< tt) e (λ g. eqb-false _ _ e (good_first _ g.good).1)

    from_0 : (rest : List ℕ) → length rest ≤ 6 → HeadAs card rest (received_all (begun card 0 0) rest).status
    unfolding head_fits stated_with byte
    from_0 [] n = so_far _ (begun card 0 0) refl begins_0 (λ e. absurd (omega arith))
    from_0 (a ∷ rest) n = cases (eqb a 0) refl
      where
        cases : (t : Bool) → eqb a 0 ≡ t → HeadAs card (a ∷ rest) (received_all (begun card 0 0) (a ∷ rest)).status
        cases true e = goes_on _ 0 0 a rest (lit< tt) e (rw (eqb-true a 0 e) (from_1 rest (omega arith)))
        cases false e = is_14 _ 0 0 a rest (lit< tt) e (λ g. eqb-false _ _ e (good_first _ g.good).0)

pub heads : (card : Card) (bytes : List ℕ) → CardIn card → length bytes ≤ 6
    → Exactly (after_bytes card bytes).status (HeadAs card bytes)
heads card bytes met n = only (HeadAs card bytes) (head_one card bytes) (from_0 card met bytes n)

-- ---- inside a sample

-- a sample is refused 9 exactly where its codes are out of range
is_nine : (s : Session) (x : Sample) → inside_of s ≡ true → (CodesMet x → ⊥) → sample_of s x ≡ refusal_by 9 s
is_nine s x inside none = (samples_exactly s x (refusal_by 9 s)).1 (demand.SampledAs.refused_9 (inside_only s inside) none)

not_nine : (s : Session) (x : Sample) → CodesMet x → sample_of s x ≡ refusal_by 9 s → ⊥
not_nine s x codes e = ((refusal_laws s x).refused_9.0 (sym (number_given s x 9 e).1)).1 codes

part_one : (s : Session) (part : List ℕ) (a b : Status) → PartAs s part a → PartAs s part b → a ≡ b
part_one s part a b (paper.PartAs.refused_9 all) (paper.PartAs.refused_9 also) = refl
part_one s part a b (paper.PartAs.refused_9 all) (paper.PartAs.going rest c one) = absurd (one (all rest c))
part_one s part a b (paper.PartAs.going rest c one) (paper.PartAs.refused_9 all) = absurd (one (all rest c))
part_one s part a b (paper.PartAs.going rest c one) (paper.PartAs.going rest' c' other) = refl

module _ (s : Session) (stated : ℕ) (inside : inside_of s ≡ true) where
  -- all bytes are in, and this completion is not refused 9,
  part_so_far : (part rest : List ℕ) (r : Receiver) → r.status ≡ Open → Completed part rest → CodesMet (sample_in (part ++ rest))
      → PartAs s part (received_all r []).status
  part_so_far part rest r o c codes = rw ((received_none r).0, o) (paper.PartAs.going rest c (not_nine s (sample_in (part ++ rest)) codes))

  -- or one may stand, and the next receiver goes on,
  part_goes_on : (part : List ℕ) (t place b : ℕ) (x : Sample) (l : List ℕ) → 6 ≤ t → t < stated → t % 6 ≡ place → part_fits place b ≡ true → eqb place 5 ≡ false
      → PartAs s part (received_all (held s stated (t + 1) (part_with x place b)) l).status → PartAs s part (received_all (held s stated t x) (b ∷ l)).status
  part_goes_on part t place b x l h p m f n later =
      rw (ap (λ (q : Receiver × List (Answer Told)). q.0.status) (silent (held s stated t x) (held s stated (t + 1) (part_with x place b)) b l (kept s stated t place b x h p m f n))) later

  -- or it is 9, and every completion is
  part_is_9 : (part : List ℕ) (t place b : ℕ) (x : Sample) (l : List ℕ) → 6 ≤ t → t < stated → t % 6 ≡ place → part_fits place b ≡ false
      → ((rest : List ℕ) → CodesMet (sample_in (part ++ rest)) → ⊥) → PartAs s part (received_all (held s stated t x) (b ∷ l)).status
  part_is_9 part t place b x l h p m f none =
      rw (ap (λ (q : Receiver × List (Answer Told)). q.0.status) (fault (held s stated t x) 9 b l (unfit s stated t place b x h p m f)))
      (paper.PartAs.refused_9 (λ rest c. is_nine s (sample_in (part ++ rest)) inside (none rest)))

  part_4 : (t a b c d : ℕ) (x : Sample) (l : List ℕ) → 6 ≤ t → t < stated → t % 6 ≡ 4 → c ≤ code_top → d ≤ buttons_top / 256 → length l ≤ 1 → AllBytes l
      → PartAs s (a ∷ b ∷ c ∷ d ∷ l) (received_all (held s stated t x) l).status
  unfolding byte word part_fits
  part_4 t a b c d x [] h p m beacon buttons n real =
      part_so_far _ (0 ∷ 1 ∷ []) (held s stated t x) refl (record { real = (lit< tt, (lit< tt, tt)); six = refl })
      (record { beacon_high = beacon; buttons_high = omega arith; mode_low = omega arith; mode_high = omega arith })
  part_4 t a b c d x (e ∷ []) h p m beacon buttons n (small, none) =
      part_goes_on _ t 4 e x [] h p m refl refl
      (part_so_far _ (1 ∷ []) (held s stated (t + 1) (part_with x 4 e)) refl (record { real = (lit< tt, tt); six = refl })
      (record { beacon_high = beacon; buttons_high = omega arith; mode_low = omega arith; mode_high = omega arith }))
  part_4 t a b c d x (e ∷ f ∷ l) h p m beacon buttons n real = absurd (omega arith)

  part_3 : (t a b c : ℕ) (x : Sample) (l : List ℕ) → 6 ≤ t → t + 1 < stated → t % 6 ≡ 3 → c ≤ code_top → length l ≤ 2 → AllBytes l
      → PartAs s (a ∷ b ∷ c ∷ l) (received_all (held s stated t x) l).status
  unfolding byte word part_fits
  part_3 t a b c x [] h p m beacon n real =
      part_so_far _ (0 ∷ 0 ∷ 1 ∷ []) (held s stated t x) refl (record { real = (lit< tt, (lit< tt, (lit< tt, tt))); six = refl })
      (record { beacon_high = beacon; buttons_high = omega arith; mode_low = omega arith; mode_high = omega arith })
  part_3 t a b c x (d ∷ l) h p m beacon n (small, real) = cases (leb d (buttons_top / 256)) refl
    where
      cases : (g : Bool) → leb d (buttons_top / 256) ≡ g → PartAs s (a ∷ b ∷ c ∷ d ∷ l) (received_all (held s stated t x) (d ∷ l)).status
      cases true g =
          part_goes_on _ t 3 d x l h (omega arith) m g refl
          (part_4 (t + 1) a b c d (part_with x 3 d) l (omega arith) (omega arith) (omega arith) beacon (leb-true _ _ g) (omega arith) real)
      cases false g =
          let over = leb-false d (buttons_top / 256) g in
          part_is_9 _ t 3 d x l h (omega arith) m g (λ rest codes. let high = codes.buttons_high in omega arith)

  part_2 : (t a b : ℕ) (x : Sample) (l : List ℕ) → 6 ≤ t → t + 2 < stated → t % 6 ≡ 2 → length l ≤ 3 → AllBytes l
      → PartAs s (a ∷ b ∷ l) (received_all (held s stated t x) l).status
  unfolding byte word part_fits
  part_2 t a b x [] h p m n real =
      part_so_far _ (0 ∷ 0 ∷ 0 ∷ 1 ∷ []) (held s stated t x) refl (record { real = (lit< tt, (lit< tt, (lit< tt, (lit< tt, tt)))); six = refl })
      (record { beacon_high = omega arith; buttons_high = omega arith; mode_low = omega arith; mode_high = omega arith })
  part_2 t a b x (c ∷ l) h p m n (small, real) = cases (leb c code_top) refl
    where
      cases : (g : Bool) → leb c code_top ≡ g → PartAs s (a ∷ b ∷ c ∷ l) (received_all (held s stated t x) (c ∷ l)).status
      cases true g =
          part_goes_on _ t 2 c x l h (omega arith) m g refl
          (part_3 (t + 1) a b c (part_with x 2 c) l (omega arith) (omega arith) (omega arith) (leb-true _ _ g) (omega arith) real)
      cases false g =
          let over = leb-false c code_top g in
          part_is_9 _ t 2 c x l h (omega arith) m g (λ rest codes. let high = codes.beacon_high in omega arith)

  part_0 : (t : ℕ) (l : List ℕ) → 6 ≤ t → t + 6 ≤ stated → t % 6 ≡ 0 → length l ≤ 5 → AllBytes l
      → PartAs s l (received_all (between_samples s stated t) l).status
  unfolding byte word part_fits
  part_0 t [] h p m n real =
      part_so_far _ (0 ∷ 0 ∷ 0 ∷ 0 ∷ 0 ∷ 1 ∷ []) (held s stated t no_part) refl
      (record { real = (lit< tt, (lit< tt, (lit< tt, (lit< tt, (lit< tt, (lit< tt, tt)))))); six = refl })
      (record { beacon_high = omega arith; buttons_high = omega arith; mode_low = omega arith; mode_high = omega arith })
  part_0 t (a ∷ []) h p m n real =
      part_goes_on _ t 0 a no_part [] h (omega arith) m refl refl
      (part_so_far _ (0 ∷ 0 ∷ 0 ∷ 0 ∷ 1 ∷ []) (held s stated (t + 1) (part_with no_part 0 a)) refl
      (record { real = (lit< tt, (lit< tt, (lit< tt, (lit< tt, (lit< tt, tt))))); six = refl })
      (record { beacon_high = omega arith; buttons_high = omega arith; mode_low = omega arith; mode_high = omega arith }))
  part_0 t (a ∷ b ∷ l) h p m n (small, (small', real)) =
      part_goes_on _ t 0 a no_part (b ∷ l) h (omega arith) m refl refl
      (part_goes_on _ (t + 1) 1 b (part_with no_part 0 a) l (omega arith) (omega arith) (omega arith) refl refl
      (part_2 (t + 1 + 1) a b (part_with (part_with no_part 0 a) 1 b) l (omega arith) (omega arith) (omega arith) (omega arith) real))

-- ---- a complete sample

-- what its turn comes to
goes : (s : Session) (x : Sample) → accepted s x ≡ true
    → ((turn_of (fresh_ride s) x).ride.ended ≡ 0) × ((turn_of (fresh_ride s) x).ride.session ≡ (sample_of s x).session) × (status_after (sample_of s x).outcome ≡ Open)
unfolding turn_of told_of ran_of
goes s x e = (rw (accepted_runs s x e), rw (accepted_runs s x e), rw (accepted_runs s x e))

stops : (s : Session) (x : Sample) → accepted s x ≡ false
    → ((turn_of (fresh_ride s) x).ride.ended ≡ refused_by s x) × ((sample_of s x).session ≡ s) × (status_after (sample_of s x).outcome ≡ Refused (refused_by s x))
unfolding turn_of told_of
stops s x e = (rw (refused_stays s x e, refused_number s x e), rw (refused_stays s x e), rw (refused_stays s x e, refused_number s x e))

-- ---- of every line

-- what is due behind a line is taken from between two samples
module _ (card : Card) (before : List ℕ) (due : Due card before) where
  abbrev now : Session
  now = (after_bytes card before).session

  abbrev place : Receiver
  place = between_samples now (long before 0) (length before)

  pub received_due : (bytes : List ℕ) → after_bytes card (before ++ bytes) ≡ received_all place bytes
  received_due bytes =
      received_append (fresh_receiver card) before bytes ∙ ap (λ (r : Receiver). received_all r bytes) (due_between card before due).0

  pub shown_due : (bytes : List ℕ) → shown_bytes card (before ++ bytes) ≡ shown_bytes card before ++ shown_all place bytes
  shown_due bytes =
      shown_append (fresh_receiver card) before bytes
      ∙ ap (λ (r : Receiver). shown_bytes card before ++ shown_all r bytes) (due_between card before due).0

  part_due : (bytes : List ℕ) → length bytes ≤ 5 → AllBytes bytes → PartAs now bytes (after_bytes card (before ++ bytes)).status
  part_due bytes n real =
      let b = due_between card before due in
      rw (received_due bytes) (part_0 now (long before 0) b.1 (length before) bytes b.4 b.2 b.3 n real)

  pub samples : (six : List ℕ) → length six ≡ 6 → Complete card before six now
  unfolding byte word turn_shows
  samples (a ∷ b ∷ c ∷ d ∷ e ∷ f ∷ []) n = cases (accepted now x) refl
    where
      x : Sample
      x = sample_from a b c d e f

      six : List ℕ
      six = a ∷ b ∷ c ∷ d ∷ e ∷ f ∷ []

      taken : SampleTaken now (long before 0) (length before) x six
      taken = let at = due_between card before due in six_taken now (long before 0) (length before) a b c d e f at.1 at.4 at.2 at.3

      told : shown_bytes card (before ++ six) ≡ shown_bytes card before ++ outcome_of (sample_of now x).outcome ∷ []
      told = shown_due six ∙ ap (λ (l : List (Answer Told)). shown_bytes card before ++ l) (taken.shows ∙ ap (λ (q : Answer Told). q ∷ []) (sym (sample_paper now x)))

      cases : (g : Bool) → accepted now x ≡ g → Complete card before six now
      cases true g =
          let all = goes now x g in
          let after = received_due six ∙ taken.goes_on (rw all.0) in
          record { shown = told; session = ap (λ (q : Receiver). q.session) after ∙ all.1; status = ap (λ (q : Receiver). q.status) after ∙ sym all.2 }
      cases false g =
          let all = stops now x g in
          let after = taken.stops (rw all.0 g) in
          record {
            shown = told;
            session = ap (λ (q : Receiver). q.session) (received_due six) ∙ after.1 ∙ sym all.1;
            status = ap (λ (q : Receiver). q.status) (received_due six) ∙ after.0 ∙ ap Refused all.0 ∙ sym all.2;
          }
  samples [] n = absurd (omega arith)
  samples (a ∷ []) n = absurd (omega arith)
  samples (a ∷ b ∷ []) n = absurd (omega arith)
  samples (a ∷ b ∷ c ∷ []) n = absurd (omega arith)
  samples (a ∷ b ∷ c ∷ d ∷ []) n = absurd (omega arith)
  samples (a ∷ b ∷ c ∷ d ∷ e ∷ []) n = absurd (omega arith)
  samples (a ∷ b ∷ c ∷ d ∷ e ∷ f ∷ g ∷ l) n = absurd (omega arith)

pub parts : (card : Card) (before part : List ℕ) → Due card before → length part ≤ 5 → AllBytes part
    → Exactly (after_bytes card (before ++ part)).status (PartAs (after_bytes card before).session part)
parts card before part due n real =
    let s = (after_bytes card before).session in
    only (PartAs s part) (part_one s part) (part_due card before due part n real)
