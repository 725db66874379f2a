-- Demand 3 holds, its hypotheses are met, and it is no constant desk that meets it.
use Prim.Native.Nat.{ℕ, zero, suc, ◌+◌, ◌<◌}
use native.Mathlib.Omega.{arith}
use mathlib.Core.Bool.{Bool, true, false, ◌&&◌, not}
use mathlib.Core.Path.{◌≡◌, refl, sym, ap, ◌∙◌}
use mathlib.Core.List.{List, [], ◌∷◌, ◌++◌}
use lib.Dec.{leb, ltb, lit≤}
use lib.ListN.{length, take, get_or-append}
use borrow.Author.Tests.{leb-false, ltb-true}
use Rattle.std.specs.Prelude.{Ok, Err}
use Rattle.leaf.specs.Bytes.{byte}
use Rattle.leaf.specs.Choosing.{pick}
use Rattle.leaf.specs.Answers.{given, refused}
use Rattle.card.specs.declared.Card.{Card}
use Rattle.card.specs.Card.{speaks, Same}
use Rattle.card.specs.Reading.{card_in}
use Rattle.card.proofs.Silence.{silence, card_silence}
use Rattle.card.proofs.Versions.{knows_1_refuses_2, knows_older_refuses_3, same_card}
use Rattle.step.specs.declared.Answer.{Answer}
use Rattle.session.specs.Session.{Outcome}
use Rattle.session.specs.declared.Sample.{Sample}
use Rattle.session.specs.Types.{type_allowed}
use Rattle.session.specs.Session.{fresh_session, open_session, card_inside}
use Rattle.session.specs.Runs.{outcomes}
use Rattle.rides.specs.Recording.{train_of, samples_of}
use Rattle.printed.specs.declared.Columns.{Columns}
use Rattle.printed.specs.Printed.{highest, printed_ride}
use Rattle.printed.specs.declared.Form.TheVariants.{Answers}
use Rattle.printed.proofs.Computes.{card}
use Rattle.printed.proofs.Silence.{print_silence}
use Rattle.demands.specs.Runs.{run_from, ride_of, first_of}
use Rattle.demands.specs.Speaks.{until_speaks}
use Rattle.demands.specs.Examples.{settings_r, settings_p, card_r}
use Rattle.demands.specs.Demand3.{SameWithout, first_lines, Demand3, HypothesesMet, Partings, VersionParts}
use Rattle.demands.proofs.Later.{later}
use Rattle.demands.proofs.Alike.{alike_fresh}
use Rattle.demands.proofs.Cards.{its_settings, its_range, common, opens, rides_alike}
use Rattle.demands.proofs.Hushed.{same_outcomes}
use Rattle.demands.proofs.Prints.{prints_alike, prints_same}
use Rattle.demands.proofs.Computes.{definitions}

-- ---- the demand

module _ (a b : List ℕ) (h g : ℕ) (c t : Card) (read_a : card_in a h ≡ given c) (read_b : card_in b g ≡ given t) where
  -- cards without later functions say the same, beside their versions
  pub says_same : SameWithout a b → t.settings ≡ c.settings
  says_same m =
      ap (λ (d : Card). d.settings) (its_settings b g t read_b) ∙ sym (same_card a b m.version_1 m.version_2 m.common m.off)
      ∙ sym (ap (λ (d : Card). d.settings) (its_settings a h c read_a))

  pub version_one : SameWithout a b → c.version ≡ 1
  version_one m = ap (λ (d : Card). d.version) (its_settings a h c read_a) ∙ m.version_1

  pub version_two : SameWithout a b → t.version ≡ 2
  version_two m = ap (λ (d : Card). d.version) (its_settings b g t read_b) ∙ m.version_2

  pub outcomes_same : SameWithout a b → (train : ℕ) (xs : List Sample) → outcomes (fresh_session c train) xs ≡ outcomes (fresh_session t train) xs
  outcomes_same m train xs =
      same_outcomes c t (says_same m) (version_one m) (version_two m) train xs (its_range a h c read_a) (its_range b g t read_b)

  -- the opening of the second, by the first's vmax
  pub opens_same : SameWithout a b → (train : ℕ) → open_session t train ≡ pick (type_allowed train c.settings.vmax) (given (fresh_session t train)) (refused 7)
  opens_same m train = rw (← says_same m) (opens t train (its_range b g t read_b))

  same_rides : SameWithout a b → (train : ℕ) (xs : List Sample) → ride_of a h train xs ≡ ride_of b g train xs
  same_rides m train xs =
      rw (read_a, read_b, opens c train (its_range a h c read_a), opens_same m train) (cases (type_allowed train c.settings.vmax))
    where
      cases : (u : Bool) → run_from (pick u (given (fresh_session c train)) (refused 7)) xs ≡ run_from (pick u (given (fresh_session t train)) (refused 7)) xs
      cases true = ap (λ (l : List Outcome). given l) (outcomes_same m train xs)
      cases false = refl

  -- cards with the same common settings are the same but for version and later functions
  pub settings_alike : Same a b 3 39 → t ≡ later c t
  settings_alike same =
      let of_a = its_settings a h c read_a in
      let of_b = its_settings b g t read_b in
      rw (of_a, of_b) (rw (← common a b same))

  alike_rides : Same a b 3 39 → (train : ℕ) (xs : List Sample) → first_of (until_speaks c t train xs) (ride_of a h train xs) ≡ first_of (until_speaks c t train xs) (ride_of b g train xs)
  alike_rides same train xs =
      let e = settings_alike same in
      rw (read_a, read_b, e) (rides_alike c t train xs (its_range a h c read_a) (rw e at (its_range b g t read_b)))

-- the same, printed
module _ (columns : Columns) (a b recording : List ℕ) (c t : Card) (read_a : card_in a highest ≡ given c) (read_b : card_in b highest ≡ given t) where
  same_prints : SameWithout a b → printed_ride columns a recording ≡ printed_ride columns b recording
  same_prints m =
      let train = train_of recording in
      prints_same columns c t recording (type_allowed train c.settings.vmax) (opens c train (its_range a highest c read_a)) (opens_same a b highest highest c t read_a read_b m train)
      (outcomes_same a b highest highest c t read_a read_b m train (samples_of recording)) a b read_a read_b

  alike_prints : Same a b 3 39
      → (let k = until_speaks c t (train_of recording) (samples_of recording) in
      first_lines (printed_ride columns a recording) (suc k) ≡ first_lines (printed_ride columns b recording) (suc k))
  alike_prints same =
      let train = train_of recording in
      let xs = samples_of recording in
      let one = settings_alike a b highest highest c t read_a read_b same in
      let inside = its_range a highest c read_a in
      let also : card_inside (later c t) ≡ true = rw one at (its_range b highest t read_b) in
      let k = until_speaks c t train xs in
      let alike : take k (outcomes (fresh_session c train) xs) ≡ take k (outcomes (fresh_session t train) xs) = rw one (alike_fresh c t train inside also xs) in
      let opens_t : open_session t train ≡ pick (type_allowed train c.settings.vmax) (given (fresh_session t train)) (refused 7) = rw one (opens (later c t) train also) in
      prints_alike columns c t recording k (type_allowed train c.settings.vmax) (opens c train inside) opens_t alike a b read_a read_b

pub demand_3 : Demand3
unfolding printed_ride card_in
demand_3 =
    record {
      silent_bytes = λ a b h m.
          (sym (silence a b h m.whole_a m.whole_b m.same), λ train xs. rw (card_silence a b h m.whole_a m.whole_b m.same));
      versions_silent = same_rides;
      functions_silent = alike_rides;
      version_2_refused = λ area long two. let e = knows_1_refuses_2 area long two in (e, λ train xs. rw e);
      version_3_refused = λ area h low high long three. let e = knows_older_refuses_3 area h low high long three in (e, λ train xs. rw e);
      versions_print = same_prints;
      functions_print = alike_prints;
      silent_print = λ columns a b recording m. print_silence (Answers columns) a b recording m.whole_a m.whole_b m.same;
    }

-- ---- its hypotheses: areas that share a front, or all but their first three bytes

front_same : (l r t : List ℕ) (i : ℕ) → i < length l → byte (l ++ r) i ≡ byte (l ++ t) i
unfolding byte
front_same l r t i h = get_or-append l r 0 i h ∙ sym (get_or-append l t 0 i h)

behind_same : (a b c d e f : ℕ) (l r t : List ℕ) → Same (a ∷ b ∷ c ∷ (l ++ r)) (d ∷ e ∷ f ∷ (l ++ t)) 3 (3 + length l)
unfolding byte
behind_same a b c d e f l r t zero low high = absurd (omega arith)
behind_same a b c d e f l r t (suc zero) low high = absurd (omega arith)
behind_same a b c d e f l r t (suc (suc zero)) low high = absurd (omega arith)
behind_same a b c d e f l r t (suc (suc (suc i))) low high = front_same l r t i (omega arith)

-- with bit 2 off, what speaks stands before byte 40
speaks_early : (i : ℕ) → speaks 2 0x0B i ≡ true → i < 40
unfolding speaks
speaks_early i h = cases (leb 40 i) refl (ltb i 44) refl (leb i 43) refl h
  where
    cases : (t : Bool) → leb 40 i ≡ t → (u : Bool) → ltb i 44 ≡ u → (v : Bool) → leb i 43 ≡ v → (u && not (t && v)) ≡ true → i < 40
    cases false e u k v l h = leb-false 40 i e
    cases true e true k true l h = absurd (let z : ◌≡◌ {A = ℕ} 0 1 = cc in omega arith)
    cases true e true k false l h = let p = ltb-true i 44 k in let q = leb-false i 43 l in omega arith
    cases true e false k v l h = absurd (let z : ◌≡◌ {A = ℕ} 0 1 = cc in omega arith)

pub hypotheses_met : HypothesesMet
unfolding card
hypotheses_met =
    record {
      same_speaking = record {
        whole_a = lit≤ tt;
        whole_b = lit≤ tt;
        same = λ i s.
            front_same (card_r (0x0B ∷ [])) (0x00 ∷ 0x00 ∷ 0x00 ∷ 0x00 ∷ []) (0xFF ∷ 0xFF ∷ 0x17 ∷ 0x70 ∷ 0x0F ∷ 0x00 ∷ 0xC8 ∷ 0x01 ∷ 0xF4 ∷ []) i (speaks_early i s);
      };
      reads_quiet = refl;
      reads_1 = refl;
      reads_2 = refl;
      same_p = record {
        version_1 = refl;
        version_2 = refl;
        common = behind_same 0x00 0x27 0x01 0x00 0x2C 0x02 settings_p [] (0x00 ∷ 0x00 ∷ 0x00 ∷ 0x00 ∷ 0x00 ∷ []);
        off = refl;
      };
      reads_r = refl;
      same_r = behind_same 0x00 0x2C 0x02 0x00 0x2C 0x02 settings_r (0x0F ∷ 0x00 ∷ 0xC8 ∷ 0x01 ∷ 0xF4 ∷ []) (0x0B ∷ 0x00 ∷ 0x00 ∷ 0x00 ∷ 0x00 ∷ []);
    }

-- ---- where cards part

-- a number of an answer
abbrev number_of : (Answer → ℕ) → Outcome → ℕ
number_of f (Ok a) = f a
number_of f (Err why) = 0

pub partings : Partings
unfolding definitions
partings =
    record {
      crossing_parts = record { speaks_at = refl; answers_a = refl; answers_b = refl; part = λ e. omega (arith, ap (number_of (λ a. a.icon)) e) };
      zone_parts = record { speaks_at = refl; answers_a = refl; answers_b = refl; part = λ e. omega (arith, ap (number_of (λ a. a.speed)) e) };
      reminder_parts = record { speaks_at = refl; answers_a = refl; answers_b = refl; part = λ e. omega (arith, ap (number_of (λ a. a.lamps)) e) };
      bts_parts = record { speaks_at = refl; answers_a = refl; answers_b = refl; part = λ e. omega (arith, ap (number_of (λ a. a.lamps)) e) };
      pairs_part = record { speaks_at = refl; answers_a = refl; answers_b = refl; part = λ e. omega (arith, ap (number_of (λ a. a.speed)) e) };
    }

pub version_parts : VersionParts
unfolding definitions
version_parts = record { speaks_at = refl; answers_3 = refl; answers_2 = refl }
