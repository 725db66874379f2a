-- Request f, old bytes: what is told is alike until a function that differs speaks.
use Prim.Native.Nat.{ℕ, suc, ◌*◌}
use mathlib.Core.Bool.{Bool, true, false, ◌&&◌}
use mathlib.Core.Path.{◌≡◌, refl, sym, ap, ◌∙◌}
use mathlib.Core.List.{List, [], ◌∷◌}
use lib.ListN.{length, take}
use lib.Seq.{take-length}
use Rattle.std.specs.Prelude.{Ok, Err}
use Rattle.leaf.specs.Choosing.{pick}
use Rattle.leaf.specs.Answers.{given, refused, numbered_refusal}
use Rattle.card.specs.declared.Card.{Card}
use Rattle.card.specs.Card.{Same}
use Rattle.card.specs.Reading.{card_in}
use Rattle.step.specs.declared.speed.Standing.{Standing}
use Rattle.session.specs.declared.Sample.{Sample}
use Rattle.session.specs.declared.Session.{Session}
use Rattle.session.specs.declared.Sampled.{Sampled}
use Rattle.session.specs.Session.{Outcome}
use Rattle.session.specs.Why.{Told}
use Rattle.session.specs.declared.Asked.{Asked}
use Rattle.session.specs.Types.{type_speed, type_allowed}
use Rattle.session.specs.Session.{fresh_session, card_inside, refused_by, ran_of, sample_of}
use Rattle.session.specs.Runs.{accepted}
use Rattle.session.specs.Why.{why_from, why_now, explained_of, asked_of}
use Rattle.session.proofs.Runs.{accepted_runs, refused_stays}
use Rattle.demands.specs.Speaks.{differing_speaks, silent_for, until_speaks}
use Rattle.demands.specs.Why.{asks, told_from, told, first_told}
use Rattle.demands.proofs.Later.{later, AllQuiet, all_fresh, all_stay}
use Rattle.demands.proofs.Apart.{reason_alike}
use Rattle.demands.proofs.Alike.{entries, beside, BothInside, Quiet, refusal_alike, ran_alike, spoken}
use Rattle.demands.proofs.Cards.{its_range, opens}
use Rattle.demands.proofs.Demand3.{settings_alike, says_same, version_one, version_two, opens_same}
use Rattle.demands.proofs.Hushed.{beside_it, until_end}
use Rattle.demands.specs.Demand3.{SameWithout}

module _ (t : Card) where
  -- the reason of a session sees no later function
  why_alike : (u : Session) → why_now (beside t u) ≡ why_now u
  unfolding why_now
  why_alike u = ap (λ (l : Standing). why_from l u.desk.brake) (reason_alike u.card.settings t.settings (type_speed u.train * 100) u.desk)

  explained_alike : (u : Session) (o : Outcome) → explained_of (beside t u) o ≡ record { session = beside t u; told = (explained_of u o).told }
  explained_alike u (Ok a) = rw (why_alike u)
  explained_alike u (Err why) = refl

  same_session : (u : Session) (o : Outcome) → (explained_of u o).session ≡ u
  same_session u (Ok a) = refl
  same_session u (Err why) = refl

  abbrev explained : Sampled → Asked
  explained r = explained_of r.session r.outcome

  -- ---- a list of samples

  -- what is told of a sample, by what it leaves, and of those behind it
  abbrev from : Sampled → List Sample → List Told
  from r xs = (explained r).told ∷ asks r.session xs

  asks-from : (u : Session) (x : Sample) (xs : List Sample) → asks u (x ∷ xs) ≡ from (sample_of u x) xs
  unfolding asks asked_of
  asks-from u x xs = ap (λ (v : Session). (asked_of u x).told ∷ asks v xs) (same_session (sample_of u x).session (sample_of u x).outcome)

  abbrev AlikeTold : Session → List Sample → Type 0
  AlikeTold u xs = take (silent_for u (beside t u).card xs) (asks u xs) ≡ take (silent_for u (beside t u).card xs) (asks (beside t u) xs)

  next_alike : (v : Session) (o : Outcome) (k : ℕ) (xs : List Sample) → take k (asks v xs) ≡ take k (asks (beside t v) xs)
      → take (suc k) (from (record { session = v; outcome = o }) xs) ≡ take (suc k) (from (record { session = beside t v; outcome = o }) xs)
  next_alike v o k xs ih =
      ap (λ (l : List Told). (explained_of v o).told ∷ l) ih
      ∙ ap (λ (h : Told). h ∷ take k (asks (beside t v) xs)) (sym (ap (λ (a : Asked). a.told) (explained_alike v o)))

  -- of a sample that leaves one session and, on the other card, the one beside it
  one_alike : (u : Session) (x : Sample) (xs : List Sample) (v : Session) (o : Outcome) (card : Card)
      → sample_of u x ≡ record { session = v; outcome = o } → sample_of (beside t u) x ≡ record { session = beside t v; outcome = o }
      → take (silent_for v card xs) (asks v xs) ≡ take (silent_for v card xs) (asks (beside t v) xs)
      → (let k = suc (silent_for (sample_of u x).session card xs) in take k (asks u (x ∷ xs)) ≡ take k (asks (beside t u) (x ∷ xs)))
  one_alike u x xs v o card e f ih =
      let rest : Sampled → ℕ = λ r. silent_for r.session card xs in
      ap (take (suc (rest (sample_of u x)))) (asks-from u x xs)
      ∙ ap (λ (r : Sampled). take (suc (rest r)) (from r xs)) e
      ∙ next_alike v o (silent_for v card xs) xs ih
      ∙ sym (ap (λ (r : Sampled). take (suc (rest r)) (from (record { session = beside t v; outcome = o }) xs)) e)
      ∙ sym (ap (λ (r : Sampled). take (suc (rest (sample_of u x))) (from r xs)) f)
      ∙ sym (ap (take (suc (rest (sample_of u x)))) (asks-from (beside t u) x xs))

  alike_after : (u : Session) (x : Sample) (xs : List Sample) → BothInside t u → AllQuiet entries u.card t (ran_of u x).session.desk
      → ((v : Session) → BothInside t v → Quiet t v → AlikeTold v xs)
      → (let k = silent_for (ran_of u x).session (beside t u).card xs in
      take k (asks (ran_of u x).session xs) ≡ take k (asks (beside t (ran_of u x).session) xs))
  unfolding ran_of
  alike_after u x xs both quiet every = every (ran_of u x).session both quiet

  alike : (u : Session) (xs : List Sample) → BothInside t u → Quiet t u → AlikeTold u xs
  unfolding silent_for
  alike u [] both quiet = nothing u
    where
      nothing : (u : Session) → take 0 (asks u []) ≡ take 0 (asks (beside t u) [])
      nothing u = refl
  alike u (x ∷ xs) both quiet = cases (accepted u x) refl (differing_speaks u (beside t u).card x) refl (λ v b q. alike v xs b q)
    where
      rest : ℕ
      rest = silent_for (sample_of u x).session (beside t u).card xs

      cases : (a : Bool) → accepted u x ≡ a → (k : Bool) → differing_speaks u (beside t u).card x ≡ k
          → ((v : Session) → BothInside t v → Quiet t v → AlikeTold v xs)
          → take (pick (a && k) 0 (suc rest)) (asks u (x ∷ xs)) ≡ take (pick (a && k) 0 (suc rest)) (asks (beside t u) (x ∷ xs))
      cases true e true o ih = refl
      cases true e false o ih =
          let silent = spoken t u x o in
          one_alike u x xs (ran_of u x).session (ran_of u x).outcome (beside t u).card (accepted_runs u x e)
          (accepted_runs (beside t u) x (rw (refusal_alike t u x both) e) ∙ ran_alike t u x both quiet silent)
          (alike_after u x xs both (all_stay entries u t x quiet silent) ih)
      cases false e k o ih =
          one_alike u x xs u (Err (numbered_refusal (refused_by u x))) (beside t u).card (refused_stays u x e)
          (refused_stays (beside t u) x (rw (refusal_alike t u x both) e)
          ∙ ap (λ (n : ℕ). record { session = beside t u; outcome = Err (numbered_refusal n) }) (refusal_alike t u x both))
          (ih u both quiet)

-- ---- from opening

fresh_alike : (c t : Card) (train : ℕ) (xs : List Sample) → card_inside c ≡ true → card_inside (later c t) ≡ true
    → take (until_speaks c (later c t) train xs) (asks (fresh_session c train) xs) ≡ take (until_speaks c (later c t) train xs) (asks (fresh_session (later c t) train) xs)
fresh_alike c t train xs inside also = alike t (fresh_session c train) xs (inside, also) (all_fresh entries c t)

opened_alike : (c t : Card) (train : ℕ) (xs : List Sample) → card_inside c ≡ true → card_inside (later c t) ≡ true
    → first_told (until_speaks c (later c t) train xs) (told c train xs) ≡ first_told (until_speaks c (later c t) train xs) (told (later c t) train xs)
opened_alike c t train xs inside also = rw (opens c train inside, opens (later c t) train also) (cases (type_allowed train c.settings.vmax))
  where
    k : ℕ
    k = until_speaks c (later c t) train xs

    cases : (b : Bool)
        → first_told k (told_from (pick b (given (fresh_session c train)) (refused 7)) xs)
        ≡ first_told k (told_from (pick b (given (fresh_session (later c t) train)) (refused 7)) xs)
    cases true = ap (λ (l : List Told). given l) (fresh_alike c t train xs inside also)
    cases false = refl

pub told_alike : (a b : List ℕ) (h g : ℕ) (c t : Card) → card_in a h ≡ given c → card_in b g ≡ given t → Same a b 3 39
    → (train : ℕ) (xs : List Sample) → first_told (until_speaks c t train xs) (told c train xs) ≡ first_told (until_speaks c t train xs) (told t train xs)
told_alike a b h g c t read_a read_b same train xs =
    let e = settings_alike a b h g c t read_a read_b same in
    rw e (opened_alike c t train xs (its_range a h c read_a) (rw e at (its_range b g t read_b)))

-- ---- version 1 and 2: no function differs, and all is told alike

asks-length : (u : Session) (xs : List Sample) → length (asks u xs) ≡ length xs
unfolding asks
asks-length u [] = refl
asks-length u (x ∷ xs) = ap suc (asks-length (asked_of u x).session xs)

whole : (u : Session) (xs : List Sample) → take (length xs) (asks u xs) ≡ asks u xs
whole u xs = rw (← asks-length u xs) (take-length (asks u xs))

pub told_same : (a b : List ℕ) (h g : ℕ) (c t : Card) → card_in a h ≡ given c → card_in b g ≡ given t → SameWithout a b
    → (train : ℕ) (xs : List Sample) → told c train xs ≡ told t train xs
told_same a b h g c t read_a read_b m train xs =
    rw (opens c train (its_range a h c read_a), opens_same a b h g c t read_a read_b m train) (cases (type_allowed train c.settings.vmax))
  where
    says : t.settings ≡ c.settings
    says = says_same a b h g c t read_a read_b m

    one : c.version ≡ 1
    one = version_one a b h g c t read_a read_b m

    two : t.version ≡ 2
    two = version_two a b h g c t read_a read_b m

    alike_all : take (length xs) (asks (fresh_session c train) xs) ≡ take (length xs) (asks (fresh_session (later c t) train) xs)
    alike_all =
        let k : until_speaks c (later c t) train xs ≡ length xs = ap (λ (d : Card). silent_for (fresh_session c train) d xs) (sym (beside_it c t says one two)) ∙ until_end c t says one two train xs in
        rw k at (fresh_alike c t train xs (its_range a h c read_a) (rw (beside_it c t says one two) at (its_range b g t read_b)))

    same : asks (fresh_session c train) xs ≡ asks (fresh_session t train) xs
    same =
        sym (whole (fresh_session c train) xs) ∙ alike_all ∙ whole (fresh_session (later c t) train) xs
        ∙ ap (λ (d : Card). asks (fresh_session d train) xs) (sym (beside_it c t says one two))

    cases : (u : Bool) → told_from (pick u (given (fresh_session c train)) (refused 7)) xs ≡ told_from (pick u (given (fresh_session t train)) (refused 7)) xs
    cases true = ap (λ (l : List Told). given l) same
    cases false = refl
