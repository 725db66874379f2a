-- Cards of version 1 and 2 that say the same: no function differs, so that none ever speaks, and all is alike.
use Prim.Native.Nat.{ℕ, suc}
use mathlib.Core.Bool.{Bool, true, false, ◌&&◌, ◌||◌, not}
use mathlib.Core.Path.{◌≡◌, refl, sym, ap, ◌∙◌}
use mathlib.Core.List.{List, [], ◌∷◌}
use lib.ListN.{length, take}
use lib.Seq.{take-length}
use borrow.Author.Tests.{eq-eqb}
use Rattle.leaf.specs.Choosing.{pick}
use Rattle.card.specs.declared.Card.{Card}
use Rattle.card.specs.Card.{protects, zones, reminds, reads_in_bts_bit}
use Rattle.session.specs.declared.Sample.{Sample}
use Rattle.session.specs.declared.Session.{Session}
use Rattle.session.specs.Session.{fresh_session, card_inside, ran_of, sample_of}
use Rattle.session.specs.Runs.{accepted, outcomes}
use Rattle.session.proofs.Runs.{accepted_runs, refused_stays}
use Rattle.demands.specs.Speaks.{same, bit_differs, reminder_differs, version_function, pairs_differ, differing_speaks, silent_for}
use Rattle.demands.proofs.Later.{later}
use Rattle.demands.proofs.Alike.{alike_fresh}

-- a sample leaves the session's card as it is
pub card_kept : (u : Session) (x : Sample) → (sample_of u x).session.card ≡ u.card
unfolding ran_of
card_kept u x = cases (accepted u x) refl
  where
    cases : (t : Bool) → accepted u x ≡ t → (sample_of u x).session.card ≡ u.card
    cases true e = rw (accepted_runs u x e)
    cases false e = rw (refused_stays u x e)

outcomes-length : (u : Session) (xs : List Sample) → length (outcomes u xs) ≡ length xs
unfolding outcomes
outcomes-length u [] = refl
outcomes-length u (x ∷ xs) = ap suc (outcomes-length (sample_of u x).session xs)

same_self : (b : Bool) → same b b ≡ true
same_self true = refl
same_self false = refl

module _ (c t : Card) (says : t.settings ≡ c.settings) (one : c.version ≡ 1) (two : t.version ≡ 2) where
  bit_same : (bit : ℕ → Bool) → bit_differs bit c t ≡ false
  bit_same bit = rw (says, same_self (bit c.settings.functions))

  reminder_same : reminder_differs c t ≡ false
  reminder_same =
      rw (says, same_self (reminds c.settings.functions), eq-eqb c.settings.x c.settings.x refl, eq-eqb c.settings.y c.settings.y refl)
      (none (reminds c.settings.functions))
    where
      none : (b : Bool) → (not true || b && b && not (true && true)) ≡ false
      none true = refl
      none false = refl

  version_same : version_function.differs c t ≡ false
  version_same = rw (one, two)

  pairs_same : pairs_differ c t ≡ false
  pairs_same = rw one

  -- none speaks
  pub hushed : (u : Session) (x : Sample) → u.card ≡ c → differing_speaks u t x ≡ false
  unfolding differing_speaks
  hushed u x e = rw (e, bit_same protects, bit_same zones, reminder_same, bit_same reads_in_bts_bit, version_same, pairs_same)

  silent_all : (u : Session) (xs : List Sample) → u.card ≡ c → silent_for u t xs ≡ length xs
  unfolding silent_for
  silent_all u [] e = refl
  silent_all u (x ∷ xs) e = rw (hushed u x e) (cases (accepted u x) (silent_all (sample_of u x).session xs (card_kept u x ∙ e)))
    where
      cases : (a : Bool) → silent_for (sample_of u x).session t xs ≡ length xs → pick (a && false) 0 (suc (silent_for (sample_of u x).session t xs)) ≡ suc (length xs)
      cases true h = ap suc h
      cases false h = ap suc h

  -- the other card is this one with the other's version
  pub beside_it : t ≡ later c t
  beside_it = rw says

  pub until_end : (train : ℕ) (xs : List Sample) → silent_for (fresh_session c train) t xs ≡ length xs
  until_end train xs = silent_all (fresh_session c train) xs refl

  -- every answer is the same
  pub same_outcomes : (train : ℕ) (xs : List Sample) → card_inside c ≡ true → card_inside t ≡ true → outcomes (fresh_session c train) xs ≡ outcomes (fresh_session t train) xs
  same_outcomes train xs inside also =
      let alike = alike_fresh c t train inside (rw beside_it at also) xs in
      let k : silent_for (fresh_session c train) (later c t) xs ≡ length xs = ap (λ (d : Card). silent_for (fresh_session c train) d xs) (sym beside_it) ∙ until_end train xs in
      let both : take (length xs) (outcomes (fresh_session c train) xs) ≡ take (length xs) (outcomes (fresh_session (later c t) train) xs) = rw k at alike in
      sym (whole (fresh_session c train) xs) ∙ both ∙ whole (fresh_session (later c t) train) xs ∙ ap (λ (d : Card). outcomes (fresh_session d train) xs) (sym beside_it)
    where
      whole : (u : Session) (xs : List Sample) → take (length xs) (outcomes u xs) ≡ outcomes u xs
      whole u xs = rw (← outcomes-length u xs) (take-length (outcomes u xs))
