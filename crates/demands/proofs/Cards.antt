-- What an accepted card says: a version and settings that opening takes, and, where two have the same common settings, the same but for version and
-- later functions.
use Prim.Native.Nat.{ℕ, ◌+◌, ◌≤◌}
use native.Mathlib.Omega.{arith}
use mathlib.Core.Bool.{Bool, true, false}
use mathlib.Core.Path.{◌≡◌, refl, sym, ap, ◌∙◌}
use mathlib.Core.List.{List}
use lib.Dec.{lit≤, lit<}
use Rattle.leaf.specs.Choosing.{pick}
use Rattle.leaf.specs.Answers.{Answer, given, refused, refused_at, is_given}
use Rattle.card.specs.declared.Card.{Card}
use Rattle.card.specs.declared.Settings.{Settings}
use Rattle.card.specs.Card.{row_at, Same}
use Rattle.leaf.specs.Bytes.{byte}
use Rattle.card.specs.Reading.{settings_from, settings_of, read_card, beside_version, card_in}
use Rattle.card.proofs.Exactly.{card_settings}
use Rattle.card.proofs.Accepted.{accepted_only}
use Rattle.card.proofs.Same.{same_word, same_row, same_part}
use Rattle.session.specs.declared.Sample.{Sample}
use Rattle.session.specs.Session.{Outcome}
use Rattle.session.specs.Types.{type_allowed}
use Rattle.session.specs.Session.{fresh_session, judge_card, opened_after, open_session, card_inside}
use Rattle.laws.proofs.Ranges.{card_when}
use Rattle.demands.specs.Runs.{run_from, first_of}
use Rattle.demands.specs.Speaks.{until_speaks}
use Rattle.demands.specs.Demand3.{card_of}
use Rattle.demands.proofs.Later.{later_in, later}
use Rattle.demands.proofs.Alike.{alike_fresh}

module _ (area : List ℕ) (h : ℕ) (c : Card) (found : card_in area h ≡ given c) where
  -- its settings are read, and its version is byte 2
  pub its_reading : (read_card area h ≡ given c.settings) × (c ≡ record { version = byte area 2; settings = c.settings })
  unfolding card_in
  its_reading = cases (read_card area h) refl found
    where
      cases : (a : Answer Settings) → read_card area h ≡ a → beside_version (byte area 2) a ≡ given c
          → (read_card area h ≡ given c.settings) × (c ≡ record { version = byte area 2; settings = c.settings })
      cases (given s) e f =
          let same : record { version = byte area 2; settings = s } ≡ c = cc in
          (e ∙ ap (λ (d : Card). given d.settings) same, sym same ∙ ap (λ (d : Card). record { version = byte area 2; settings = d.settings }) same)
      cases (refused n) e f = let z : ◌≡◌ {A = ℕ} 0 1 = cc in absurd (omega arith)
      cases (refused_at n place) e f = let z : ◌≡◌ {A = ℕ} 0 1 = cc in absurd (omega arith)

  -- it is that of the area's bytes
  pub its_settings : c ≡ card_of area
  its_settings = its_reading.1 ∙ ap (λ (s : Settings). record { version = byte area 2; settings = s }) (accepted_only area h c.settings its_reading.0).1

  -- and opening takes it
  pub its_range : card_inside c ≡ true
  its_range =
      let met = (accepted_only area h c.settings its_reading.0).0 in
      let known = met.header.known in
      let version = met.header.version in
      let high = known.1 in
      let low = version.1 in
      rw its_settings (card_when (card_of area) (record { version = (version.0, omega arith); settings = card_settings area h met }))

-- the same bytes 3 to 38: the same settings but for later functions
pub common : (a b : List ℕ) → Same a b 3 39 → settings_of b ≡ later_in (settings_of a) (settings_of b)
unfolding settings_from
common a b h =
    let row : (at : ℕ) → 3 ≤ at → at + 4 ≤ 39 → row_at a at ≡ row_at b at = λ at low high. same_row a b at (same_part a b 3 39 at (at + 4) h low high) in
    rw (
      h 3 (lit≤ tt) (lit< tt),
      same_word a b 4 (same_part a b 3 39 4 6 h (lit≤ tt) (lit≤ tt)),
      h 6 (lit≤ tt) (lit< tt),
      row 7 (lit≤ tt) (lit≤ tt),
      row 11 (lit≤ tt) (lit≤ tt),
      row 15 (lit≤ tt) (lit≤ tt),
      row 19 (lit≤ tt) (lit≤ tt),
      row 23 (lit≤ tt) (lit≤ tt),
      row 27 (lit≤ tt) (lit≤ tt),
      row 31 (lit≤ tt) (lit≤ tt),
      row 35 (lit≤ tt) (lit≤ tt),
    )

-- a card in range is refused by opening only for the train type
pub opens : (c : Card) (train : ℕ) → card_inside c ≡ true
    → open_session c train ≡ pick (type_allowed train c.settings.vmax) (given (fresh_session c train)) (refused 7)
unfolding open_session card_inside
opens c train inside = cases (judge_card c) inside
  where
    cases : (a : Answer Unit) → is_given a ≡ true → opened_after a c train ≡ pick (type_allowed train c.settings.vmax) (given (fresh_session c train)) (refused 7)
    cases (given u) h = refl
    cases (refused n) h = cc
    cases (refused_at n place) h = cc

-- rides on cards that are the same but for version and later functions: alike until one that differs speaks
pub rides_alike : (c t : Card) (train : ℕ) (xs : List Sample) → card_inside c ≡ true → card_inside (later c t) ≡ true
    → first_of (until_speaks c (later c t) train xs) (run_from (open_session c train) xs)
    ≡ first_of (until_speaks c (later c t) train xs) (run_from (open_session (later c t) train) xs)
rides_alike c t train xs inside also = rw (opens c train inside, opens (later c t) train also) (cases (type_allowed train c.settings.vmax))
  where
    k : ℕ
    k = until_speaks c (later c t) train xs

    cases : (b : Bool)
        → first_of k (run_from (pick b (given (fresh_session c train)) (refused 7)) xs)
        ≡ first_of k (run_from (pick b (given (fresh_session (later c t) train)) (refused 7)) xs)
    cases true = ap (λ (l : List Outcome). given l) (alike_fresh c t train inside also xs)
    cases false = refl
