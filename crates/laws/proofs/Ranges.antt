-- A session is inside exactly when the plain facts hold: the settings and the train type, the session.
use Prim.Native.Nat.{ℕ, ◌≤◌}
use mathlib.Core.Path.{◌≡◌, refl, sym, ◌∙◌}
use mathlib.Core.Bool.{true, ◌&&◌}
use Rattle.leaf.specs.Choosing.{and_split}
use Rattle.leaf.specs.Answers.{Answer, given, refused, refused_at, is_given}
use Rattle.card.specs.declared.Card.{Card}
use Rattle.card.specs.Card.{known}
use Rattle.card.specs.Plain.{Known}
use Rattle.card.specs.Ranges.{check_settings}
use Rattle.card.proofs.Accepted.{in_range_when, in_range_only}
use Rattle.session.specs.declared.Session.{Session}
use Rattle.session.specs.Types.{type_speed, type_allowed}
use Rattle.desk.specs.Ranges.{desk_inside}
use Rattle.session.specs.Session.{card_inside, inside_of}
use Rattle.session.proofs.Opening.{judges_inside}
use Rattle.step_laws.proofs.Facts.{two_in, two_out, three_in, three_out}
use Rattle.step_laws.proofs.Ranges.{range_laws}
use Rattle.laws.specs.Ranges.{CardIn, Inside, SessionRanges}

-- ---- the card and the train type

given_is : (a : Answer Unit) → is_given a ≡ true → a ≡ given tt
given_is (given u) h = refl
given_is (refused n) h = cc
given_is (refused_at n place) h = cc

pub known_only : (version : ℕ) → known version ≡ true → Known version
known_only version h = two_in 1 version version 3 h

pub known_when : (version : ℕ) → Known version → known version ≡ true
known_when version k = two_out 1 version version 3 k.0 k.1

pub card_only : (card : Card) → card_inside card ≡ true → CardIn card
card_only card h =
    let t = and_split (known card.version) (is_given (check_settings card.version card.settings)) (judges_inside card ∙ h) in
    record {
      version = known_only card.version t.0;
      settings = in_range_only card.version card.settings (given_is (check_settings card.version card.settings) t.1);
    }

pub card_when : (card : Card) → CardIn card → card_inside card ≡ true
card_when card i = sym (judges_inside card) ∙ rw (known_when card.version i.version, in_range_when card.version card.settings i.settings)

-- "7 | train type not 1..8, or faster than vmax"
type_only : (train vmax : ℕ) → type_allowed train vmax ≡ true → (1 ≤ train) × ((train ≤ 8) × (type_speed train ≤ vmax))
unfolding type_allowed
type_only train vmax h = three_in 1 train train 8 (type_speed train) vmax h

type_when : (train vmax : ℕ) → 1 ≤ train → train ≤ 8 → type_speed train ≤ vmax → type_allowed train vmax ≡ true
unfolding type_allowed
type_when train vmax low high fast = three_out 1 train train 8 (type_speed train) vmax low high fast

-- ---- the session: inside exactly when the facts hold

pub inside_only : (s : Session) → inside_of s ≡ true → Inside s
unfolding inside_of
inside_only s h =
    let a = and_split (card_inside s.card && type_allowed s.train s.card.settings.vmax) (desk_inside s.desk) h in
    let b = and_split (card_inside s.card) (type_allowed s.train s.card.settings.vmax) a.0 in
    let t = type_only s.train s.card.settings.vmax b.1 in
    record {
      card = card_only s.card b.0;
      train_low = t.0;
      train_high = t.1.0;
      type_speed_lem = t.1.1;
      desk = (range_laws.desk_inside_lem s.desk).0 a.1;
    }

pub inside_when : (s : Session) → Inside s → inside_of s ≡ true
unfolding inside_of
inside_when s i =
    rw (
      card_when s.card i.card,
      type_when s.train s.card.settings.vmax i.train_low i.train_high i.type_speed_lem,
      (range_laws.desk_inside_lem s.desk).1 i.desk,
    )

pub session_ranges : SessionRanges
session_ranges =
    record {
      card_inside_lem = λ card. (card_only card, card_when card);
      type_allowed_lem = λ train vmax. (type_only train vmax, λ t. type_when train vmax t.0 t.1.0 t.1.1);
      inside_exactly = λ s. (inside_only s, inside_when s);
    }
