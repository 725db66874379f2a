-- Document 02 g), "Limit beacons in pairs": of every sample of every desk, in plain facts, once over the four speeds: when a paired limit is set, its
-- value and its age, when it may go and which goes; what becomes of the first's single limit; which limits step; what a mode change parts.
use Rattle.std.specs.Prelude.{ℕ, ◌+◌, ◌*◌, ◌≤◌, ◌<◌, min, ◌≡◌, true, false, not, ◌⊎◌}
use mathlib.Core.List.{Memᴰ}
use Rattle.leaf.specs.Numbers.{aged_of, further_of, bit_of}
use Rattle.leaf.specs.Choosing.{pick}
use Rattle.leaf.specs.Buttons.{crossing_button, limit_button, override_button, increase_button, hide_button}
use Rattle.card.specs.declared.Card.{Card}
use Rattle.card.specs.declared.Pairs.{Pairs}
use Rattle.card.specs.Card.{reminds}
use Rattle.curve.specs.Curve.{row_speed}
use Rattle.signals.specs.MainControl.{may_increase}
use Rattle.sides.specs.declared.limit.Limit.{Limit}
use Rattle.sides.specs.declared.pairs.First.{First}
use Rattle.sides.specs.declared.pairs.FirstKind.{FirstKind}
use Rattle.sides.specs.declared.pairs.FirstKind.TheVariants.{Absent, Ten, Eleven}
use Rattle.sides.specs.declared.pairs.FourLimits.{FourLimits}
use Rattle.sides.specs.Limit.{no_limit, limit_set, stepped_final, hidden}
use Rattle.sides.specs.Pairs.{no_first, no_paired, paired_now, none_of_four, paired_at, pair_speeds}
use Rattle.desk.specs.declared.state.Desk.{Desk}
use Rattle.desk.specs.Clock.{same_mode, begun}
use Rattle.buttons.specs.Buttons.{free_for, crossing_pressed, limit_pressed, override_pressed, increase_pressed, window_presses}
use Rattle.step.specs.declared.Input.{Input}
use Rattle.step.specs.Step.{has_pairs, step_of}
use Rattle.step_laws.specs.Walk.{at_beacon, reads_at}

abbrev pub first_of : Desk → First
first_of d = d.beside.paired.first

abbrev pub four_of : Desk → FourLimits
four_of d = d.beside.paired.limits

abbrev pub single_of : Desk → Limit
single_of d = d.beside.limit

-- "giving 30, 40, 50 or 70 km/h"
abbrev pub IsSpeed : ℕ → Type 0
IsSpeed speed = Memᴰ speed pair_speeds

-- "the speeds for pairs 10-10, 10-11, 11-10, 11-11"
pub data PairOf (pairs : Pairs) : FirstKind → ℕ → ℕ → Type 0 where
  pair_ten_ten : PairOf pairs Ten 10 pairs.ten_ten
  pair_ten_eleven : PairOf pairs Ten 11 pairs.ten_eleven
  pair_eleven_ten : PairOf pairs Eleven 10 pairs.eleven_ten
  pair_eleven_eleven : PairOf pairs Eleven 11 pairs.eleven_eleven

module _ (card : Card) (top : ℕ) (x : Input) (d : Desk) where
  -- where the buttons are looked at, and where button 6 is, whether a window takes it or not
  abbrev pub at_buttons : Desk
  at_buttons = (begun x.bts x.m (reminds card.settings.functions) card.settings.x card.settings.y d).desk

  abbrev pub at_limit : Desk
  at_limit = crossing_pressed (bit_of x.buttons crossing_button) (window_presses x.buttons at_buttons)

  abbrev pub after_limit : Desk
  after_limit = limit_pressed (bit_of x.buttons limit_button) x.m card.settings.limit top at_limit

  -- where increase is, whether stop has use for it or not
  abbrev pub at_increase : Desk
  at_increase = override_pressed (bit_of x.buttons override_button) after_limit

  abbrev pub after_increase : Desk
  after_increase = increase_pressed (bit_of x.buttons increase_button) (has_pairs card.version) card.settings.limit top at_increase

  -- where the beacon is looked at, and after the sample
  abbrev pub before : Desk
  before = at_beacon card top x d

  abbrev pub after : Desk
  after = (step_of card top x d).desk

  -- ---- making a pair

  -- a beacon 10 or 11 is read, on a card with pairs: that of version 3
  pub record ReadOnThree : Type 0 where
    pub version : card.version ≡ 3
    pub code : (x.beacon ≡ 10) ⊎ (x.beacon ≡ 11)
    pub read : reads_at card x before ≡ true

  -- "read at no more than that distance from the first": 10,000 × byte 48
  pub record Near : Type 0 where
    pub there : (first_of before).kind ≡ Absent → ⊥
    pub near : (first_of before).distance ≤ card.settings.pairs.distance * 10000

  -- a second, of the pair that gives this speed
  pub record MakesPair (speed : ℕ) : Type 0 where
    pub reading : ReadOnThree
    pub near : Near
    pub kind : PairOf card.settings.pairs (first_of before).kind x.beacon speed

  -- a first
  pub record IsFirst : Type 0 where
    pub reading : ReadOnThree
    pub far : Near → ⊥

  -- ---- which may go, and which goes

  -- "A paired one may go when 9m < 25 × its value" (g22): it stands on this desk, and "min(T, its speed)" is above m
  abbrev pub Goes : Desk → ℕ → Type 0
  Goes e speed = ((paired_at speed (four_of e)).on ≡ true) × (9 * x.m < 25 * min top (speed * 100))

  -- the single one: "when speed is below its final value, steps included"
  abbrev pub final_of : Desk → ℕ
  final_of e = stepped_final card.settings.limit.last (single_of e).steps top

  abbrev pub SingleGoes : Desk → Type 0
  SingleGoes e = ((single_of e).on ≡ true) × (9 * x.m < 25 * final_of e)

  -- "of those that may go the lowest by final value" (g23), "paired first" of equal ones, "then the lower speed" (g24)
  pub record LowestPaired (e : Desk) (speed : ℕ) : Type 0 where
    pub is_speed : IsSpeed speed
    pub goes : Goes e speed
    pub lowest : (other : ℕ) → IsSpeed other → Goes e other → speed ≤ other
    pub not_above_single : SingleGoes e → min top (speed * 100) ≤ final_of e

  pub record LowestSingle (e : Desk) : Type 0 where
    pub goes : SingleGoes e
    pub below_paired : (other : ℕ) → IsSpeed other → Goes e other → final_of e < min top (other * 100)

  -- ---- which limits step

  -- "At its final value, increase (if stop has no use for it) adds a 20 km/h step, up to min(T, 160)"; "Steps of 20 km/h work only for limits last
  -- set by beacons 1 and 9 .. On version 1 and 2 cards all stays" (g26)
  pub record Steps : Type 0 where
    pub press : bit_of x.buttons increase_button ≡ true
    pub no_use_for_stop : may_increase at_increase.main ≡ false
    pub stands : (single_of at_increase).on ≡ true
    pub at_final : row_speed card.settings.limit (single_of at_increase).age ≤ card.settings.limit.last * 100
    pub below : final_of at_increase < min top 16000
    pub last_set : card.version ≡ 3 → (single_of at_increase).answered ≡ true

  -- ---- the laws

  pub record PairLaws : Type 0 where
    -- "The second sets its speed's paired limit" (g13), and its age is 0: "aged from the second beacon that last set it"; no other beacon, and no
    -- other pair, sets it
    pub set : (speed : ℕ) → IsSpeed speed → MakesPair speed → paired_at speed (four_of after) ≡ paired_now
    pub not_set : (speed : ℕ) → IsSpeed speed → (MakesPair speed → ⊥) → paired_at speed (four_of after) ≡ paired_at speed (four_of before)
    -- its age goes on while it stands, from sample to sample of one mode
    pub ages : (speed : ℕ) → same_mode d.bts x.bts ≡ true → (paired_at speed (four_of d)).on ≡ true
        → paired_at speed (four_of at_buttons) ≡ record { on = true; age = aged_of (paired_at speed (four_of d)).age }
    pub absent : (speed : ℕ) → same_mode d.bts x.bts ≡ true → (paired_at speed (four_of d)).on ≡ false
        → paired_at speed (four_of at_buttons) ≡ paired_at speed (four_of d)
    -- "a mode change parts them", and "drops paired limits too" (g28)
    pub parted : same_mode d.bts x.bts ≡ false → (first_of at_buttons ≡ no_first) × (four_of at_buttons ≡ none_of_four)
    -- "The limit button takes off the lowest that may go (paired first)", where no window takes the press; and no other
    pub paired_off : (speed : ℕ) → free_for (bit_of x.buttons limit_button) limit_button at_limit ≡ true → LowestPaired at_limit speed
        → (paired_at speed (four_of after_limit) ≡ no_paired)
        × (((other : ℕ) → IsSpeed other → (other ≡ speed → ⊥) → paired_at other (four_of after_limit) ≡ paired_at other (four_of at_limit))
        × (single_of after_limit ≡ single_of at_limit))
    pub single_off : free_for (bit_of x.buttons limit_button) limit_button at_limit ≡ true → LowestSingle at_limit
        → (single_of after_limit ≡ no_limit) × (four_of after_limit ≡ four_of at_limit)
    pub none_off : free_for (bit_of x.buttons limit_button) limit_button at_limit ≡ true
        → ((speed : ℕ) → IsSpeed speed → Goes at_limit speed → ⊥) → (SingleGoes at_limit → ⊥) → after_limit ≡ at_limit
    -- one of these three is so of every press
    pub which_goes : ((speed : ℕ) × LowestPaired at_limit speed) ⊎ (LowestSingle at_limit ⊎ (((speed : ℕ) → IsSpeed speed → Goes at_limit speed → ⊥) × (SingleGoes at_limit → ⊥)))
    -- no press, or one that a window takes, takes no paired one off
    pub not_free : free_for (bit_of x.buttons limit_button) limit_button at_limit ≡ false → four_of after_limit ≡ four_of at_limit
    -- nothing else between the ages and the beacon touches them
    pub buttons_leave : (four_of at_limit ≡ four_of at_buttons) × ((four_of before ≡ four_of after_limit) × (first_of before ≡ first_of at_buttons))
    -- the first: it is the last 10 or 11 read that is in no pair, at distance 0, its limit its own where no single one stood; a pair leaves none, and
    -- no other sample touches it but by its travel
    pub first_read_lem : IsFirst → ((first_of after).distance ≡ 0) × (((first_of after).own ≡ not (single_of before).on)
        × (single_of after ≡ limit_set false 0 (single_of before)))
    pub first_kind : IsFirst → ((x.beacon ≡ 10 → (first_of after).kind ≡ Ten) × (x.beacon ≡ 11 → (first_of after).kind ≡ Eleven))
    pub pair_ends : ReadOnThree → Near → first_of after ≡ no_first
    pub first_stays : (ReadOnThree → ⊥) → first_of after ≡ first_of before
    pub first_travels : same_mode d.bts x.bts ≡ true → ((first_of d).kind ≡ Absent → ⊥)
        → first_of at_buttons ≡ record { kind = (first_of d).kind; distance = further_of (first_of d).distance x.m; own = (first_of d).own }
    pub first_absent : same_mode d.bts x.bts ≡ true → (first_of d).kind ≡ Absent → first_of at_buttons ≡ first_of d
    -- "the first's is dropped, unless one stood before it": exactly where its limit is its own and no answer has set it since
    pub dropped : ReadOnThree → Near → (first_of before).own ≡ true → (single_of before).answered ≡ false → single_of after ≡ no_limit
    pub kept : ReadOnThree → Near → ((first_of before).own ≡ true → (single_of before).answered ≡ false → ⊥) → single_of after ≡ single_of before
    -- "On version 1 and 2 cards all stays": there a 10 or 11 sets the single limit, and by `not_set` and `first_stays` nothing else
    pub single_read : (card.version ≡ 3 → ⊥) → (x.beacon ≡ 10) ⊎ (x.beacon ≡ 11) → reads_at card x before ≡ true
        → single_of after ≡ limit_set false 0 (single_of before)
    -- a step is taken exactly there, and it is one; behind it only hide touches the single limit before the beacon is looked at
    pub steps : Steps
        → single_of after_increase
        ≡ record { on = true; age = (single_of at_increase).age; steps = (single_of at_increase).steps + 1; answered = (single_of at_increase).answered }
    pub no_step : (Steps → ⊥) → single_of after_increase ≡ single_of at_increase
    pub then_hide : single_of before ≡ pick (bit_of x.buttons hide_button) (hidden (single_of after_increase)) (single_of after_increase)
