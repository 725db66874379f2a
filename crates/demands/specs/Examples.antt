-- The cards, samples and answers of the examples, in numbers.
use Rattle.std.specs.Prelude.{ℕ, zero, suc, Bool, false, List, [], ◌∷◌, ◌++◌, Ok}
use Rattle.leaf.specs.Answers.{Answer, given, refused, refused_at}
use Rattle.card.specs.declared.Row.{Row}
use Rattle.card.specs.declared.Card.{Card}
use Rattle.card.specs.declared.Settings.{Settings}
use Rattle.card.specs.Card.{no_pairs}
use Rattle.card.specs.CardA.{card_a}
use Rattle.session.specs.declared.Sample.{Sample}
use Rattle.session.specs.declared.Session.{Session}
use Rattle.session.specs.Session.{Outcome}
use Rattle.session.specs.Session.{sample_of}
use Rattle.session.specs.Runs.{after}

-- ---- samples

-- pulses, beacon and buttons, in CONV and in BTS
abbrev pub conv : ℕ → ℕ → ℕ → Sample
conv pulses beacon buttons = record { pulses = pulses; beacon = beacon; buttons = buttons; mode = 1 }

abbrev pub bts : ℕ → ℕ → ℕ → Sample
bts pulses beacon buttons = record { pulses = pulses; beacon = beacon; buttons = buttons; mode = 2 }

-- so many samples alike, then others
abbrev pub times : ℕ → Sample → List Sample → List Sample
times zero x xs = xs
times (suc n) x xs = x ∷ times n x xs

-- the outcome of a sample that comes after others, in a session that opening gives
abbrev pub end_of : Answer Session → List Sample → Sample → Answer Outcome
end_of (given s) xs x = given (sample_of (after s xs) x).outcome
end_of (refused n) xs x = refused n
end_of (refused_at n place) xs x = refused_at n place

-- ---- answers: "S, lamps, cause (0 none), crossing icon (0, 1 protected, 2 unprotected), limit standing or not"

abbrev pub answer : ℕ → ℕ → ℕ → ℕ → Bool → Outcome
answer speed lamps cause icon limit = Ok (record { speed = speed; lamps = lamps; cause = cause; icon = icon; limit = limit })

-- no crossing, no limit
abbrev pub shows : ℕ → ℕ → ℕ → Outcome
shows speed lamps cause = answer speed lamps cause 0 false

-- the same outcome so many times, then others
abbrev pub repeated : ℕ → Outcome → List Outcome → List Outcome
repeated zero o os = os
repeated (suc n) o os = o ∷ repeated n o os

-- ---- cards

-- card A with another tick length, functions and limit row
abbrev pub card_a_with : ℕ → ℕ → Row → Settings
card_a_with tick functions limit =
    record {
      vmax = card_a.vmax;
      tick = tick;
      bts = card_a.bts;
      conditional_clear = card_a.conditional_clear;
      announcement = card_a.announcement;
      preannouncement = card_a.preannouncement;
      caution = card_a.caution;
      before_stop = card_a.before_stop;
      crossing = card_a.crossing;
      limit = limit;
      start = card_a.start;
      functions = functions;
      x = 0;
      y = 0;
      pairs = no_pairs;
    }

-- 02 g: "the opening now takes the version". Card A as it is read, version 1; and those with functions of their own, beside version 2, which has
-- functions
abbrev pub card_of_a : Card
card_of_a = record { version = 1; settings = card_a }

abbrev pub card_of_a_with : ℕ → ℕ → Row → Card
card_of_a_with tick functions limit = record { version = 2; settings = card_a_with tick functions limit }

-- bytes 3 to 38 of a vehicle of today and of one from before 2015, which differ in the before-stop row
abbrev common_bytes : List ℕ → List ℕ
common_bytes before_stop_row =
    (0xA0 ∷ 0x00 ∷ 0x64 ∷ 0x64 ∷ [])
    ++ (0xA0 ∷ 0xA0 ∷ 0x4B ∷ 0x16 ∷ 0xA0 ∷ 0x50 ∷ 0x4B ∷ 0x16 ∷ 0xA0 ∷ 0x50 ∷ 0x4B ∷ 0x16 ∷ 0xA0 ∷ 0x50 ∷ 0x4B ∷ 0x16 ∷ [])
    ++ before_stop_row
    ++ (0xA0 ∷ 0x1E ∷ 0x4B ∷ 0x16 ∷ 0xA0 ∷ 0x3C ∷ 0x4B ∷ 0x16 ∷ 0x8C ∷ 0x8C ∷ 0x00 ∷ 0x01 ∷ [])

abbrev pub settings_r : List ℕ
settings_r = common_bytes (0x32 ∷ 0x0F ∷ 0x14 ∷ 0x14 ∷ [])

abbrev pub settings_p : List ℕ
settings_p = common_bytes (0x3C ∷ 0x1E ∷ 0x14 ∷ 0x14 ∷ [])

-- card R: version 2; its functions, X and Y are what follows
abbrev pub card_r : List ℕ → List ℕ
card_r functions_x_y = 0x00 ∷ 0x2C ∷ 0x02 ∷ (settings_r ++ functions_x_y)

-- card P, version 1; and its version 2 form
abbrev pub card_p : List ℕ
card_p = 0x00 ∷ 0x27 ∷ 0x01 ∷ settings_p

abbrev pub card_p2 : List ℕ
card_p2 = 0x00 ∷ 0x2C ∷ 0x02 ∷ (settings_p ++ (0x00 ∷ 0x00 ∷ 0x00 ∷ 0x00 ∷ 0x00 ∷ []))
