-- Document 01: "Functions speak when an accepted sample: bit 0 carries beacon 3 or 4; bit 1 meets the stop-zone rule with the bit ignored;
-- bit 2 meets a stop's first reminder, the bit ignored; bit 3 carries 4, 9, 10 or 11 in BTS. A function differs by its bit, bit 2 also by X
-- or Y when on in both." Document 02 g): "Demand 3 gains: .. version 3 speaks beside older cards at the first 10 or 11 read, and bytes 44 to 48 at
-- the second."
use Rattle.std.specs.Prelude.{ℕ, suc, ◌*◌, Bool, true, false, ◌&&◌, ◌||◌, not, List, [], ◌∷◌, eqb}
use Rattle.leaf.specs.Choosing.{pick}
use Rattle.card.specs.declared.Card.{Card}
use Rattle.card.specs.declared.Pairs.{Pairs}
use Rattle.card.specs.Card.{protects, zones, reminds, reads_in_bts_bit}
use Rattle.signals.specs.Stop.{first_met}
use Rattle.sides.specs.Pairs.{is_first}
use Rattle.desk.specs.declared.state.Desk.{Desk}
use Rattle.desk.specs.Clock.{same_mode, desk_older}
use Rattle.beacons.specs.Beacons.{is_side, zone_met}
use Rattle.session.specs.declared.Sample.{Sample}
use Rattle.session.specs.declared.Session.{Session}
use Rattle.session.specs.Types.{type_speed}
use Rattle.session.specs.Session.{in_bts, fresh_session, carried, sample_of}
use Rattle.session.specs.Runs.{accepted}
use Rattle.step.specs.Step.{has_pairs}
use Rattle.step_laws.specs.Walk.{at_beacon, reads_at, reads_limit}

-- ---- where in the sample a rule is looked at

-- the sample's m
abbrev pub travelled : Session → Sample → ℕ
travelled s x = x.pulses * s.card.settings.tick

-- the desk with its ages and distances advanced, where the reminders are looked at
abbrev pub at_reminders : Session → Sample → Desk
at_reminders s x = desk_older (travelled s x) s.desk

-- the desk after mode, ages, misses and buttons, where the beacon is looked at
abbrev pub before_beacon : Session → Sample → Desk
before_beacon s x = at_beacon s.card (type_speed s.train * 100) (carried s x) s.desk

-- ---- the later functions

-- a function that a later version added: when two cards differ in it, and at which samples of a session it speaks
pub record Later : Type 0 where
  pub differs : Card → Card → Bool
  pub speaks : Session → Sample → Bool

abbrev pub same : Bool → Bool → Bool
same true b = b
same false b = not b

-- "A function differs by its bit"
abbrev pub bit_differs : (ℕ → Bool) → Card → Card → Bool
bit_differs bit c t = not (same (bit c.settings.functions) (bit t.settings.functions))

-- "bit 0 carries beacon 3 or 4"
abbrev pub crossing_function : Later
crossing_function = record { differs = bit_differs protects; speaks = λ s x. eqb x.beacon 3 || eqb x.beacon 4 }

-- "bit 1 meets the stop-zone rule with the bit ignored": "beacon 7 read while row 4 is main and under 80 m from its reading"
unfoldable pub meets_zone : Session → Sample → Bool
meets_zone s x = eqb x.beacon 7 && reads_at s.card (carried s x) (before_beacon s x) && zone_met (before_beacon s x)

abbrev pub zone_function : Later
zone_function = record { differs = bit_differs zones; speaks = meets_zone }

-- "bit 2 meets a stop's first reminder, the bit ignored"; in a sample that changes the mode nothing advances
unfoldable pub meets_reminder : Session → Sample → Bool
meets_reminder s x = same_mode s.desk.bts (in_bts x.mode) && first_met (at_reminders s x).main (at_reminders s x).reminder

-- "bit 2 also by X or Y when on in both"
abbrev pub reminder_differs : Card → Card → Bool
reminder_differs c t =
    bit_differs reminds c t
    || reminds c.settings.functions && reminds t.settings.functions && not (eqb c.settings.x t.settings.x && eqb c.settings.y t.settings.y)

abbrev pub reminder_function : Later
reminder_function = record { differs = reminder_differs; speaks = meets_reminder }

-- "bit 3 carries 4, 9, 10 or 11 in BTS"
abbrev pub bts_function : Later
bts_function = record { differs = bit_differs reads_in_bts_bit; speaks = λ s x. in_bts x.mode && is_side x.beacon }

-- 02 g: a beacon 10 or 11 is read in the sample
unfoldable pub meets_limit : Session → Sample → Bool
meets_limit s x = reads_limit s.card (carried s x) (before_beacon s x)

-- "version 3 speaks beside older cards at the first 10 or 11 read": none was read before it, or it would have spoken there
abbrev pub version_function : Later
version_function = record { differs = λ c t. not (same (has_pairs c.version) (has_pairs t.version)); speaks = meets_limit }

-- bytes 44 to 48
abbrev pub same_pairs : Pairs → Pairs → Bool
same_pairs p q =
    eqb p.ten_ten q.ten_ten && eqb p.ten_eleven q.ten_eleven && eqb p.eleven_ten q.eleven_ten
    && eqb p.eleven_eleven q.eleven_eleven && eqb p.distance q.distance

abbrev pub pairs_differ : Card → Card → Bool
pairs_differ c t = has_pairs c.version && has_pairs t.version && not (same_pairs c.settings.pairs t.settings.pairs)

-- "bytes 44 to 48 at the second", "pair or not" (g30): a 10 or 11 is read where one that was read before is not yet in a pair. That is the second
-- since opening, or, where a mode change came between, one further on: so nothing speaks sooner than document 02 has it
unfoldable pub meets_second : Session → Sample → Bool
meets_second s x = meets_limit s x && is_first (before_beacon s x).beside.paired.first.kind

abbrev pub pairs_function : Later
pairs_function = record { differs = pairs_differ; speaks = meets_second }

abbrev pub later_functions : List Later
later_functions = crossing_function ∷ zone_function ∷ reminder_function ∷ bts_function ∷ version_function ∷ pairs_function ∷ []

-- ---- a differing function speaks

-- one of these differs, and speaks at this sample of the session, beside another card
abbrev pub some_speaks : List Later → Session → Card → Sample → Bool
some_speaks [] s t x = false
some_speaks (f ∷ rest) s t x = f.differs s.card t && f.speaks s x || some_speaks rest s t x

unfoldable pub differing_speaks : Session → Card → Sample → Bool
differing_speaks s t x = some_speaks later_functions s t x

-- how many samples there are up to, and not including, the first accepted one at which a differing function speaks
unfoldable pub silent_for : Session → Card → List Sample → ℕ
silent_for s t [] = 0
silent_for s t (x ∷ xs) = pick (accepted s x && differing_speaks s t x) 0 (suc (silent_for (sample_of s x).session t xs))

-- the same of a ride on one card beside another, from its opening
abbrev pub until_speaks : Card → Card → ℕ → List Sample → ℕ
until_speaks c t train xs = silent_for (fresh_session c train) t xs
