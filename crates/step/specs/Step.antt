-- Document 01, "The sample": "Order in a sample: mode; ages and distances advance, endings, reminders and missed windows; buttons, lowest bit
-- first; beacon; speed; brake." One sample of the desk, on every value; T is top, hundredths of km/h.
use Rattle.std.specs.Prelude.{ℕ, ◌+◌, Bool, ◌&&◌, ◌||◌, not, eqb}
use Rattle.leaf.specs.Choosing.{pick}
use Rattle.leaf.specs.Numbers.{bit_of, exceeds_of, quiet_code}
use Rattle.leaf.specs.Buttons.{rearm_button}
use Rattle.card.specs.declared.Settings.{Settings}
use Rattle.card.specs.declared.Card.{Card}
use Rattle.card.specs.Card.{protects, zones, reminds, reads_in_bts_bit}
use Rattle.sides.specs.Crossing.{icon_of}
use Rattle.sides.specs.Limit.{removable}
use Rattle.sides.specs.Pairs.{any_paired, lowest_to_go}
use Rattle.desk.specs.declared.state.Desk.{Desk}
use Rattle.desk.specs.declared.clock.Turn.{Turn}
use Rattle.step.specs.declared.Input.{Input}
use Rattle.step.specs.declared.Answer.{Answer}
use Rattle.step.specs.declared.Stepped.{Stepped}
use Rattle.desk.specs.Brake.{standstill}
use Rattle.desk.specs.Clock.{begun}
use Rattle.buttons.specs.Buttons.{presses_of}
use Rattle.beacons.specs.Beacons.{beacon_taken}
use Rattle.step.specs.Speed.{crossing_turned, supervised_of}
use Rattle.step.specs.Reason.{reason_of}
use Rattle.step.specs.Brake.{lowest, braked, lamps_of}

-- 02 g: "On version 1 and 2 cards all stays": "Answers ask only whether it is 3." (g5)
abbrev pub has_pairs : ℕ → Bool
has_pairs version = eqb version 3

-- mode, ages and misses, buttons, beacon
unfoldable pub moved_of : Card → ℕ → Input → Desk → Turn
moved_of card top x d =
    let s : Settings = card.settings in
    let paired : Bool = has_pairs card.version in
    let first : Turn = begun x.bts x.m (reminds s.functions) s.x s.y d in
    let pressed : Desk = presses_of x.buttons x.m paired s.limit top first.desk in
    let read : Turn =
    beacon_taken x.beacon (protects s.functions) (zones s.functions) (reads_in_bts_bit s.functions) paired s.pairs pressed in
    record { desk = read.desk; cause = lowest first.cause read.cause }

-- "6 when limit is removable"; 02 g: paired limits "count as limit in .. lamp 6": "any may go" (g22)
unfoldable pub limit_goes : ℕ → ℕ → ℕ → Desk → Bool
limit_goes m last top d = removable m last top d.beside.limit || not (eqb (lowest_to_go m top d.beside.paired.limits) 0)

-- "The answer is S, lamps, cause (0 none), crossing icon (0, 1 protected, 2 unprotected), limit standing or not."; 02 g: paired limits "count as
-- limit in .. the answer": "any stands" (g22)
unfoldable pub answer_of : Settings → ℕ → ℕ → Bool → ℕ → Desk → Answer
answer_of s top m still speed d =
    record {
      speed = speed;
      lamps = lamps_of (limit_goes m s.limit.last top d) still d;
      cause = d.brake.cause;
      icon = icon_of d.beside.crossing;
      limit = d.beside.limit.on || any_paired d.beside.paired.limits;
    }

-- "Over S + 500 is cause 5 (001 in BTS; house elsewhere)."
abbrev pub speed_cause : ℕ → ℕ → ℕ
speed_cause m speed = pick (exceeds_of m (speed + 500)) 5 0

-- 02 c: "Each sample with code 12 .. outside BTS raises cause 6 as well.": "not only the first" (c2). "The mode after the mode step decides" (c4):
-- it is the sample's
abbrev pub quiet_cause : ℕ → Bool → ℕ
quiet_cause code bts = pick (eqb code quiet_code && not bts) 6 0

-- "lowest number within a sample": of what arose in the steps before, of the speed, and of the pickup
unfoldable pub arose_of : ℕ → ℕ → ℕ → ℕ → Bool → ℕ
arose_of cause m speed code bts = lowest (lowest cause (speed_cause m speed)) (quiet_cause code bts)

-- Speed, then the brake, and the answer as the desk is at the sample's end; 02 f: "which standing limit sets S". 02 b: "Rearm, its lamp and the mode change all use it", standstill.
unfoldable pub judged_of : Settings → ℕ → Input → ℕ → Desk → Stepped
judged_of s top x cause d =
    let turned : Desk = crossing_turned x.m d in
    let speed : ℕ = supervised_of s top turned in
    let arose : ℕ = arose_of cause x.m speed x.beacon x.bts in
    let still : Bool = standstill x.pulses turned.brake in
    let after : Desk = braked arose (still && bit_of x.buttons rearm_button) x.pulses turned in
    record { desk = after; arose = arose; answer = answer_of s top x.m still speed after; named = reason_of s top turned }

unfoldable pub step_of : Card → ℕ → Input → Desk → Stepped
step_of card top x d = judged_of card.settings top x (moved_of card top x d).cause (moved_of card top x d).desk
