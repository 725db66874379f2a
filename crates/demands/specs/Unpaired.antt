-- The sample as it was before document 02 g: documents 01 and 02 b, c and f with single limits alone, the card's version unknown to it. It stands here
-- so that what cards of version 1 and 2 answer is said against it. What did not change is cited; what did is written as it was.
use Rattle.leaf.specs.Answers.{numbered_refusal}
use Rattle.std.specs.Prelude.{ℕ, ◌*◌, Bool, false, ◌&&◌, not, List, [], ◌∷◌, leb, ltb, eqb, Err}
use Rattle.leaf.specs.Choosing.{pick}
use Rattle.leaf.specs.Numbers.{bit_of}
use Rattle.leaf.specs.Buttons.{crossing_button, limit_button, override_button, increase_button, hide_button, rearm_button}
use Rattle.card.specs.declared.Row.{Row}
use Rattle.card.specs.declared.Settings.{Settings}
use Rattle.card.specs.Card.{protects, zones, reminds, reads_in_bts_bit}
use Rattle.curve.specs.Curve.{row_speed}
use Rattle.signals.specs.declared.window.Waits.TheVariants as waits
use Rattle.signals.specs.declared.control.MainKind.TheVariants as main
use Rattle.signals.specs.MainControl.{may_increase}
use Rattle.sides.specs.declared.limit.Limit.{Limit}
use Rattle.sides.specs.Crossing.{icon_of}
use Rattle.sides.specs.Limit.{highest, stepped_final, removable}
use Rattle.desk.specs.declared.state.Desk.{Desk}
use Rattle.desk.specs.declared.clock.Turn.{Turn}
use Rattle.desk.specs.Brake.{standstill}
use Rattle.desk.specs.State.{with_code, limit_now}
use Rattle.desk.specs.Clock.{side_counts, begun}
use Rattle.buttons.specs.Buttons.{pressed, free_for, limit_removed, stop_increased, limit_stepped, crossing_pressed, override_pressed, hide_pressed, window_presses}
use Rattle.beacons.specs.Beacons.{reads_of, side_opened, reading1, reading_row, reading3, reading4, reading7, reading8, reading9}
use Rattle.step.specs.declared.Input.{Input}
use Rattle.step.specs.declared.Answer.{Answer}
use Rattle.step.specs.declared.Stepped.{Stepped}
use Rattle.step.specs.declared.speed.Reason.TheVariants as reason
use Rattle.step.specs.declared.speed.Standing.{Standing}
use Rattle.step.specs.Speed.{crossing_turned, none, always_at, bts_limit, main_limit, alongside_limit, crossing_limit, limit_limit, least_of}
use Rattle.step.specs.Reason.{first_at}
use Rattle.step.specs.Brake.{lowest, braked, lamps_of}
use Rattle.step.specs.Step.{arose_of}
use Rattle.session.specs.declared.Sample.{Sample}
use Rattle.session.specs.declared.Session.{Session}
use Rattle.session.specs.Session.{Outcome}
use Rattle.session.specs.declared.Sampled.{Sampled}
use Rattle.session.specs.Types.{type_speed}
use Rattle.session.specs.Session.{refused_by, carried, sampled_as}

-- ---- buttons

-- "Button 6 removes it when speed is below its final value, steps included."
unfoldable pub limit_pressed01 : Bool → ℕ → Row → ℕ → Desk → Desk
limit_pressed01 on m row top d = limit_removed (free_for on limit_button d && removable m row.last top d.beside.limit) (pressed on limit_button d)

-- "At its final value, increase (if stop has no use for it) adds a 20 km/h step, up to min(T, 160); at or over that a press adds none;"
unfoldable pub may_step01 : ℕ → ℕ → ℕ → Limit → Bool
may_step01 row last top l = l.on && leb row (last * 100) && ltb (stepped_final last l.steps top) (highest top)

unfoldable pub increase_pressed01 : Bool → Row → ℕ → Desk → Desk
increase_pressed01 on row top d =
    limit_stepped (on && not (may_increase d.main) && may_step01 (row_speed row d.beside.limit.age) row.last top d.beside.limit)
    (stop_increased (on && may_increase d.main) d)

unfoldable pub presses_of01 : ℕ → ℕ → Row → ℕ → Desk → Desk
presses_of01 b m row top d =
    pick (eqb b 0) d
    (hide_pressed (bit_of b hide_button)
    (increase_pressed01 (bit_of b increase_button) row top
    (override_pressed (bit_of b override_button)
    (limit_pressed01 (bit_of b limit_button) m row top (crossing_pressed (bit_of b crossing_button) (window_presses b d))))))

-- ---- the beacon

-- "10 and 11 set limit at once and wait for 6."
unfoldable pub reading_limit01 : Desk → Desk
reading_limit01 d = side_opened waits.Limit (limit_now false 0 (side_counts d))

unfoldable pub reading_of01 : ℕ → Bool → Bool → Desk → Desk
reading_of01 code protects zones d =
    pick (eqb code 1) (reading1 d)
    (pick (eqb code 2) (reading_row main.ConditionalClear waits.Two d)
    (pick (eqb code 3) (reading3 protects d)
    (pick (eqb code 4) (reading4 protects d)
    (pick (eqb code 5) (reading_row main.Preannouncement waits.Five d)
    (pick (eqb code 6) (reading_row main.Caution waits.Six d)
    (pick (eqb code 7) (reading7 zones d)
    (pick (eqb code 8) (reading8 d) (pick (eqb code 9) (reading9 d) (reading_limit01 d)))))))))

unfoldable pub beacon_taken01 : ℕ → Bool → Bool → Bool → Desk → Turn
beacon_taken01 code protects zones reads_in_bts_bit d =
    let reads : Bool = reads_of code reads_in_bts_bit d.bts d.code in
    record {
      desk = pick reads (reading_of01 code protects zones (with_code code d)) (with_code code d);
      cause = pick (reads && eqb code 8 && not d.armed.armed) 4 0;
    }

unfoldable pub moved_of01 : Settings → ℕ → Input → Desk → Turn
moved_of01 s top x d =
    let first : Turn = begun x.bts x.m (reminds s.functions) s.x s.y d in
    let pressed : Desk = presses_of01 x.buttons x.m s.limit top first.desk in
    let read : Turn = beacon_taken01 x.beacon (protects s.functions) (zones s.functions) (reads_in_bts_bit s.functions) pressed in
    record { desk = read.desk; cause = lowest first.cause read.cause }

-- ---- speed, brake and answer

-- vmax, T, BTS speed, main, stop alongside, crossing, limit
abbrev pub limits01 : Settings → ℕ → Desk → List Standing
limits01 s top d =
    always_at reason.Vmax (s.vmax * 100) ∷ always_at reason.Train top ∷ bts_limit d.bts s.bts ∷ main_limit s top d.main
    ∷ alongside_limit top d.beside.alongside ∷ crossing_limit s.crossing top d.beside.crossing ∷ limit_limit s.limit top d.beside.limit ∷ []

unfoldable pub supervised01 : Settings → ℕ → Desk → ℕ
supervised01 s top d = (least_of none (limits01 s top d)).speed

unfoldable pub answer_of01 : Settings → ℕ → ℕ → Bool → ℕ → Desk → Answer
answer_of01 s top m still speed d =
    record {
      speed = speed;
      lamps = lamps_of (removable m s.limit.last top d.beside.limit) still d;
      cause = d.brake.cause;
      icon = icon_of d.beside.crossing;
      limit = d.beside.limit.on;
    }

unfoldable pub judged_of01 : Settings → ℕ → Input → ℕ → Desk → Stepped
judged_of01 s top x cause d =
    let turned : Desk = crossing_turned x.m d in
    let speed : ℕ = supervised01 s top turned in
    let arose : ℕ = arose_of cause x.m speed x.beacon x.bts in
    let still : Bool = standstill x.pulses turned.brake in
    let after : Desk = braked arose (still && bit_of x.buttons rearm_button) x.pulses turned in
    record { desk = after; arose = arose; answer = answer_of01 s top x.m still speed after; named = first_at speed (limits01 s top turned) }

unfoldable pub step_of01 : Settings → ℕ → Input → Desk → Stepped
step_of01 s top x d = judged_of01 s top x (moved_of01 s top x d).cause (moved_of01 s top x d).desk

-- ---- a session and a list of samples

unfoldable pub sample_of01 : Session → Sample → Sampled
sample_of01 s x =
    pick (eqb (refused_by s x) 0) (sampled_as s (step_of01 s.card.settings (type_speed s.train * 100) (carried s x) s.desk))
    (record { session = s; outcome = Err (numbered_refusal (refused_by s x)) })

unfoldable pub outcomes01 : Session → List Sample → List Outcome
outcomes01 s [] = []
outcomes01 s (x ∷ xs) = (sample_of01 s x).outcome ∷ outcomes01 (sample_of01 s x).session xs
