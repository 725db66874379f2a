-- Document 01, "The sample": ".. buttons, lowest bit first; ..". "Buttons: 0 announcement, 1 preannouncement, 2 caution, 3 conditional clear,
-- 4 before-stop, 5 crossing, 6 limit, 7 override, 8 increase, 9 hide, 10 rearm." Bit k has weight 2 to the k.
use Rattle.std.specs.Prelude.{ℕ, Bool, true, false, ◌&&◌, ◌||◌, not, eqb, ltb}
use Rattle.leaf.specs.Choosing.{pick}
use Rattle.leaf.specs.Numbers.{bit_of}
use Rattle.leaf.specs.Buttons.{announcement_button, preannouncement_button, caution_button, conditional_clear_button, before_stop_button, crossing_button, limit_button, override_button, increase_button, hide_button}
use Rattle.card.specs.declared.Row.{Row}
use Rattle.signals.specs.declared.window.Window.{Window}
use Rattle.signals.specs.declared.control.MainKind.TheVariants.{Announcement, Preannouncement, Caution}
use Rattle.signals.specs.Windows.{closed, answers_of, asks_of}
use Rattle.signals.specs.MainControl.{may_increase, increased}
use Rattle.signals.specs.Stop.{armed_now, is_lit, takes_press, pressed_of}
use Rattle.sides.specs.Crossing.{no_option, protected_set}
use Rattle.sides.specs.Limit.{no_limit, stepped_final, may_step, stepped, hidden, removable}
use Rattle.sides.specs.Pairs.{no_paired, four_with, paired_speed, lowest_to_go}
use Rattle.desk.specs.declared.state.Desk.{Desk}
use Rattle.desk.specs.State.{with_main, with_window, with_side, with_armed, with_reminder, with_crossing, with_option, with_limit, with_paired, taken_over, crossing_set, limit_now}
use Rattle.curve.specs.Curve.{row_speed}

-- ---- what an answer sets

-- "Beacon 1 waits for button 0, 1, 2 (rows 1, 2, 3), 5 (unprotected crossing) or 6 (limit). Beacon 9 waits for 5 or 6": what the button
-- of this weight sets, with the reading's age and distance
unfoldable pub chosen : ℕ → ℕ → ℕ → Desk → Desk
chosen weight age distance d =
    pick (eqb weight announcement_button) (taken_over Announcement age distance d)
    (pick (eqb weight preannouncement_button) (taken_over Preannouncement age distance d)
    (pick (eqb weight caution_button) (taken_over Caution age distance d)
    (pick (eqb weight crossing_button) (crossing_set age distance d) (pick (eqb weight limit_button) (limit_now true age d) d))))

-- beacons 1 and 9 set what the button chooses; the others set theirs at the reading, and an answer only closes their window
unfoldable pub answered_by : ℕ → Window → Desk → Desk
answered_by weight w d = pick (asks_of w.waits) (chosen weight w.age w.distance d) d

unfoldable pub main_answered : Bool → ℕ → Desk → Desk
main_answered true weight d = with_window closed (answered_by weight d.window d)
main_answered false weight d = d

unfoldable pub side_answered : Bool → ℕ → Desk → Desk
side_answered true weight d = with_side closed (answered_by weight d.side d)
side_answered false weight d = d

-- ---- "A press serves one use: main, then side, then others."

unfoldable pub pressed : Bool → ℕ → Desk → Desk
pressed on weight d =
    side_answered (on && not (answers_of d.window weight) && answers_of d.side weight) weight
    (main_answered (on && answers_of d.window weight) weight d)

-- a press that no window takes
unfoldable pub free_for : Bool → ℕ → Desk → Bool
free_for on weight d = on && not (answers_of d.window weight) && not (answers_of d.side weight)

-- ---- the other uses

-- "beacon 3 answered by 5 .. sets protected", with the age and distance of the 3, its icon at once; the option is used up
unfoldable pub option_used : Bool → Desk → Desk
option_used true d = with_option no_option (with_crossing (protected_set d.option.age d.option.distance true d.beside.crossing) d)
option_used false d = d

-- "Button 6 removes it"
unfoldable pub limit_removed : Bool → Desk → Desk
limit_removed true d = with_limit no_limit d
limit_removed false d = d

-- 02 g: "The limit button takes off the lowest that may go (paired first).": the paired one of this speed, none where it is 0
unfoldable pub paired_removed : ℕ → Desk → Desk
paired_removed speed d =
    pick (eqb speed 0) d
    (with_paired (record { first = d.beside.paired.first; limits = four_with speed no_paired d.beside.paired.limits }) d)

-- the single one goes where it may, and no paired one that may go is as low: "of those that may go the lowest by final value (the single's with
-- steps)" (g23); ""Paired first" is among equal values only" (g24). The speed is that of the lowest paired one that may go, 0 where none may
abbrev pub single_first : ℕ → Row → ℕ → ℕ → Desk → Bool
single_first m row top speed d =
    removable m row.last top d.beside.limit
    && (eqb speed 0 || ltb (stepped_final row.last d.beside.limit.steps top) (paired_speed top speed))

-- "Button 6, if no window takes it, takes off one" (g23)
unfoldable pub lowest_removed : Bool → ℕ → Row → ℕ → Desk → Desk
lowest_removed true m row top d =
    let speed : ℕ = lowest_to_go m top d.beside.paired.limits in
    pick (single_first m row top speed d) (limit_removed true d) (paired_removed speed d)
lowest_removed false m row top d = d

-- the reminder's "press at ages 1..49"
unfoldable pub reminder_answered : Bool → Desk → Desk
reminder_answered true d = with_reminder (pressed_of d.reminder.phase) d
reminder_answered false d = d

-- "Override arms for ages 0..99, each press anew"
unfoldable pub override_armed : Bool → Desk → Desk
override_armed true d = with_armed armed_now d
override_armed false d = d

-- "Increase, once, .. makes it min(T, 100)."
unfoldable pub stop_increased : Bool → Desk → Desk
stop_increased true d = with_main (increased d.main) d
stop_increased false d = d

-- "increase (if stop has no use for it) adds a 20 km/h step"
unfoldable pub limit_stepped : Bool → Desk → Desk
limit_stepped true d = with_limit (stepped d.beside.limit) d
limit_stepped false d = d

-- ---- each button in its turn

-- 5 crossing: the windows, then beacon 3's option
unfoldable pub crossing_pressed : Bool → Desk → Desk
crossing_pressed on d = option_used (free_for on crossing_button d && d.option.on) (pressed on crossing_button d)

-- 6 limit: the windows, then the lowest limit that may go
unfoldable pub limit_pressed : Bool → ℕ → Row → ℕ → Desk → Desk
limit_pressed on m row top d = lowest_removed (free_for on limit_button d) m row top (pressed on limit_button d)

-- 7 override: "A press while lit doesn't arm." "Override is dead", in BTS
unfoldable pub override_pressed : Bool → Desk → Desk
override_pressed on d =
    override_armed (on && not d.bts && not (is_lit d.reminder.phase))
    (reminder_answered (on && not d.bts && takes_press d.reminder) d)

-- 8 increase: stop, where it has use for it, else the limit; whether the card has pairs decides which limits step (02 g)
unfoldable pub increase_pressed : Bool → Bool → Row → ℕ → Desk → Desk
increase_pressed on pairs row top d =
    limit_stepped (on && not (may_increase d.main) && may_step pairs (row_speed row d.beside.limit.age) row.last top d.beside.limit)
    (stop_increased (on && may_increase d.main) d)

-- 9 hide
unfoldable pub hide_pressed : Bool → Desk → Desk
hide_pressed true d = with_limit (hidden d.beside.limit) d
hide_pressed false d = d

-- the button's press, where it is among those of the mask b
abbrev pub pressed_among : ℕ → ℕ → Desk → Desk
pressed_among b button d = pressed (bit_of b button) button d

-- 0 to 4: only windows have use for them
unfoldable pub window_presses : ℕ → Desk → Desk
window_presses b d =
    pressed_among b before_stop_button
    (pressed_among b conditional_clear_button
    (pressed_among b caution_button (pressed_among b preannouncement_button (pressed_among b announcement_button d))))

-- "lowest bit first"; 10, rearm, belongs to the brake
unfoldable pub all_presses : ℕ → ℕ → Bool → Row → ℕ → Desk → Desk
all_presses b m pairs row top d =
    hide_pressed (bit_of b hide_button)
    (increase_pressed (bit_of b increase_button) pairs row top
    (override_pressed (bit_of b override_button)
    (limit_pressed (bit_of b limit_button) m row top (crossing_pressed (bit_of b crossing_button) (window_presses b d)))))

-- the buttons' step: a sample without a press leaves the desk as it is
unfoldable pub presses_of : ℕ → ℕ → Bool → Row → ℕ → Desk → Desk
presses_of b m pairs row top d = pick (eqb b 0) d (all_presses b m pairs row top d)
