-- Document 01, "Controls": the brake and the lamps. Document 02 c): the alarm of a quiet pickup. Document 02 f): how
-- many samples ago the brake came on.
use Rattle.std.specs.Prelude.{ℕ, min, Bool, ◌&&◌, ◌||◌, not, eqb}
use Rattle.std.specs.Int.Bits.{bit_or}
use Rattle.leaf.specs.Choosing.{pick}
use Rattle.leaf.specs.Numbers.{quiet_code}
use Rattle.leaf.specs.Buttons.{crossing_button, limit_button, override_button, increase_button, rearm_button}
use Rattle.signals.specs.Windows.{waits_for}
use Rattle.signals.specs.MainControl.{increase_lit}
use Rattle.signals.specs.Stop.{is_lit}
use Rattle.desk.specs.declared.state.Desk.{Desk}
use Rattle.desk.specs.Brake.{brake_after}
use Rattle.desk.specs.State.{with_brake}

-- "lowest number within a sample"; cause 0 is none
unfoldable pub lowest : ℕ → ℕ → ℕ
lowest a b = pick (eqb a 0) b (pick (eqb b 0) a (min a b))

-- "Any cause puts the brake on; the first stands, lowest number within a sample. It goes off in a standstill sample with rearm, if on before
-- and no cause arises."
unfoldable pub standing_cause : ℕ → ℕ → Bool → ℕ
standing_cause before arose rearm = pick (eqb arose 0) (pick rearm 0 before) (pick (eqb before 0) arose before)

-- 02 f: on before a sample and after it, the brake stays on through it: "later causes do not restart it" (f7)
abbrev pub stays_on : ℕ → ℕ → Bool
stays_on before after = not (eqb before 0) && not (eqb after 0)

-- the brake's step, which every accepted sample passes: the cause that stands after it, 02 b's count with this sample, and 02 f's age
unfoldable pub braked : ℕ → Bool → ℕ → Desk → Desk
braked arose rearm pulses d =
    let cause : ℕ = standing_cause d.brake.cause arose rearm in
    with_brake (brake_after cause (stays_on d.brake.cause cause) pulses d.brake) d

-- "Lamps, bits as buttons:"
abbrev pub lamp_if : Bool → ℕ → ℕ
lamp_if lit weight = pick lit weight 0

-- "what a window waits for, beacon 3's option,"
unfoldable pub window_lamps : Desk → ℕ
window_lamps d =
    bit_or (waits_for d.window.waits d.window.age)
    (bit_or (waits_for d.side.waits d.side.age) (lamp_if d.option.on crossing_button))

-- "override armed or reminded, increase for stop (ages 0..99, till used), .., 10 when braked at standstill."
unfoldable pub control_lamps : Bool → Desk → ℕ
control_lamps still d =
    bit_or (lamp_if (d.armed.armed || is_lit d.reminder.phase) override_button)
    (bit_or (lamp_if (increase_lit d.main) increase_button) (lamp_if (still && not (eqb d.brake.cause 0)) rearm_button))

-- "6 when limit is removable"
unfoldable pub button_lamps : Bool → Bool → Desk → ℕ
button_lamps removable still d = bit_or (window_lamps d) (bit_or (lamp_if removable limit_button) (control_lamps still d))

-- 02 c: "Each sample with code 12 lights lamp bit 11, the alarm", "in both modes" (c3): by the desk's code at the sample's end, which is the
-- sample's own. "No button 11" (c7): it is a lamp alone
abbrev pub alarm_lamp : ℕ
alarm_lamp = 2048

unfoldable pub lamps_of : Bool → Bool → Desk → ℕ
lamps_of removable still d = bit_or (lamp_if (eqb d.code quiet_code) alarm_lamp) (button_lamps removable still d)
