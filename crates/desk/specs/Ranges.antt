-- Document 01, "The sample": "Ages count samples from the sample that starts them (age 0) and stop at 30,000; distances stop at 60,000,000.
-- These, steps 0..8, mode, cause, code .. in range, .., are the session's ranges": those of the desk.
-- What is no number, a mode or a kind, has no bad values.
use Rattle.std.specs.Prelude.{Bool, ◌&&◌, leb}
use Rattle.leaf.specs.Numbers.{age_top, distance_top, code_top, cause_top}
use Rattle.signals.specs.declared.window.Window.{Window}
use Rattle.signals.specs.declared.control.Main.{Main}
use Rattle.signals.specs.declared.stop.Alongside.{Alongside}
use Rattle.signals.specs.declared.stop.Override.{Override}
use Rattle.signals.specs.declared.stop.Reminder.{Reminder}
use Rattle.sides.specs.declared.crossing.Crossing.{Crossing}
use Rattle.sides.specs.declared.crossing.CrossingOption.{CrossingOption}
use Rattle.sides.specs.declared.limit.Limit.{Limit}
use Rattle.sides.specs.declared.pairs.FourLimits.{FourLimits}
use Rattle.sides.specs.declared.pairs.Paired.{Paired}
use Rattle.sides.specs.Limit.{steps_top}
use Rattle.desk.specs.declared.brake.Brake.{Brake}
use Rattle.desk.specs.declared.beside.Beside.{Beside}
use Rattle.desk.specs.declared.state.Desk.{Desk}

-- 02 b: "The session gains a count", "range 0..30,000" (b5); 02 f: "The session gains the age of the brake", "range 0..30,000" (f8)
abbrev pub brake_inside : Brake → Bool
brake_inside b = leb b.cause cause_top && leb b.stood age_top && leb b.age age_top

abbrev pub main_inside : Main → Bool
main_inside c = leb c.age age_top && leb c.distance distance_top

-- the time to a miss is a count of samples
abbrev pub window_inside : Window → Bool
window_inside w = leb w.left age_top && leb w.age age_top && leb w.distance distance_top

abbrev pub override_inside : Override → Bool
override_inside o = leb o.age age_top

abbrev pub reminder_inside : Reminder → Bool
reminder_inside r = leb r.age age_top && leb r.fast age_top && leb r.distance distance_top

abbrev pub option_inside : CrossingOption → Bool
option_inside o = leb o.age age_top && leb o.distance distance_top

-- ---- beside the main control

abbrev pub alongside_inside : Alongside → Bool
alongside_inside a = leb a.age age_top

abbrev pub crossing_inside : Crossing → Bool
crossing_inside c = leb c.age age_top && leb c.distance distance_top

-- "steps 0..8"
abbrev pub limit_inside : Limit → Bool
limit_inside l = leb l.age age_top && leb l.steps steps_top

-- 02 g: "Ranges: paired ages, the first's distance." (g29)
abbrev pub four_inside : FourLimits → Bool
four_inside p = leb p.thirty.age age_top && leb p.forty.age age_top && leb p.fifty.age age_top && leb p.seventy.age age_top

abbrev pub paired_inside : Paired → Bool
paired_inside p = leb p.first.distance distance_top && four_inside p.limits

unfoldable pub beside_inside : Beside → Bool
beside_inside b = alongside_inside b.alongside && crossing_inside b.crossing && limit_inside b.limit && paired_inside b.paired

-- ---- the desk

unfoldable pub desk_inside : Desk → Bool
desk_inside d =
    leb d.code code_top && brake_inside d.brake && main_inside d.main && window_inside d.window && window_inside d.side
    && override_inside d.armed && reminder_inside d.reminder && option_inside d.option && beside_inside d.beside
