-- Document 01, "Controls": "Supervised speed S, hundredths of km/h, is the least of vmax, T and standing controls; in BTS also BTS speed."
-- Document 02 g): paired limits "count as limit in S".
use Rattle.std.specs.Prelude.{ℕ, ◌*◌, Bool, true, false, ◌&&◌, ◌||◌, not, List, [], ◌∷◌, ltb}
use Rattle.leaf.specs.Choosing.{pick}
use Rattle.card.specs.declared.Row.{Row}
use Rattle.card.specs.declared.Settings.{Settings}
use Rattle.signals.specs.declared.control.MainKind.{MainKind}
use Rattle.signals.specs.declared.control.MainKind.TheVariants.{Clear, Start, ConditionalClear, Announcement, Preannouncement, Caution, BeforeStop, Stop, Zone}
use Rattle.signals.specs.declared.control.Main.{Main}
use Rattle.signals.specs.declared.stop.Alongside.{Alongside}
use Rattle.signals.specs.MainControl.{limits_of}
use Rattle.signals.specs.Stop.{stop_speed}
use Rattle.sides.specs.declared.crossing.Crossing.{Crossing}
use Rattle.sides.specs.declared.limit.Limit.{Limit}
use Rattle.sides.specs.declared.pairs.FourLimits.{FourLimits}
use Rattle.sides.specs.Crossing.{stands, crossing_speed, turned_at}
use Rattle.sides.specs.Limit.{limit_speed}
use Rattle.sides.specs.Pairs.{paired_speed, paired_at, pair_speeds}
use Rattle.desk.specs.declared.beside.Beside.{Beside}
use Rattle.desk.specs.declared.state.Desk.{Desk}
use Rattle.desk.specs.State.{with_crossing}
use Rattle.curve.specs.Curve.{row_speed}
use Rattle.step.specs.declared.speed.Reason.{Reason}
use Rattle.step.specs.declared.speed.Reason.TheVariants as reason
use Rattle.step.specs.declared.speed.Standing.{Standing}

-- the crossing's turn, in the speed step, before S is taken
unfoldable pub crossing_turned : ℕ → Desk → Desk
crossing_turned m d = with_crossing (turned_at m d.beside.crossing) d

-- what the main control allows: "Rows 0..7: conditional clear, stop announcement, preannouncement, caution, before-stop, .., start"; "8 sets
-- stop: 40 km/h"; the zone "sets 10 km/h"; clear is no limit
unfoldable pub main_speed : MainKind → Main → Settings → ℕ → ℕ
main_speed Clear c s top = top
main_speed Start c s top = row_speed s.start c.age
main_speed ConditionalClear c s top = row_speed s.conditional_clear c.age
main_speed Announcement c s top = row_speed s.announcement c.age
main_speed Preannouncement c s top = row_speed s.preannouncement c.age
main_speed Caution c s top = row_speed s.caution c.age
main_speed BeforeStop c s top = row_speed s.before_stop c.age
main_speed Stop c s top = stop_speed c.increased top
main_speed Zone c s top = 1000

-- ---- a limit: which one it is, whether it stands, hundredths of km/h, and its age

-- one that does not stand
abbrev pub none : Standing
none = record { reason = reason.None; stands = false; speed = 0; age = 0 }

-- a limit of this speed and age, where it stands
abbrev pub standing : Reason → Bool → ℕ → ℕ → Standing
standing why on speed age = pick on (record { reason = why; stands = true; speed = speed; age = age }) none

-- vmax and T always stand, BTS speed in BTS; they have no age
abbrev pub always_at : Reason → ℕ → Standing
always_at why speed = standing why true speed 0

unfoldable pub bts_limit : Bool → ℕ → Standing
bts_limit bts speed = standing reason.Bts bts (speed * 100) 0

unfoldable pub main_limit : Settings → ℕ → Main → Standing
main_limit s top c = standing reason.Main (limits_of c.kind) (main_speed c.kind c s top) c.age

-- the stop that stays alongside
unfoldable pub alongside_limit : ℕ → Alongside → Standing
alongside_limit top a = standing reason.Alongside a.on (stop_speed a.increased top) a.age

-- row 5, or protected
unfoldable pub crossing_limit : Row → ℕ → Crossing → Standing
crossing_limit row top c = standing reason.Crossing (stands c.kind) (crossing_speed c.kind (row_speed row c.age) top) c.age

-- row 6, with its steps
unfoldable pub limit_limit : Row → ℕ → Limit → Standing
limit_limit row top l = standing reason.Limit l.on (limit_speed (row_speed row l.age) row.last top l) l.age

-- 02 g: the paired limit of a speed, "min(T, its speed), aged from the second beacon that last set it"
unfoldable pub paired_limit : ℕ → FourLimits → ℕ → Standing
paired_limit top p speed = standing reason.Paired (paired_at speed p).on (paired_speed top speed) (paired_at speed p).age

abbrev pub paired_limits : ℕ → FourLimits → List ℕ → List Standing
paired_limits top p [] = []
paired_limits top p (speed ∷ rest) = paired_limit top p speed ∷ paired_limits top p rest

-- ---- all of them, in their order: vmax, T, BTS speed, main, stop alongside, crossing, limit; 02 g: the paired ones "count as limit in S", and
-- "of equal ones the single is named", so they come behind it

abbrev pub limits_beside : Settings → ℕ → Beside → List Standing
limits_beside s top b =
    alongside_limit top b.alongside ∷ crossing_limit s.crossing top b.crossing ∷ limit_limit s.limit top b.limit
    ∷ paired_limits top b.paired.limits pair_speeds

abbrev pub limits : Settings → ℕ → Desk → List Standing
limits s top d =
    always_at reason.Vmax (s.vmax * 100) ∷ always_at reason.Train top ∷ bts_limit d.bts s.bts ∷ main_limit s top d.main ∷ limits_beside s top d.beside

-- ---- "the least"

-- the lower of two, of equal ones the first; one that does not stand does not count
unfoldable pub lower : Standing → Standing → Standing
lower a b = pick (b.stands && (not a.stands || ltb b.speed a.speed)) b a

-- the lowest of what was found so far and of the list
abbrev pub least_of : Standing → List Standing → Standing
least_of so_far [] = so_far
least_of so_far (l ∷ rest) = least_of (lower so_far l) rest

unfoldable pub supervised_of : Settings → ℕ → Desk → ℕ
supervised_of s top d = (least_of none (limits s top d)).speed
