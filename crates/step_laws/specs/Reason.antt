-- Document 02 f), "Why is it forty?": "The reason must be the true one: the named limit stands, equals S, and no limit earlier in the order does."
-- Each limit is written down here in plain facts of settings, T and desk, with its place in 02's order, without the list of which S is the least.
use Rattle.std.specs.Prelude.{ℕ, ◌*◌, ◌<◌, ◌≡◌, true}
use mathlib.Core.List.{Memᴰ}
use Rattle.card.specs.declared.Settings.{Settings}
use Rattle.curve.specs.Curve.{row_speed}
use Rattle.signals.specs.declared.control.MainKind.TheVariants.{Clear}
use Rattle.signals.specs.Stop.{stop_speed}
use Rattle.sides.specs.declared.crossing.CrossingKind.TheVariants.{Absent}
use Rattle.sides.specs.Crossing.{crossing_speed}
use Rattle.sides.specs.Limit.{limit_speed}
use Rattle.sides.specs.Pairs.{paired_speed, paired_at, pair_speeds}
use Rattle.desk.specs.declared.state.Desk.{Desk}
use Rattle.step.specs.declared.speed.Reason.{Reason}
use Rattle.step.specs.declared.speed.Reason.TheVariants as reason
use Rattle.step.specs.Speed.{main_speed, supervised_of}
use Rattle.step.specs.Reason.{reason_of}

-- the place of each in the order; its number is 7 where that is 7 or more (`reason_number`)
abbrev pub reason_place : Reason → ℕ
reason_place reason.None = 0
reason_place reason.Vmax = 1
reason_place reason.Train = 2
reason_place reason.Bts = 3
reason_place reason.Main = 4
reason_place reason.Alongside = 5
reason_place reason.Crossing = 6
reason_place reason.Limit = 7
reason_place reason.Paired = 8

module _ (s : Settings) (top : ℕ) (d : Desk) where
  -- a limit stands: its place "in the order vmax, T, BTS speed, main, stop staying alongside, crossing, limit", its value, "and age (0 for the first
  -- three)". "3 stands in BTS only, 4 .. [not] under clear" (f2). "Main's age is its row's" (f3); "Alongside has its own age" (f4); the ages of
  -- crossing and limit are their own (f5, f6)
  pub data Limits : ℕ → ℕ → ℕ → Type 0 where
    vmax : Limits 1 (s.vmax * 100) 0
    train : Limits 2 top 0
    bts : d.bts ≡ true → Limits 3 (s.bts * 100) 0
    main : (d.main.kind ≡ Clear → ⊥) → Limits 4 (main_speed d.main.kind d.main s top) d.main.age
    alongside : d.beside.alongside.on ≡ true → Limits 5 (stop_speed d.beside.alongside.increased top) d.beside.alongside.age
    crossing : (d.beside.crossing.kind ≡ Absent → ⊥)
        → Limits 6 (crossing_speed d.beside.crossing.kind (row_speed s.crossing d.beside.crossing.age) top) d.beside.crossing.age
    limit : d.beside.limit.on ≡ true
        → Limits 7 (limit_speed (row_speed s.limit d.beside.limit.age) s.limit.last top d.beside.limit) d.beside.limit.age
    -- 02 g: one of the paired limits, which "count as limit in .. f), where of equal ones the single is named": behind it
    paired : (speed : ℕ) → Memᴰ speed pair_speeds → (paired_at speed d.beside.paired.limits).on ≡ true
        → Limits 8 (paired_speed top speed) (paired_at speed d.beside.paired.limits).age

  -- a place and an age are those of the reason for this speed: that limit stands and equals it, "and no limit earlier in the order does"
  pub record Names (speed place age : ℕ) : Type 0 where
    pub stands : Limits place speed age
    pub no_earlier : (n a : ℕ) → n < place → Limits n speed a → ⊥

  pub record ReasonLaws : Type 0 where
    -- "The value is S." (f1)
    pub value : (reason_of s top d).speed ≡ supervised_of s top d
    -- place and age are those of the reason for S,
    pub true_one : Names (supervised_of s top d) (reason_place (reason_of s top d).reason) (reason_of s top d).age
    -- and no speed has two reasons
    pub only_one : (speed n a m b : ℕ) → Names speed n a → Names speed m b → (n ≡ m) × (a ≡ b)
