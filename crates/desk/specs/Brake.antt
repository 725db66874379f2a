-- Document 01, "Controls": the brake. "Any cause puts the brake on; the first stands, .." Document 02 b), "Crawling is not standing": the
-- session's count of samples without pulses, and standstill. Document 02 f), "Why is it forty?": the age of the brake.
use Rattle.std.specs.Prelude.{ℕ, Bool, ◌&&◌, leb, eqb}
use Rattle.leaf.specs.Choosing.{pick}
use Rattle.leaf.specs.Numbers.{aged_of}
use Rattle.desk.specs.declared.brake.Brake.{Brake}

-- ---- 02 b: "Document 01 is wrong: standstill is ten accepted samples running without pulses, this one included; a newly opened session counts
-- as standing." It goes over document 01's "Standstill is a sample without pulses."

-- "ten"
abbrev pub standing_time : ℕ
standing_time = 10

-- "The session gains a count." "An accepted sample with pulses makes the count 0." (b1) "The count stops at 30,000" (b5)
unfoldable pub stood_after : ℕ → ℕ → ℕ
stood_after pulses stood = pick (eqb pulses 0) (aged_of stood) 0

-- "Standstill: no pulses, and the count with this sample is 10 or more." (b1)
unfoldable pub standstill : ℕ → Brake → Bool
standstill pulses b = eqb pulses 0 && leb standing_time (stood_after pulses b.stood)

-- ---- the brake

-- 02 f: "how many samples ago the brake came on"; "The session gains the age of the brake, stopping at 30,000." After a sample through which the
-- brake stays on it "advances with the others", else it "is 0 when the brake comes on and at the rearm" (f8), and while it is off
unfoldable pub brake_age : Bool → ℕ → ℕ
brake_age stays age = pick stays (aged_of age) 0

-- "cause (0 none)": the brake is off. "It opens at 10, so a desk that never moved stands" (b2)
abbrev pub opening_brake : Brake
opening_brake = record { cause = 0; stood = standing_time; age = 0 }

-- after a sample: the cause that stands then, the count with this sample, and the age of the brake
abbrev pub brake_after : ℕ → Bool → ℕ → Brake → Brake
brake_after cause stays pulses b = record { cause = cause; stood = stood_after pulses b.stood; age = brake_age stays b.age }
