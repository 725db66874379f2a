-- Document 02 c), "When the pickup goes quiet": "Each sample with code 12 lights lamp bit 11, the alarm, and outside BTS raises cause 6 as well.
-- Code 12 is no beacon, yet the code after it counts as changed." Of every sample of every desk. The sample as it was before 02 c stands here
-- too, so that what the alarm adds is said against it.
use Rattle.std.specs.Prelude.{ℕ, ◌^◌, ◌≤◌, ◌≡◌, Bool, true, false, ◌&&◌, ◌||◌, not, ◌↔◌}
use Rattle.leaf.specs.Numbers.{bit_of}
use Rattle.leaf.specs.Buttons.{rearm_button}
use Rattle.card.specs.declared.Settings.{Settings}
use Rattle.card.specs.declared.Card.{Card}
use Rattle.card.specs.Card.{reminds, reads_in_bts_bit}
use Rattle.sides.specs.Crossing.{icon_of}
use Rattle.sides.specs.Pairs.{any_paired}
use Rattle.desk.specs.declared.brake.Brake.{Brake}
use Rattle.desk.specs.declared.state.Desk.{Desk}
use Rattle.desk.specs.Brake.{standstill}
use Rattle.desk.specs.State.{with_brake, with_code}
use Rattle.desk.specs.Clock.{begun}
use Rattle.beacons.specs.Beacons.{is_side}
use Rattle.step.specs.declared.Input.{Input}
use Rattle.step.specs.declared.Answer.{Answer}
use Rattle.step.specs.declared.Stepped.{Stepped}
use Rattle.step.specs.Speed.{crossing_turned, supervised_of}
use Rattle.step.specs.Reason.{reason_of}
use Rattle.step.specs.Brake.{lowest, braked, button_lamps}
use Rattle.step.specs.Step.{limit_goes, moved_of, speed_cause, step_of}
use Rattle.step_laws.specs.Walk.{at_beacon}
use Rattle.step_laws.specs.Unanswered.{reads}

-- ---- the sample before 02 c: no alarm among the lamps, and no cause behind the speed's

unfoldable pub answer_before : Settings → ℕ → ℕ → Bool → ℕ → Desk → Answer
answer_before s top m still speed d =
    record {
      speed = speed;
      lamps = button_lamps (limit_goes m s.limit.last top d) still d;
      cause = d.brake.cause;
      icon = icon_of d.beside.crossing;
      limit = d.beside.limit.on || any_paired d.beside.paired.limits;
    }

unfoldable pub judged_before : Settings → ℕ → Input → ℕ → Desk → Stepped
judged_before s top x cause d =
    let turned : Desk = crossing_turned x.m d in
    let speed : ℕ = supervised_of s top turned in
    let arose : ℕ = lowest cause (speed_cause x.m speed) in
    let still : Bool = standstill x.pulses turned.brake in
    let after : Desk = braked arose (still && bit_of x.buttons rearm_button) x.pulses turned in
    record { desk = after; arose = arose; answer = answer_before s top x.m still speed after; named = reason_of s top turned }

unfoldable pub step_before : Card → ℕ → Input → Desk → Stepped
step_before card top x d = judged_before card.settings top x (moved_of card top x d).cause (moved_of card top x d).desk

-- ---- the laws

-- the sample with another code
abbrev pub with_beacon : ℕ → Input → Input
with_beacon code x = record { m = x.m; pulses = x.pulses; beacon = code; buttons = x.buttons; bts = x.bts }

module _ (card : Card) (top : ℕ) (x : Input) (d : Desk) where
  pub record QuietLaws : Type 0 where
    -- "Each sample with code 12 lights lamp bit 11, the alarm": and no other does
    pub lamp_11 : (bit_of (step_of card top x d).answer.lamps 2048 ≡ true) ↔ (x.beacon ≡ 12)
    -- "and outside BTS raises cause 6 as well": it is behind what arises without it, "lowest number within a sample"
    pub before_high : (step_before card top x d).arose ≤ 5
    pub raised : x.beacon ≡ 12 → x.bts ≡ false → (step_before card top x d).arose ≡ 0 → (step_of card top x d).arose ≡ 6
    pub behind : ((step_before card top x d).arose ≡ 0 → ⊥) → (step_of card top x d).arose ≡ (step_before card top x d).arose
    pub not_raised : (x.beacon ≡ 12 → x.bts ≡ false → ⊥) → (step_of card top x d).arose ≡ (step_before card top x d).arose
    -- "Code 12 is no beacon": it is not read, the beacon's step leaves the desk that it finds, but for the last code, and what arose
    pub unread : x.beacon ≡ 12 → reads card x d ≡ false
    pub nothing_taken : x.beacon ≡ 12 → (moved_of card top x d).desk ≡ with_code 12 (at_beacon card top x d)
    pub nothing_arisen : x.beacon ≡ 12 → (moved_of card top x d).cause ≡ (begun x.bts x.m (reminds card.settings.functions) card.settings.x card.settings.y d).cause
    -- "yet the code after it counts as changed": a beacon behind it is read, in BTS where function 3 reads it; and the whole sample is as behind a 0
    pub read_after : d.code ≡ 12 → 1 ≤ x.beacon → x.beacon ≤ 11 → reads card x d ≡ (not x.bts || is_side x.beacon && reads_in_bts_bit card.settings.functions)
    pub counts_changed : 1 ≤ x.beacon → x.beacon ≤ 11 → step_of card top x (with_code 12 d) ≡ step_of card top x (with_code 0 d)
    -- a sample without it is as before, and leaves no cause above 5 where none stood
    pub as_before : (x.beacon ≡ 12 → ⊥) → step_of card top x d ≡ step_before card top x d
    pub stays_low : (x.beacon ≡ 12 → ⊥) → d.brake.cause ≤ 5 → (step_of card top x d).desk.brake.cause ≤ 5

  -- two samples that differ in their code alone, 12 in the one and 0, no beacon, in the other
  pub record OnlyAlarm : Type 0 where
    -- without the alarm the same cause arises
    pub arose : (step_before card top (with_beacon 12 x) d).arose ≡ (step_before card top (with_beacon 0 x) d).arose
    -- whatever code and brake are put into both, they leave one desk
    pub desk : (code : ℕ) (b : Brake)
        → with_code code (with_brake b (step_of card top (with_beacon 12 x) d).desk) ≡ with_code code (with_brake b (step_of card top (with_beacon 0 x) d).desk)
    pub stood : (step_of card top (with_beacon 12 x) d).desk.brake.stood ≡ (step_of card top (with_beacon 0 x) d).desk.brake.stood
    pub speed : (step_of card top (with_beacon 12 x) d).answer.speed ≡ (step_of card top (with_beacon 0 x) d).answer.speed
    pub icon : (step_of card top (with_beacon 12 x) d).answer.icon ≡ (step_of card top (with_beacon 0 x) d).answer.icon
    pub limit : (step_of card top (with_beacon 12 x) d).answer.limit ≡ (step_of card top (with_beacon 0 x) d).answer.limit
    -- every bit of the lamps but rearm's and the alarm's
    pub lamps : (k : ℕ) → (k ≡ 10 → ⊥) → (k ≡ 11 → ⊥)
        → bit_of (step_of card top (with_beacon 12 x) d).answer.lamps (2 ^ k) ≡ bit_of (step_of card top (with_beacon 0 x) d).answer.lamps (2 ^ k)
