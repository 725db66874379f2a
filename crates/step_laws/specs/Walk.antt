-- Document 01, "The sample": "Order in a sample: mode; ages and distances advance, endings, reminders and missed windows; buttons, lowest bit
-- first; beacon; speed; brake." One walk through the steps of a sample, for every fact about the desk: here is what has to be shown of each
-- single thing that can happen, with the reason why it happens where a law asks after it; that this is enough is proved once
-- (proofs/Walk.antt).
use Rattle.std.specs.Prelude.{ℕ, ◌≡◌, Bool, true, false, ◌&&◌, ◌||◌, eqb}
use Rattle.card.specs.declared.Card.{Card}
use Rattle.card.specs.Card.{zones, reminds, reads_in_bts_bit}
use Rattle.signals.specs.declared.window.Waits.{Waits}
use Rattle.signals.specs.declared.window.Waits.TheVariants as waits
use Rattle.signals.specs.declared.control.MainKind.{MainKind}
use Rattle.signals.specs.Windows.{zone_miss, closed, opened, is_open}
use Rattle.desk.specs.declared.state.Desk.{Desk}
use Rattle.desk.specs.State.{with_code, with_window, with_side, taken_over, crossing_set, limit_now, mode_changed}
use Rattle.desk.specs.Clock.{same_mode, desk_older, reminded, begun}
use Rattle.buttons.specs.Buttons.{option_used, limit_removed, paired_removed, reminder_answered, override_armed, stop_increased, limit_stepped, hide_pressed, presses_of}
use Rattle.beacons.specs.Beacons.{reads_of, main_opened, side_opened, option_offered, reading4, zone_met, stopped, first_kept, pair_set}
use Rattle.step.specs.declared.Input.{Input}
use Rattle.step.specs.Step.{has_pairs, moved_of, step_of}

-- the desk where the beacon is looked at: after mode, ages, misses and buttons
abbrev pub at_beacon : Card → ℕ → Input → Desk → Desk
at_beacon card top x d =
    presses_of x.buttons x.m (has_pairs card.version) card.settings.limit top (begun x.bts x.m (reminds card.settings.functions) card.settings.x card.settings.y d).desk

-- a beacon is read there
abbrev pub reads_at : Card → Input → Desk → Bool
reads_at card x e = reads_of x.beacon (reads_in_bts_bit card.settings.functions) e.bts e.code

-- a beacon 10 or 11
abbrev pub is_limit : ℕ → Bool
is_limit code = eqb code 10 || eqb code 11

-- and it is read there
abbrev pub reads_limit : Card → Input → Desk → Bool
reads_limit card x e = is_limit x.beacon && reads_at card x e

-- what readings, answers, misses and displacements set keeps P; R holds of the age and distance of a reading
pub record Sets (P : Desk → Type 0) (R : ℕ → ℕ → Type 0) : Type 0 where
  -- readings: of this sample, of the main window, of the side window
  pub now : R 0 0
  pub main_reading : (e : Desk) → P e → R e.window.age e.window.distance
  pub side_reading : (e : Desk) → P e → R e.side.age e.side.distance
  -- controls
  pub taken : (kind : MainKind) (age distance : ℕ) (e : Desk) → R age distance → P e → P (taken_over kind age distance e)
  pub crossing : (age distance : ℕ) (e : Desk) → R age distance → P e → P (crossing_set age distance e)
  pub limit : (age distance : ℕ) (e : Desk) → R age distance → P e → P (limit_now true age e)

-- one sample, with this card and this T, of a desk
module _ (card : Card) (top : ℕ) (x : Input) (d : Desk) where
  -- up to the beacon: P holds after the first step of the sample, and is kept
  pub record ToBeacon (P : Desk → Type 0) : Type 0 where
    -- mode; or, where it is not changed, ages, endings and reminders
    pub changed : same_mode d.bts x.bts ≡ false → P (mode_changed x.bts d)
    pub advanced : same_mode d.bts x.bts ≡ true → P (reminded (reminds card.settings.functions) card.settings.x card.settings.y (desk_older x.m d))
    -- a window that is missed or answered is closed, on the desk that its miss or answer leaves
    pub main_closed : (e : Desk) → P e → P (with_window closed e)
    pub side_closed : (e : Desk) → P e → P (with_side closed e)
    -- presses that no window takes
    pub option : (e : Desk) → P e → P (option_used true e)
    pub removed : (e : Desk) → P e → P (limit_removed true e)
    pub paired_removed_lem : (speed : ℕ) (e : Desk) → P e → P (paired_removed speed e)
    pub answered : (e : Desk) → P e → P (reminder_answered true e)
    pub armed : (e : Desk) → P e → P (override_armed true e)
    pub increased : (e : Desk) → P e → P (stop_increased true e)
    pub stepped : (e : Desk) → P e → P (limit_stepped true e)
    pub hidden : (e : Desk) → P e → P (hide_pressed true e)

  -- the beacon: P holds of the desk that a reading acts on, Q of the one that it leaves
  pub record OfBeacon (P Q : Desk → Type 0) : Type 0 where
    -- no beacon is read, or it has no use
    pub unread : (e : Desk) → P e → Q e
    -- windows
    pub main_opened_lem : (w : Waits) (e : Desk) → is_open w ≡ true → P e → Q (main_opened w e)
    pub side_opened_lem : (w : Waits) (e : Desk) → is_open w ≡ true → P e → Q (side_opened w e)
    pub zone_opened :
        (e : Desk) → reads_at card x (at_beacon card top x d) ≡ true → x.beacon ≡ 7
        → (zone_met (with_code x.beacon (at_beacon card top x d)) && zones card.settings.functions) ≡ true
        → P e → Q (with_window (opened waits.Zone zone_miss) e)
    pub shut : (e : Desk) → reads_at card x (at_beacon card top x d) ≡ true → x.beacon ≡ 3 → P e → Q (with_window closed e)
    -- stop, protected crossing, and beacon 3's option
    pub stop : (e : Desk) → reads_at card x (at_beacon card top x d) ≡ true → x.beacon ≡ 8 → P e → Q (stopped e)
    pub protected : (e : Desk) → P e → Q (reading4 true e)
    -- a beacon 10 or 11: the single limit; 02 g: the first of a pair is remembered, the second sets the pair's limit
    pub single : (e : Desk) → reads_limit card x (at_beacon card top x d) ≡ true → P e → P (limit_now false 0 e)
    pub first : (code : ℕ) (own : Bool) (e : Desk) → has_pairs card.version ≡ true → reads_limit card x (at_beacon card top x d) ≡ true → P e → P (first_kept code own e)
    pub pair : (speed : ℕ) (e : Desk) → has_pairs card.version ≡ true → reads_limit card x (at_beacon card top x d) ≡ true → P e → P (pair_set speed e)
    pub offered : (e : Desk) → Q e → Q (option_offered true e)

  -- what a sample carries through its steps
  pub record CarriedLaws : Type 0 where
    -- where the beacon is looked at, the mode is the sample's, and the code still that of the sample before
    pub at_mode : (at_beacon card top x d).bts ≡ x.bts
    pub at_code : (at_beacon card top x d).code ≡ d.code
    -- after it mode and code are the sample's, read or not
    pub mode_after : (step_of card top x d).desk.bts ≡ x.bts
    pub code_after : (step_of card top x d).desk.code ≡ x.beacon
    -- no step before its own touches the brake
    pub to_brake : (moved_of card top x d).desk.brake ≡ d.brake
