-- Document 01, "Controls": "A reading on an open window takes its place, pressed from the next sample to the older one's miss"; "its window alone
-- starts afresh even over an open one", the stop zone's; "Slips we have seen": "Letting a new beacon lend an unanswered one more time, the stop
-- zone aside." What a whole sample does to an open window: of every desk, every sample and both windows.
--
-- `nearer` shuts out the desk that opens a fresh window of 30 samples for a beacon 7 read over an open one outside the zone: of a window by
-- itself (specs/Windows.antt) all laws hold there too. A beacon in the sample of an answer, a miss or a mode change finds no window open, and
-- opens a fresh one.
use Rattle.std.specs.Prelude.{ℕ, suc, ◌+◌, ◌^◌, ◌≤◌, ◌≡◌, Bool, true, false, List, [], ◌∷◌, ◌⊎◌, ◌↔◌, length}
use Rattle.leaf.specs.Choosing.{pick}
use Rattle.leaf.specs.Numbers.{bit_of, aged_of, further_of}
use Rattle.leaf.specs.Buttons.{crossing_button}
use Rattle.card.specs.declared.Card.{Card}
use Rattle.card.specs.Card.{zones, reminds, reads_in_bts_bit}
use Rattle.signals.specs.declared.window.Waits.TheVariants as waits
use Rattle.signals.specs.declared.window.Window.{Window}
use Rattle.signals.specs.declared.control.MainKind.TheVariants.{Announcement}
use Rattle.signals.specs.Windows.{miss_time, zone_miss, closed, opened, is_open, window_older, answers_of}
use Rattle.signals.specs.MainControl.{main_of}
use Rattle.sides.specs.Crossing.{crossing_older, unprotected_set}
use Rattle.desk.specs.declared.state.Desk.{Desk}
use Rattle.desk.specs.State.{with_window, with_side, fresh_desk}
use Rattle.desk.specs.Clock.{begun}
use Rattle.beacons.specs.Beacons.{reads_of, zone_met}
use Rattle.step.specs.declared.Input.{Input}
use Rattle.step.specs.Step.{step_of}
use Rattle.step_laws.specs.Walk.{at_beacon}

-- "Windows: main (1, 2, 5, 6, 7) and side (9, 10, 11)."
pub data Which : Type 0 where
  main : Which
  side : Which

abbrev pub is_main : Which → Bool
is_main main = true
is_main side = false

abbrev pub window_of : Which → Desk → Window
window_of which d = pick (is_main which) d.window d.side

-- ---- the sample

-- a window that is open, in a sample that keeps the mode
pub record Open (x : Input) (d : Desk) (which : Which) : Type 0 where
  pub mode : d.bts ≡ x.bts
  pub found_open : is_open (window_of which d).waits ≡ true

-- its time is over in this sample
pub record TimeOver (x : Input) (d : Desk) (which : Which) : Type 0 where
  pub stands : Open x d which
  pub over : (window_of which d).left ≤ 1

-- "A right press at ages 1..29 answers": button k, of weight 2 to the k, is pressed, and the window, a sample older, waits for it; "age 30 is a
-- miss, even with a press": its time is not over
pub record Right (x : Input) (d : Desk) (which : Which) (k : ℕ) : Type 0 where
  pub pressed : bit_of x.buttons (2 ^ k) ≡ true
  pub waited : answers_of (window_older x.m (window_of which d)) (2 ^ k) ≡ true
  pub in_time : TimeOver x d which → ⊥

-- "buttons, lowest bit first": the main window takes its lowest right press, and is closed for the others
pub record MainTakes (x : Input) (d : Desk) (k : ℕ) : Type 0 where
  pub right : Right x d main k
  pub lowest : (j : ℕ) → Right x d main j → k ≤ j

-- "A press serves one use: main, then side, then others": a right press answers, the side window only one that the main window does not take
pub record Answers (x : Input) (d : Desk) (which : Which) (k : ℕ) : Type 0 where
  pub right : Right x d which k
  pub free : which ≡ side → MainTakes x d k → ⊥

-- the sample neither misses nor answers it: there is time left, and no press answers
pub record Unanswered (x : Input) (d : Desk) (which : Which) : Type 0 where
  pub stands : Open x d which
  pub time : 2 ≤ (window_of which d).left
  pub no_answer : (k : ℕ) → Answers x d which k → ⊥

-- and exactly so it is: the beacon finds an unanswered window a sample older, and none where a press answers it
pub record AnswerLaws (card : Card) (top : ℕ) (x : Input) (d : Desk) (which : Which) : Type 0 where
  pub stays : Unanswered x d which → window_of which (at_beacon card top x d) ≡ window_older x.m (window_of which d)
  pub answered : (k : ℕ) → Open x d which → Answers x d which k → window_of which (at_beacon card top x d) ≡ closed

-- "A beacon is read when its code differs from that of the accepted sample before"
abbrev pub reads : Card → Input → Desk → Bool
reads card x d = reads_of x.beacon (reads_in_bts_bit card.settings.functions) x.bts d.code

-- "Beacons 3 and 8 displace the main window and open none (house)."
pub record Shuts (card : Card) (x : Input) (d : Desk) (which : Which) : Type 0 where
  pub on_main : which ≡ main
  pub read : reads card x d ≡ true
  pub code : (x.beacon ≡ 3) ⊎ (x.beacon ≡ 8)

-- "Stop zone (function 1): beacon 7 read while row 4 is main and under 80 m from its reading"
pub record Zones (card : Card) (top : ℕ) (x : Input) (d : Desk) (which : Which) : Type 0 where
  pub on_main : which ≡ main
  pub read : reads card x d ≡ true
  pub code : x.beacon ≡ 7
  pub near : zone_met (at_beacon card top x d) ≡ true
  pub function : zones card.settings.functions ≡ true

-- ---- what the sample leaves of the window

pub record WindowAfter (card : Card) (top : ℕ) (x : Input) (d after : Desk) (which : Which) : Type 0 where
  -- unanswered, and neither shut nor the zone's: whatever was read, it is open and one sample nearer its miss
  pub nearer :
      Unanswered x d which → (Shuts card x d which → ⊥) → (Zones card top x d which → ⊥)
      → (is_open (window_of which after).waits ≡ true) × ((window_of which after).left + 1 ≡ (window_of which d).left)
  -- shut by a beacon 3 or 8
  pub shut : Shuts card x d which → window_of which after ≡ closed
  -- the zone's: "starts afresh even over an open one, lamp and press from age 10, miss at 40"
  pub zoned : Zones card top x d which → window_of which after ≡ opened waits.Zone zone_miss

-- the slip: a beacon 7 read over a beacon 6 that has 10 samples left gets a window of 30
abbrev pub waiting_desk : Desk
waiting_desk = with_window (record { waits = waits.Six; left = 10; age = 20; distance = 0 }) fresh_desk

abbrev pub beacon7 : Input
beacon7 = record { m = 0; pulses = 0; beacon = 7; buttons = 0; bts = false }

abbrev pub lent_desk : Card → ℕ → Desk
lent_desk card top = with_window (opened waits.Seven miss_time) (step_of card top beacon7 waiting_desk).desk

-- and the same of the side window: a beacon 10 read over a beacon 9, with button 5, for which both windows wait and which the main one takes
abbrev pub sharing_desk : Desk
sharing_desk =
    with_window (record { waits = waits.One; left = 20; age = 10; distance = 0 })
    (with_side (record { waits = waits.Nine; left = 10; age = 20; distance = 0 }) fresh_desk)

abbrev pub beacon10 : Input
beacon10 = record { m = 0; pulses = 0; beacon = 10; buttons = crossing_button; bts = false }

abbrev pub side_lent_desk : Card → ℕ → Desk
side_lent_desk card top = with_side (opened waits.Limit miss_time) (step_of card top beacon10 sharing_desk).desk

pub record NoLending : Type 0 where
  -- the beacon 7 is outside the zone; no desk that the law allows after these samples is the slip's
  pub not_lent : (card : Card) (top : ℕ) → WindowAfter card top beacon7 waiting_desk (lent_desk card top) main → ⊥
  pub side_not_lent : (card : Card) (top : ℕ) → WindowAfter card top beacon10 sharing_desk (side_lent_desk card top) side → ⊥

-- ---- "age 30 is a miss, even with a press: cause 1 main, cause 2 side, and 1 counts as announcement, 9 as unprotected crossing."

-- the desk after mode, ages, endings, reminders and misses
abbrev pub at_buttons : Card → Input → Desk → Desk
at_buttons card x d = (begun x.bts x.m (reminds card.settings.functions) card.settings.x card.settings.y d).desk

pub record MissLaws (card : Card) (top : ℕ) (x : Input) (d : Desk) : Type 0 where
  -- cause 1 arises exactly where the main window's time is over, 2 where the side window's is and no 1 arises
  pub cause_1 : ((step_of card top x d).arose ≡ 1) ↔ TimeOver x d main
  pub cause_2 : ((step_of card top x d).arose ≡ 2) ↔ (TimeOver x d side × (TimeOver x d main → ⊥))
  -- the window is closed before the buttons,
  pub miss_closes : (which : Which) → TimeOver x d which → window_of which (at_buttons card x d) ≡ closed
  -- and counts, with the reading's age and distance
  pub counts_1 :
      TimeOver x d main → d.window.waits ≡ waits.One
      → (at_buttons card x d).main ≡ main_of Announcement (aged_of d.window.age) (further_of d.window.distance x.m)
  pub counts_9 :
      TimeOver x d side → d.side.waits ≡ waits.Nine
      → (at_buttons card x d).beside.crossing ≡ unprotected_set (aged_of d.side.age) (further_of d.side.distance x.m) (crossing_older x.m d.beside.crossing)

-- ---- any number of samples

unfoldable pub steps_of : Card → ℕ → List Input → Desk → Desk
steps_of card top [] d = d
steps_of card top (x ∷ rest) d = steps_of card top rest (step_of card top x d).desk

-- none of them answers or misses the window, shuts it, or sets the zone
unfoldable pub AllUnanswered : Card → ℕ → Which → List Input → Desk → Type 0
AllUnanswered card top which [] d = Unit {0}
AllUnanswered card top which (x ∷ rest) d =
    Unanswered x d which × (Shuts card x d which → ⊥) × (Zones card top x d which → ⊥) × AllUnanswered card top which rest (step_of card top x d).desk

pub record ChainLaws (card : Card) (top : ℕ) (which : Which) : Type 0 where
  -- through any chain of readings the time only falls, by one a sample
  pub chain_time :
      (xs : List Input) (d : Desk) → is_open (window_of which d).waits ≡ true → AllUnanswered card top which xs d
      → (is_open (window_of which (steps_of card top xs d)).waits ≡ true) × ((window_of which (steps_of card top xs d)).left + length xs ≡ (window_of which d).left)
  -- so the miss comes where the first one's would have come
  pub chain_miss :
      (xs : List Input) (x : Input) (d : Desk) → is_open (window_of which d).waits ≡ true → AllUnanswered card top which xs d
      → (steps_of card top xs d).bts ≡ x.bts → TimeOver x (steps_of card top xs d) which ↔ ((window_of which d).left ≤ suc (length xs))
