-- Document 01, "Both sides of each line": "Starred ones are proved as a single table under a single statement". A line is what the definitions
-- answer, whole, and what the paper says, in numbers.
use Rattle.std.specs.Prelude.{ℕ, true, false, List, [], ◌∷◌, ◌++◌}
use Rattle.leaf.specs.Answers.{Answer, given}
use Rattle.card.specs.declared.Row.{Row}
use Rattle.card.specs.Lines.{Line, line, Holds}
use Rattle.card.specs.CardA.{card_a, card_lines}
use Rattle.curve.specs.Curve.{row_speed}
use Rattle.signals.specs.MainControl.{main_of}
use Rattle.signals.specs.declared.control.MainKind.TheVariants.{BeforeStop}
use Rattle.desk.specs.State.{with_main, fresh_desk}
use Rattle.session.specs.declared.Session.{Session}
use Rattle.session.specs.Session.{Outcome}
use Rattle.session.specs.Session.{fresh_session, with_desk, open_session, sample_of}
use Rattle.demands.specs.Runs.{run_from}
use Rattle.demands.specs.Examples.{conv, times, end_of, answer, shows, card_of_a, card_of_a_with}

-- "* Row 4 of card A: age 20 gives 8000; 21 gives 7980; 220 gives 4000."
abbrev row_lines : List Line
row_lines =
    line ℕ (row_speed card_a.before_stop 20) 8000
    ∷ line ℕ (row_speed card_a.before_stop 21) 7980
    ∷ line ℕ (row_speed card_a.before_stop 220) 4000
    ∷ []

-- "* S 8000, tick 100: 236 pulses free, 237 cause 5." Card A, type 6, beacon 7 in the sample before.
abbrev brake_lines : List Line
brake_lines =
    line (Answer Outcome) (end_of (open_session card_of_a 6) (conv 100 7 0 ∷ []) (conv 236 0 0)) (given (shows 8000 16 0))
    ∷ line (Answer Outcome) (end_of (open_session card_of_a 6) (conv 100 7 0 ∷ []) (conv 237 0 0)) (given (shows 8000 16 5))
    ∷ []

-- "* Press at 29 answers, at 30 cause 1." Beacon 7, and button 4 so many samples later.
abbrev press_lines : List Line
press_lines =
    line (Answer Outcome) (end_of (open_session card_of_a 6) (conv 100 7 0 ∷ times 28 (conv 100 0 0) []) (conv 100 0 16)) (given (shows 7820 0 0))
    ∷ line (Answer Outcome) (end_of (open_session card_of_a 6) (conv 100 7 0 ∷ times 29 (conv 100 0 0) []) (conv 100 0 16)) (given (shows 7800 0 1))
    ∷ []

-- "* Crossing turns at m 11,111, not 11,112." Beacon 3 answered by 5, with function 0; 11,111 is 271 pulses of tick 41, 11,112 463 of tick 24.
abbrev crossing_lines : List Line
crossing_lines =
    line (Answer Outcome) (end_of (open_session (card_of_a_with 41 1 card_a.limit) 6) (conv 271 3 0 ∷ []) (conv 271 0 32)) (given (answer 15500 0 0 2 false))
    ∷ line (Answer Outcome) (end_of (open_session (card_of_a_with 24 1 card_a.limit) 6) (conv 463 3 0 ∷ []) (conv 463 0 32)) (given (answer 15500 0 0 1 false))
    ∷ []

-- "* Beacon 7 again at 799,999 zone, 800,000 none." With function 1, a session in its ranges whose row 4 is main, at that distance less this
-- sample's 2,000 from its reading: 799,999 is a prime, which no tick length's pulses add up to.
abbrev near : ℕ → Session
near distance = with_desk (with_main (main_of BeforeStop 9 distance) fresh_desk) (fresh_session (card_of_a_with 100 2 card_a.limit) 6)

abbrev zone_lines : List Line
zone_lines =
    line Outcome (sample_of (near 797999) (conv 20 7 0)).outcome (shows 1000 0 0)
    ∷ line Outcome (sample_of (near 798000) (conv 20 7 0)).outcome (shows 8000 16 0)
    ∷ []

-- "* Increase: type 2 gives 90, type 6 gives 100." Override, beacon 8, increase.
abbrev increase_lines : List Line
increase_lines =
    line (Answer (List Outcome)) (run_from (open_session card_of_a 2) (conv 0 0 128 ∷ conv 0 8 0 ∷ conv 0 0 256 ∷ []))
    (given (shows 9000 128 0 ∷ shows 4000 256 0 ∷ shows 9000 0 0 ∷ []))
    ∷ line (Answer (List Outcome)) (run_from (open_session card_of_a 6) (conv 0 0 128 ∷ conv 0 8 0 ∷ conv 0 0 256 ∷ []))
    (given (shows 10000 128 0 ∷ shows 4000 256 0 ∷ shows 10000 0 0 ∷ []))
    ∷ []

-- "* Limit final 60, type 2: 60, 80, 90, 90." Beacon 10, then increase three times; the row is at its final at once.
abbrev flat : Row
flat = record { initial = 60; last = 60; delay = 0; drop = 1 }

abbrev limit_lines : List Line
limit_lines =
    line (Answer (List Outcome)) (run_from (open_session (card_of_a_with 100 0 flat) 2) (conv 0 10 0 ∷ conv 0 0 256 ∷ conv 0 0 256 ∷ conv 0 0 256 ∷ []))
    (given (answer 6000 64 0 0 true ∷ answer 8000 64 0 0 true ∷ answer 9000 64 0 0 true ∷ answer 9000 64 0 0 true ∷ []))
    ∷ []

-- and with "* Card A under highest 1 passes, version 2 refuses 3. * Length 38 refuses 4."
abbrev pub starred_lines : List Line
starred_lines =
    row_lines ++ brake_lines ++ press_lines ++ crossing_lines ++ zone_lines ++ increase_lines ++ limit_lines ++ card_lines

abbrev pub Starred : Type 0
Starred = Holds starred_lines
