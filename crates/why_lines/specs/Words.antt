-- Document 02 f), "Why is it forty?": "For any session and sample, a tool names which standing limit sets S (the first in the order vmax, T, BTS
-- speed, main, stop staying alongside, crossing, limit, where several are equal), its value and age (0 for the first three), and for a braked
-- desk the cause and how many samples ago the brake came on", in words:
-- `12  40 km/h  stop, 0.0 s old; braked 0.0 s ago: a stop signal passed without override`.
use Rattle.std.specs.Prelude.{ℕ, ◌/◌, ◌%◌, Bool, not, ◌||◌, List, [], ◌++◌, ltb, eqb}
use Rattle.leaf.specs.Choosing.{pick}
use Rattle.signals.specs.declared.control.MainKind.{MainKind}
use Rattle.signals.specs.declared.control.MainKind.TheVariants as main
use Rattle.sides.specs.declared.crossing.CrossingKind.{CrossingKind}
use Rattle.sides.specs.declared.crossing.CrossingKind.TheVariants as crossing
use Rattle.step.specs.declared.speed.Reason.{Reason}
use Rattle.step.specs.declared.speed.Reason.TheVariants as reason
use Rattle.step.specs.Reason.{reason_number}
use Rattle.session.specs.declared.Session.{Session}
use Rattle.session.specs.declared.Why.{Why}
use Rattle.session.specs.Why.{why_now}
use Rattle.text.specs.Decimal.{decimal, tenths, hundredths}
use Rattle.text.specs.Words.{ascii, word_of}

-- ---- "which standing limit sets S": its name

-- the main control's; clear is no main limit, and never the one that sets S
abbrev pub main_text : MainKind → List ℕ
main_text main.Clear = ascii "no main limit"
main_text main.Start = ascii "start"
main_text main.ConditionalClear = ascii "conditional clear"
main_text main.Announcement = ascii "stop announcement"
main_text main.Preannouncement = ascii "preannouncement"
main_text main.Caution = ascii "caution"
main_text main.BeforeStop = ascii "before-stop"
main_text main.Stop = ascii "stop"
main_text main.Zone = ascii "stop zone"

-- the crossing's; one that is absent never sets S
abbrev pub crossing_text : CrossingKind → List ℕ
crossing_text crossing.Absent = ascii "no crossing"
crossing_text crossing.Protected = ascii "protected crossing"
crossing_text crossing.Unprotected = ascii "unprotected crossing"

-- the limit's, beside this main control and this crossing; vmax and T stand always, so that some limit sets S. 02 g: paired limits count as limit
-- in f), "where of equal ones the single is named": the name tells which it is
abbrev pub name_text : Reason → MainKind → CrossingKind → List ℕ
name_text reason.None m c = ascii "no limit"
name_text reason.Vmax m c = ascii "vmax"
name_text reason.Train m c = ascii "T of the train type"
name_text reason.Bts m c = ascii "BTS speed"
name_text reason.Main m c = main_text m
name_text reason.Alongside m c = ascii "stop alongside"
name_text reason.Crossing m c = crossing_text c
name_text reason.Limit m c = ascii "limit"
name_text reason.Paired m c = ascii "paired limit"

-- the name in a session
unfoldable pub name_in : Session → List ℕ
name_in s = name_text (why_now s).reason s.desk.main.kind s.desk.beside.crossing.kind

-- ---- names compared: a number for each, another for every other name (proofs/Names.antt, `same_name`)

abbrev pub main_place : MainKind → ℕ
main_place main.Clear = 4
main_place main.Start = 5
main_place main.ConditionalClear = 6
main_place main.Announcement = 7
main_place main.Preannouncement = 8
main_place main.Caution = 9
main_place main.BeforeStop = 10
main_place main.Stop = 11
main_place main.Zone = 12

abbrev pub crossing_place : CrossingKind → ℕ
crossing_place crossing.Absent = 14
crossing_place crossing.Protected = 15
crossing_place crossing.Unprotected = 16

abbrev pub name_place : Reason → MainKind → CrossingKind → ℕ
name_place reason.None m c = 0
name_place reason.Vmax m c = 1
name_place reason.Train m c = 2
name_place reason.Bts m c = 3
name_place reason.Main m c = main_place m
name_place reason.Alongside m c = 13
name_place reason.Crossing m c = crossing_place c
name_place reason.Limit m c = 17
name_place reason.Paired m c = 18

unfoldable pub place_in : Session → ℕ
place_in s = name_place (why_now s).reason s.desk.main.kind s.desk.beside.crossing.kind

-- ---- "its value and age (0 for the first three)"

-- S, hundredths of km/h, in km/h: `40` where it is whole, else `79.80`
unfoldable pub kmh_text : ℕ → List ℕ
kmh_text speed = pick (eqb (speed % 100) 0) (decimal (speed / 100)) (hundredths speed)

-- a count of samples in seconds, of which a sample is a tenth: `, 12.3 s old`
unfoldable pub aged_text : ℕ → List ℕ
aged_text age = ascii ", " ++ tenths age ++ ascii " s old"

-- nothing for the first three
unfoldable pub age_text : Reason → ℕ → List ℕ
age_text r age = pick (ltb (reason_number r) 4) [] (aged_text age)

unfoldable pub named_text : Session → Why → List ℕ
named_text s why = kmh_text why.speed ++ ascii " km/h  " ++ name_in s ++ age_text why.reason why.age

-- ---- "for a braked desk the cause and how many samples ago the brake came on"

-- causes 1 to 6; nothing for any other number
abbrev pub cause_text : ℕ → List ℕ
cause_text cause =
    word_of (ascii "|a main window missed|a side window missed|a reminder missed|a stop signal passed without override|too fast|the pickup is quiet")
    cause

-- `; braked 0.0 s ago: too fast`
unfoldable pub braked_text : ℕ → ℕ → List ℕ
braked_text cause since = ascii "; braked " ++ tenths since ++ ascii " s ago: " ++ cause_text cause

-- by the causes that stood before the sample and stand after it, 0 being none, and how many samples ago the brake came on
unfoldable pub brake_text : ℕ → ℕ → ℕ → List ℕ
brake_text before cause since = pick (not (eqb cause 0)) (braked_text cause since) (pick (not (eqb before 0)) (ascii "; brake off") [])

-- ---- the line of a sample

-- of the sample with this number, by the session before it and the one after it
unfoldable pub words_line : ℕ → Session → Session → List ℕ
words_line number before after =
    decimal number ++ ascii "  " ++ named_text after (why_now after)
    ++ brake_text before.desk.brake.cause (why_now after).cause (why_now after).since ++ ascii "\n"

-- the first sample has a line, and each where the name or the standing cause is another than before it
unfoldable pub says_in : ℕ → Session → Session → Bool
says_in number before after =
    eqb number 1 || not (eqb (place_in before) (place_in after)) || not (eqb before.desk.brake.cause after.desk.brake.cause)

unfoldable pub words_text : ℕ → Session → Session → List ℕ
words_text number before after = pick (says_in number before after) (words_line number before after) []
