-- Document 01, "A ride, whole": what the ride program prints, as one text of ASCII bytes. Document 02 f), "Why is it forty?": "The printed ride may
-- carry the reason, 1..7, as a fifth column when asked."
use Rattle.std.specs.Prelude.{ℕ, zero, suc, Bool, List, [], ◌∷◌, ◌++◌}
use Rattle.leaf.specs.Choosing.{pick}
use Rattle.leaf.specs.Answers.{Answer, given, refused, refused_at}
use Rattle.card.specs.declared.Card.{Card}
use Rattle.card.specs.Reading.{card_in}
use Rattle.step.specs.declared.Answer.{Answer as Told}
use Rattle.session.specs.declared.Session.{Session}
use Rattle.text.specs.Decimal.{ended, newline, line}
use Rattle.rides.specs.Recording.{samples_in}
use Rattle.rides.specs.Ride.{start_ride, fresh_ride, ride_after, whole_ride}
use Rattle.rides.specs.declared.ride.Ride.{Ride}
use Rattle.rides.specs.declared.ride.Shown.{Shown}
use Rattle.rides.specs.declared.ride.Shown.TheVariants as shown
use Rattle.rides.specs.declared.ride.Explained.{Explained}
use Rattle.rides.specs.Why.{explained_at}
use Rattle.step.specs.Reason.{reason_number}
use Rattle.step.specs.declared.speed.Reason.{Reason}
use Rattle.text.specs.Words.{ascii}
use Rattle.printed.specs.declared.Columns.{Columns}
use Rattle.printed.specs.declared.Columns.TheVariants.{Paper, Whole}
use Rattle.printed.specs.declared.Form.{Form}
use Rattle.printed.specs.declared.Form.TheVariants.{Answers, Reasons}

-- ---- the words

-- "n limit lamps cause"
abbrev pub paper_words : List ℕ
paper_words = 0x6E ∷ 0x20 ∷ 0x6C ∷ 0x69 ∷ 0x6D ∷ 0x69 ∷ 0x74 ∷ 0x20 ∷ 0x6C ∷ 0x61 ∷ 0x6D ∷ 0x70 ∷ 0x73 ∷ 0x20 ∷ 0x63 ∷ 0x61 ∷ 0x75 ∷ 0x73 ∷ 0x65 ∷ []

-- " icon standing"
abbrev pub whole_words : List ℕ
whole_words = 0x20 ∷ 0x69 ∷ 0x63 ∷ 0x6F ∷ 0x6E ∷ 0x20 ∷ 0x73 ∷ 0x74 ∷ 0x61 ∷ 0x6E ∷ 0x64 ∷ 0x69 ∷ 0x6E ∷ 0x67 ∷ []

-- "refused "
abbrev pub refused_word : List ℕ
refused_word = 0x72 ∷ 0x65 ∷ 0x66 ∷ 0x75 ∷ 0x73 ∷ 0x65 ∷ 0x64 ∷ 0x20 ∷ []

-- ---- the lines

-- the columns' names
abbrev pub heading : Columns → List ℕ
heading Paper = paper_words ++ newline ∷ []
heading Whole = paper_words ++ whole_words ++ newline ∷ []

-- "The heading is then `n limit lamps cause reason`" (f9)
abbrev pub heading_of : Form → List ℕ
heading_of (Answers columns) = heading columns
heading_of Reasons = paper_words ++ ascii " reason" ++ newline ∷ []

-- "A refusal prints the line `refused` and its number"
unfoldable pub refused_line : ℕ → List ℕ
refused_line n = refused_word ++ ended n newline

-- 1 or 0 for the limit standing or not
abbrev pub flag_of : Bool → ℕ
flag_of b = pick b 1 0

-- a sample's answer, behind its number: S, lamps, cause; and icon and limit
abbrev pub columns_of : Columns → Told → List ℕ
columns_of Paper a = a.speed ∷ a.lamps ∷ a.cause ∷ []
columns_of Whole a = a.speed ∷ a.lamps ∷ a.cause ∷ a.icon ∷ flag_of a.limit ∷ []

-- the line of the sample with this number, or the refusal's; nothing after a refusal
unfoldable pub shown_text : Columns → ℕ → Shown → List ℕ
shown_text columns number (shown.Answered a) = line number (columns_of columns a)
shown_text columns number (shown.Refused n) = refused_line n
shown_text columns number shown.Nothing = []

-- with the reason of the answer's S as a fifth column; "refusal lines are unchanged" (f9)
unfoldable pub reason_text : ℕ → Shown → Reason → List ℕ
reason_text number (shown.Answered a) why = line number (a.speed ∷ a.lamps ∷ a.cause ∷ reason_number why ∷ [])
reason_text number (shown.Refused n) why = refused_line n
reason_text number shown.Nothing why = []

-- what is printed of a turn
unfoldable pub turn_text : Form → ℕ → Shown → Reason → List ℕ
turn_text (Answers columns) number sh why = shown_text columns number sh
turn_text Reasons number sh why = reason_text number sh why

-- the lines of the first k samples, which are numbered from 1
unfoldable pub lines_of : Form → Ride → List ℕ → ℕ → List ℕ
lines_of form r recording zero = []
lines_of form r recording (suc k) =
    let turn : Explained = explained_at (ride_after r recording k) recording k in
    lines_of form r recording k ++ turn_text form (suc k) turn.turned.shown turn.why.reason

-- ---- the printed ride

-- below the heading, of the recording's first n samples: 14, 7, or the samples' lines
unfoldable pub started_text : Form → List ℕ → ℕ → Answer Session → List ℕ
started_text form recording n (given s) = lines_of form (fresh_ride s) recording n
started_text form recording n (refused m) = refused_line m
started_text form recording n (refused_at m place) = refused_line m

-- the card's refusal, or what follows
unfoldable pub card_text : Form → List ℕ → ℕ → Answer Card → List ℕ
card_text form recording n (given card) = started_text form recording n (start_ride card recording)
card_text form recording n (refused m) = refused_line m
card_text form recording n (refused_at m place) = refused_line m

-- document 01's "(highest 2)" gives way to 02 g: "The ride program's highest is 3 from g on." (g6)
abbrev pub highest : ℕ
highest = 3

-- the session that a recording starts on a card: that of a ride, "14, 7", on a card that was read; or the reader's refusal
abbrev pub start_after : Answer Card → List ℕ → Answer Session
start_after (given card) recording = start_ride card recording
start_after (refused n) recording = refused n
start_after (refused_at n place) recording = refused_at n place

unfoldable pub start_on : List ℕ → List ℕ → Answer Session
start_on card recording = start_after (card_in card highest) recording

-- "The ride program prints the heading, then reads the card (highest 2) from a file and the ride from standard input.", where "(highest 2)"
-- gives way to 02 g: "The ride program's highest is 3 from g on." (g6)
unfoldable pub printed_as : Form → List ℕ → List ℕ → List ℕ
printed_as form card recording = heading_of form ++ card_text form recording (samples_in recording) (card_in card highest)

-- the answers alone
unfoldable pub printed_ride : Columns → List ℕ → List ℕ → List ℕ
printed_ride columns card recording = printed_as (Answers columns) card recording

-- ---- the same line by line

-- what a ride shows, in order, a line each; they are numbered from n
unfoldable pub lines_from : Columns → ℕ → List (Answer Told) → List (List ℕ)
lines_from columns n [] = []
lines_from columns n (given a ∷ rest) = line n (columns_of columns a) ∷ lines_from columns (suc n) rest
lines_from columns n (refused m ∷ rest) = refused_line m ∷ lines_from columns (suc n) rest
lines_from columns n (refused_at m place ∷ rest) = refused_line m ∷ lines_from columns (suc n) rest

-- the lines of a whole ride, or the one that refuses it
abbrev pub ride_lines : Columns → Answer (List (Answer Told)) → List (List ℕ)
ride_lines columns (given shown) = lines_from columns 1 shown
ride_lines columns (refused m) = refused_line m ∷ []
ride_lines columns (refused_at m place) = refused_line m ∷ []

-- the ride on a card that was read, or not
abbrev pub ride_on : Answer Card → List ℕ → Answer (List (Answer Told))
ride_on (given card) recording = whole_ride card recording
ride_on (refused m) recording = refused m
ride_on (refused_at m place) recording = refused_at m place

unfoldable pub printed_lines : Columns → List ℕ → List ℕ → List (List ℕ)
printed_lines columns card recording = heading columns ∷ ride_lines columns (ride_on (card_in card highest) recording)
