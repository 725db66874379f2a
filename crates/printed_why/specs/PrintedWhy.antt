-- Document 02 f), "Why is it forty?": why each S of a ride is what it is, as numbers or in words, as one text of ASCII bytes.
use Rattle.std.specs.Prelude.{ℕ, zero, suc, List, [], ◌∷◌, ◌++◌}
use Rattle.leaf.specs.Answers.{Answer, given, refused, refused_at}
use Rattle.session.specs.declared.Session.{Session}
use Rattle.text.specs.Decimal.{newline}
use Rattle.text.specs.Words.{ascii}
use Rattle.session.specs.Why.{why_now}
use Rattle.why_lines.specs.Numbers.{why_line}
use Rattle.why_lines.specs.Words.{words_text}
use Rattle.rides.specs.Recording.{samples_in}
use Rattle.rides.specs.Ride.{fresh_ride, ride_after, turn_at}
use Rattle.rides.specs.declared.ride.Ride.{Ride}
use Rattle.rides.specs.declared.ride.Shown.{Shown}
use Rattle.rides.specs.declared.ride.Shown.TheVariants as shown
use Rattle.printed.specs.Printed.{refused_line, start_on}
use Rattle.printed_why.specs.declared.Telling.{Telling}
use Rattle.printed_why.specs.declared.Telling.TheVariants.{Line, Words}

-- ---- the lines

-- a line of its own has its own; words have none
abbrev pub why_heading : Telling → List ℕ
why_heading Line = ascii "n limit reason age cause since" ++ newline ∷ []
why_heading Words = []

-- how the reason of an answered sample is told, the session before it and the one after it being given: "The sample is run; the reason is that of
-- its answer's S, at the sample's end." (f1)
unfoldable pub telling_text : Telling → ℕ → Session → Session → List ℕ
telling_text Line number before after = why_line number (why_now after)
telling_text Words number before after = words_text number before after

-- "refusal lines are unchanged" (f9); nothing after a refusal
unfoldable pub reason_text : Telling → ℕ → Session → Session → Shown → List ℕ
reason_text telling number before after (shown.Answered a) = telling_text telling number before after
reason_text telling number before after (shown.Refused n) = refused_line n
reason_text telling number before after shown.Nothing = []

-- the lines of the first k samples, which are numbered from 1
unfoldable pub why_lines_of : Telling → Ride → List ℕ → ℕ → List ℕ
why_lines_of telling r recording zero = []
why_lines_of telling r recording (suc k) =
    why_lines_of telling r recording k
    ++ reason_text telling (suc k) (ride_after r recording k).session (turn_at (ride_after r recording k) recording k).ride.session
    (turn_at (ride_after r recording k) recording k).shown

-- ---- the whole text

-- below the heading, of the recording's first n samples: the line of what refuses the start, or the samples' lines
unfoldable pub why_below : Telling → List ℕ → ℕ → Answer Session → List ℕ
why_below telling recording n (given s) = why_lines_of telling (fresh_ride s) recording n
why_below telling recording n (refused m) = refused_line m
why_below telling recording n (refused_at m place) = refused_line m

-- what `why CARD [words] < RECORDING` prints of a card and a recording
unfoldable pub printed_why : Telling → List ℕ → List ℕ → List ℕ
printed_why telling card recording = why_heading telling ++ why_below telling recording (samples_in recording) (start_on card recording)
