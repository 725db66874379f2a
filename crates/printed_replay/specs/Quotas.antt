-- Document 02 d), "Yesterday's lesson, an hour at a time": what the program `replay` prints, quota by quota, as texts of ASCII bytes.
use Rattle.std.specs.Prelude.{ℕ, ◌+◌, Bool, true, false, List, [], ◌∷◌, ◌++◌, Some, None}
use Rattle.leaf.specs.Choosing.{pick}
use Rattle.leaf.specs.Answers.{Answer, given, refused, refused_at}
use Rattle.session.specs.declared.Session.{Session}
use Rattle.text.specs.Decimal.{ended, newline, blank, line}
use Rattle.text.specs.Words.{ascii, refused_by}
use Rattle.rides.specs.Replay.{Last, replay_of}
use Rattle.rides.specs.declared.replay.End.{End}
use Rattle.rides.specs.declared.replay.End.TheVariants as end
use Rattle.printed.specs.Printed.{refused_line, columns_of, start_on}
use Rattle.printed.specs.declared.Columns.TheVariants.{Whole}

-- ---- the start: the heading, then the card ("The ride program's highest is 3 from g on.", g6) and the recording

-- the columns' names
abbrev pub heading : List ℕ
heading = ascii "place ran limit lamps cause icon standing" ++ newline ∷ []

-- the line of what refuses the start, or nothing
unfoldable pub begun_text : Answer Session → List ℕ
begun_text (given s) = []
begun_text (refused n) = refused_line n
begun_text (refused_at n place) = refused_line n

-- what is printed before any quota
unfoldable pub start_text : List ℕ → List ℕ → List ℕ
start_text card recording = heading ++ begun_text (start_on card recording)

-- ---- a quota

-- "none if no sample ran", and the line's end
abbrev pub none_word : List ℕ
none_word = ascii "none" ++ newline ∷ []

-- the place that the quota began at, "the number of samples run", and "the last answer (none if no sample ran)": its five numbers, S, lamps, cause, icon
-- and limit, or the word
unfoldable pub ran_line : ℕ → ℕ → Last → List ℕ
ran_line place ran (Some a) = line place (ran ∷ columns_of Whole a)
ran_line place ran None = ended place blank ++ ended ran blank ++ none_word

-- "the sample's own, with its position"
unfoldable pub refused_at_line : ℕ → ℕ → List ℕ
refused_at_line n position = refused_by n ++ ascii " at " ++ ended position newline

-- the lines of a replay that began at this place. A refused sample's line stands behind that of "what ran before"; where recording or session is
-- refused, its line stands alone
unfoldable pub replayed_text : ℕ → ℕ → Last → End → List ℕ
replayed_text place ran last end.Unrefused = ran_line place ran last
replayed_text place ran last (end.Refused n) = refused_line n
replayed_text place ran last (end.RefusedAt n position) = ran_line place ran last ++ refused_at_line n position

unfoldable pub quota_text : List ℕ → ℕ → Session → ℕ → List ℕ
quota_text recording place s quota =
    replayed_text place (replay_of recording place s quota).ran (replay_of recording place s quota).last (replay_of recording place s quota).end

-- where it ended: "place + run" (d4)
abbrev pub place_after : List ℕ → ℕ → Session → ℕ → ℕ
place_after recording place s quota = place + (replay_of recording place s quota).ran

abbrev pub is_refused : End → Bool
is_refused end.Unrefused = false
is_refused (end.Refused n) = true
is_refused (end.RefusedAt n position) = true

-- ---- all of it

-- the quotas' texts one behind the other, each "from where an unrefused first ended"; behind a refused one there is nothing
unfoldable pub quotas_text : List ℕ → ℕ → Session → List ℕ → List ℕ
quotas_text recording place s [] = []
quotas_text recording place s (quota ∷ rest) =
    quota_text recording place s quota
    ++ pick (is_refused (replay_of recording place s quota).end) []
    (quotas_text recording (place_after recording place s quota) (replay_of recording place s quota).session rest)

-- from the first sample on, where there is a session
abbrev pub below_text : Answer Session → List ℕ → List ℕ → List ℕ
below_text (given s) recording quotas = quotas_text recording 0 s quotas
below_text (refused n) recording quotas = []
below_text (refused_at n place) recording quotas = []

-- what `replay CARD QUOTA.. < RECORDING` prints of a card, a recording and quotas
unfoldable pub replay_printed : List ℕ → List ℕ → List ℕ → List ℕ
replay_printed card recording quotas = start_text card recording ++ below_text (start_on card recording) recording quotas
