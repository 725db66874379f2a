-- REQUEST a. Document 02 a), "The ride over the serial line": "The desk now sends its ride over a slow line, and the receiver gets what has
-- arrived, sometimes nothing. Take a recording as it comes, holding at most one unfinished sample between calls, and give for a good
-- recording the same answers and end as for the whole; for a bad one, the answers of the samples complete before the fault, then the refusal.
-- The end is announced by the sender; a recording that stops early is refused then. Demands 2 and 3 read for the pieces put together.
-- Refusals: 14, 7 or a sample's number, at the first byte that makes it certain; later pieces get the same."
--
-- What a byte and an announced end do to a receiver is defined in crate `receiver`, the lines that they print in `printed`. Here it is
-- said what that comes to, of bytes put together; that the cutting does not matter is the first statement. (a1 to a11 are 02's readings.)
use Rattle.std.specs.Prelude.{ℕ, ◌+◌, ◌*◌, ◌≤◌, ◌<◌, true, false, ◌≡◌, length, drop, eqb, Ok, Err}
use mathlib.Core.List.{List, [], ◌∷◌, ◌++◌, map, flatten}
use Rattle.leaf.specs.Choosing.{pick}
use Rattle.leaf.specs.Answers.{Answer, given, refused, refused_at}
use Rattle.leaf.specs.Bytes.{byte, word, long}
use Rattle.card.specs.declared.Card.{Card}
use Rattle.card.specs.Card.{base_kind, Same}
use Rattle.card.specs.Plain.{Known, FirstOut, SettingsMet}
use Rattle.card.specs.Reading.{card_in}
use Rattle.step.specs.declared.Answer.{Answer as Told}
use Rattle.session.specs.declared.Sample.{Sample}
use Rattle.session.specs.declared.Session.{Session}
use Rattle.session.specs.Session.{Outcome}
use Rattle.session.specs.Session.{open_session, sample_of, outcome_of}
use Rattle.session.specs.Runs.{after, outcomes, all_accepted}
use Rattle.rides.specs.Recording.{good_recording, train_of, place_of, first_samples, samples_of}
use Rattle.rides.specs.Ride.{fresh_ride, number_of, shown_of, run_of, whole_ride}
use Rattle.rides.specs.declared.ride.Shown.{Shown}
use Rattle.rides.specs.declared.ride.Shown.TheVariants as shown
use Rattle.receiver.specs.Receiver.{fresh_receiver, start_receiver, quietly, refused_with, place_in, part_with, take_of, end_of, received_all, shown_all, received_pieces, shown_pieces, between_samples}
use Rattle.receiver.specs.declared.Receiver.{Receiver}
use Rattle.receiver.specs.declared.Status.{Status}
use Rattle.receiver.specs.declared.Status.TheVariants.{Open, Ended, Refused}
use Rattle.laws.specs.Ranges.{CardIn, Inside}
use Rattle.printed.specs.declared.Columns.{Columns}
use Rattle.printed.specs.Printed.{highest, printed_ride}
use Rattle.printed_pieces.specs.Pieces.{piece_text, pieces_text, line_printed}
use Rattle.demands.specs.Demand1.{Exactly, refusal_by}
use Rattle.demands.specs.Demand3.{SameSpeaking, SameWithout}
use Rattle.demands.specs.Speaks.{differing_speaks}
use Rattle.demands.specs.Examples.{card_of_a}

-- ---- a line: the card that its receiver was started on, and the bytes that have come

-- the receiver after them, and what they show
abbrev pub after_bytes : Card → List ℕ → Receiver
after_bytes card bytes = received_all (fresh_receiver card) bytes

abbrev pub shown_bytes : Card → List ℕ → List (Answer Told)
shown_bytes card bytes = shown_all (fresh_receiver card) bytes

-- not refused so far
abbrev pub Going : Card → List ℕ → Type 0
Going card bytes = (after_bytes card bytes).status ≡ Open

-- the receiver after them and the announced end, and all that is shown then
abbrev pub after_end : Card → List ℕ → Receiver
after_end card bytes = (end_of (after_bytes card bytes)).receiver

abbrev pub shown_to_end : Card → List ℕ → List (Answer Told)
shown_to_end card bytes = shown_bytes card bytes ++ shown_of (end_of (after_bytes card bytes)).shown

-- numbers that a byte can hold
abbrev pub AllBytes : List ℕ → Type 0
AllBytes [] = Unit
AllBytes (b ∷ rest) = (b < 256) × AllBytes rest

-- ---- the start: "The card is judged when the receiver starts, before any byte" (a11)

pub data StartedAs (card : Card) : Answer Receiver → Type 0 where
  -- 02 g: "the opening now takes the version, and judges version and settings as the writer does (2, then 5)": "5; from g 2, 5" (a11)
  refused_2 : (Known card.version → ⊥) → StartedAs card (refused 2)
  refused_5 : Known card.version → (at : ℕ) → FirstOut base_kind card.version card.settings at → StartedAs card (refused_at 5 at)
  ready : Known card.version → SettingsMet card.version card.settings → StartedAs card (given (fresh_receiver card))

-- ---- 1. "any cutting of the same bytes into pieces": "the receiver gets what has arrived, sometimes nothing"

pub record Cut (r : Receiver) (pieces : List (List ℕ)) : Type 0 where
  pub receiver : received_pieces r pieces ≡ received_all r (flatten pieces)
  pub shown : shown_pieces r pieces ≡ shown_all r (flatten pieces)
  pub text : (columns : Columns) → pieces_text columns r pieces ≡ piece_text columns r (flatten pieces)

-- ---- 2. "give for a good recording the same answers and end as for the whole"

-- what a whole ride shows, as a list: a refusal is all there is
abbrev pub as_shown : Answer (List (Answer Told)) → List (Answer Told)
as_shown (given shown) = shown
as_shown (refused n) = refused n ∷ []
as_shown (refused_at n place) = refused n ∷ []

-- the end of a ride that no sample ended, or the one with this number did
abbrev pub ended_by : ℕ → Status
ended_by n = pick (eqb n 0) Ended (Refused n)

pub record AsWhole (card : Card) (recording : List ℕ) (s : Session) : Type 0 where
  pub session : (after_end card recording).session ≡ (run_of (fresh_ride s) (samples_of recording)).session
  pub status : (after_end card recording).status ≡ ended_by (run_of (fresh_ride s) (samples_of recording)).ended

-- ---- 3. "the answers of the samples complete before the fault"

-- of a beginning with k complete samples: they were all accepted, from the session that was opened, and exactly their answers are out
pub record AtOnce (card : Card) (bytes : List ℕ) (k : ℕ) : Type 0 where
  pub opened : Session
  pub opens : open_session card (train_of bytes) ≡ given opened
  pub accepted : all_accepted opened (first_samples bytes k) ≡ true
  pub answers : shown_bytes card bytes ≡ map outcome_of (outcomes opened (first_samples bytes k))
  pub as_many : length (shown_bytes card bytes) ≡ k
  -- "holding at most one unfinished sample between calls": it is what the bytes behind those samples, fewer than six, make of the session
  -- after them, the stated length and how many bytes came before
  pub holds : after_bytes card bytes
      ≡ received_all (between_samples (after opened (first_samples bytes k)) (long bytes 0) (place_of k)) (drop (place_of k) bytes)

-- ".. then the refusal": of a line that is refused, the first byte at which it is. What was shown before it stays, its number comes last,
-- and the bytes behind it are not looked at (a6)
pub record Fault (card : Card) (bytes : List ℕ) (n : ℕ) : Type 0 where
  pub before : List ℕ
  pub at : ℕ
  pub behind : List ℕ
  pub cut : bytes ≡ before ++ at ∷ behind
  pub going : Going card before
  pub refused_there : take_of (after_bytes card before) at ≡ refused_with n (after_bytes card before)
  pub stays : after_bytes card bytes ≡ (refused_with n (after_bytes card before)).receiver
  pub shown : shown_bytes card bytes ≡ shown_bytes card before ++ refused n ∷ []

-- ---- 4. "at the first byte that makes it certain", and not before

-- a good recording begins with these bytes
pub record BeginsGood (bytes : List ℕ) : Type 0 where
  pub rest : List ℕ
  pub real : AllBytes rest
  pub good : good_recording (bytes ++ rest) ≡ true

-- in the head: 14 where no good recording begins so; 7 at byte 5, for a type that opening refuses (a3)
pub data HeadAs (card : Card) (bytes : List ℕ) : Status → Type 0 where
  refused_14 : (BeginsGood bytes → ⊥) → HeadAs card bytes (Refused 14)
  refused_7 : BeginsGood bytes → length bytes ≡ 6 → open_session card (train_of bytes) ≡ refused 7 → HeadAs card bytes (Refused 7)
  going : BeginsGood bytes → (length bytes ≡ 6 → (s : Session) × (open_session card (train_of bytes) ≡ given s)) → HeadAs card bytes Open

-- the sample that six bytes are: "0–1 pulses, 2 beacon, 3–4 buttons, 5 mode" (a1)
abbrev pub sample_in : List ℕ → Sample
sample_in six = record { pulses = word six 0; beacon = byte six 2; buttons = word six 3; mode = byte six 5 }

-- the bytes of a part completed to a sample
pub record Completed (part rest : List ℕ) : Type 0 where
  pub real : AllBytes rest
  pub six : length (part ++ rest) ≡ 6

-- inside a sample, of fewer than six bytes: 9 where every completion is refused 9
pub data PartAs (s : Session) (part : List ℕ) : Status → Type 0 where
  refused_9 : ((rest : List ℕ) → Completed part rest → sample_of s (sample_in (part ++ rest)) ≡ refusal_by 9 s) → PartAs s part (Refused 9)
  going : (rest : List ℕ) → Completed part rest → (sample_of s (sample_in (part ++ rest)) ≡ refusal_by 9 s → ⊥) → PartAs s part Open

-- the status after a complete sample
abbrev pub status_after : Outcome → Status
status_after (Ok a) = Open
status_after (Err why) = Refused (number_of why)

-- a complete sample is what `sample` says
pub record Complete (card : Card) (before six : List ℕ) (s : Session) : Type 0 where
  pub shown : shown_bytes card (before ++ six) ≡ shown_bytes card before ++ outcome_of (sample_of s (sample_in six)).outcome ∷ []
  pub session : (after_bytes card (before ++ six)).session ≡ (sample_of s (sample_in six)).session
  pub status : (after_bytes card (before ++ six)).status ≡ status_after (sample_of s (sample_in six)).outcome

-- a line between two samples, of which one more is due
pub record Due (card : Card) (before : List ℕ) : Type 0 where
  pub going : Going card before
  pub between : (k : ℕ) × (length before ≡ place_of k)
  pub due : length before < long before 0

-- ---- 5. "later pieces get the same"

-- of a receiver that is refused, whatever comes: nothing changes, nothing is shown or printed
pub record Still (r : Receiver) (pieces : List (List ℕ)) : Type 0 where
  pub receiver : received_pieces r pieces ≡ r
  pub shown : shown_pieces r pieces ≡ []
  pub text : (columns : Columns) → pieces_text columns r pieces ≡ []
  pub at_the_end : end_of r ≡ quietly r

-- what an announced end leaves and shows
abbrev pub at_end : Card → List ℕ → Status × List (Answer Told)
at_end card bytes = ((after_end card bytes).status, shown_of (end_of (after_bytes card bytes)).shown)

-- "a recording that stops early is refused then" (a2, a8): an end is good where the bytes are a good recording, and else 14, which is shown
pub data EndAs (card : Card) (bytes : List ℕ) : Status × List (Answer Told) → Type 0 where
  ended : Going card bytes → good_recording bytes ≡ true → EndAs card bytes (Ended, [])
  early : Going card bytes → good_recording bytes ≡ false → EndAs card bytes (Refused 14, refused 14 ∷ [])
  refused_before : (n : ℕ) → (after_bytes card bytes).status ≡ Refused n → EndAs card bytes (Refused n, [])

-- ---- 6. "Demands 2 and 3 read for the pieces put together"

-- what a line shows in these pieces, and whether it goes on; and with its end
pub record Line : Type 0 where
  pub shown : List (Answer Told)
  pub status : Status
  pub shown_at_end : List (Answer Told)
  pub end : Status

abbrev pub line_on : Card → List (List ℕ) → Line
line_on card pieces =
    let r = received_pieces (fresh_receiver card) pieces in
    record { shown = shown_pieces (fresh_receiver card) pieces; status = r.status; shown_at_end = shown_of (end_of r).shown; end = (end_of r).receiver.status }

-- on a card that was read, or not
abbrev pub line_from : Answer Card → List (List ℕ) → Answer Line
line_from (given card) pieces = given (line_on card pieces)
line_from (refused n) pieces = refused n
line_from (refused_at n place) pieces = refused_at n place

abbrev pub line_of : List ℕ → ℕ → List (List ℕ) → Answer Line
line_of area highest pieces = line_from (card_in area highest) pieces

-- "the first accepted sample at which a differing function speaks" has not come: a byte that brings an answer completes an accepted sample, the
-- part that is held with this byte; at none of these does a function that differs from card t speak
abbrev pub Answers : Shown → Type 0
Answers (shown.Answered a) = Unit
Answers (shown.Refused n) = ⊥
Answers shown.Nothing = ⊥

abbrev pub NoneSpeaks : Card → Receiver → List ℕ → Type 0
NoneSpeaks t r [] = Unit
NoneSpeaks t r (b ∷ rest) =
    (Answers (take_of r b).shown → differing_speaks r.session t (part_with r.part (place_in r) b) ≡ false) × NoneSpeaks t (take_of r b).receiver rest

-- ---- the statements

pub record Pieces : Type 0 where
  pub starts : (card : Card) → Exactly (start_receiver card) (StartedAs card)
  -- 1. Any cutting of the same bytes into pieces, empty ones included, of any receiver: the same receiver, with its status, the same answers
  -- in order and the same text as of the bytes in one piece.
  pub cuts : (r : Receiver) (pieces : List (List ℕ)) → Cut r pieces
  -- 2. A good recording, and then the end: the answers of the whole ride up to its refusal, its session and its end.
  pub answers_as_whole : (card : Card) (recording : List ℕ) → good_recording recording ≡ true
      → shown_to_end card recording ≡ as_shown (whole_ride card recording)
  pub ends_as_whole : (card : Card) (recording : List ℕ) (s : Session) → good_recording recording ≡ true
      → open_session card (train_of recording) ≡ given s → AsWhole card recording s
  -- So is the text, with any card: heading, lines and refusal line are those of the printed ride.
  pub prints_as_whole : (columns : Columns) (area : List ℕ) (pieces : List (List ℕ)) → good_recording (flatten pieces) ≡ true
      → line_printed columns area pieces ≡ printed_ride columns area (flatten pieces)
  -- 3. After every beginning of 6 + 6k + j bytes that is not refused, j < 6, exactly k answers are out; in the head none. And every refused line
  -- has its fault: what was complete before is shown, then the number.
  pub at_once : (card : Card) (bytes : List ℕ) (k j : ℕ) → length bytes ≡ 6 + 6 * k + j → j < 6 → Going card bytes
      → AtOnce card bytes k
  pub head_shows_none : (card : Card) (bytes : List ℕ) → length bytes < 6 → Going card bytes → shown_bytes card bytes ≡ []
  pub faults : (card : Card) (bytes : List ℕ) (n : ℕ) → (after_bytes card bytes).status ≡ Refused n → Fault card bytes n
  -- 4. Certain, and not before: in the head; inside a sample; a complete sample. Of every line, whose session is inside its ranges.
  pub heads : (card : Card) (bytes : List ℕ) → CardIn card → length bytes ≤ 6
      → Exactly (after_bytes card bytes).status (HeadAs card bytes)
  pub inside : (card : Card) (before : List ℕ) → Due card before → Inside (after_bytes card before).session
  pub parts : (card : Card) (before part : List ℕ) → Due card before → length part ≤ 5 → AllBytes part
      → Exactly (after_bytes card (before ++ part)).status (PartAs (after_bytes card before).session part)
  pub samples : (card : Card) (before six : List ℕ) → Due card before → length six ≡ 6
      → Complete card before six (after_bytes card before).session
  -- 5. Once refused, the same number and nothing else, for every later piece and end; a byte past the stated length is 14; an end that is early
  -- is 14. After a good end nothing changes but that a byte is 14 (a9).
  pub refused_for_good : (r : Receiver) (n : ℕ) → r.status ≡ Refused n → (pieces : List (List ℕ)) → Still r pieces
  pub past : (card : Card) (bytes : List ℕ) (b : ℕ) → Going card bytes → 6 ≤ length bytes → length bytes ≡ long bytes 0
      → take_of (after_bytes card bytes) b ≡ refused_with 14 (after_bytes card bytes)
  pub ends : (card : Card) (bytes : List ℕ) → Exactly (at_end card bytes) (EndAs card bytes)
  pub ended_for_good : (r : Receiver) → r.status ≡ Ended
      → (received_all r [] ≡ r) × (shown_all r [] ≡ []) × (end_of r ≡ quietly r) × ((b : ℕ) → take_of r b ≡ refused_with 14 r)
  -- 6. Demand 3 of what a receiver shows, for every cutting. 3a, 3b; 3c: as long as no function that differs has spoken at an accepted sample,
  -- so that all is alike up to the last byte before the sample at which one speaks is complete.
  pub silent_bytes : (a b : List ℕ) (h : ℕ) → SameSpeaking a b → (pieces : List (List ℕ)) → line_of b h pieces ≡ line_of a h pieces
  pub versions_silent : (a b : List ℕ) (h g : ℕ) (s t : Card) → card_in a h ≡ given s → card_in b g ≡ given t → SameWithout a b
      → (pieces : List (List ℕ)) → line_of a h pieces ≡ line_of b g pieces
  pub functions_silent : (a b : List ℕ) (h g : ℕ) (s t : Card) → card_in a h ≡ given s → card_in b g ≡ given t → Same a b 3 39
      → (pieces : List (List ℕ)) → NoneSpeaks t (fresh_receiver s) (flatten pieces) → line_of a h pieces ≡ line_of b g pieces
  -- and the same of the line as it is printed
  pub silent_print : (columns : Columns) (a b : List ℕ) → SameSpeaking a b
      → (pieces : List (List ℕ)) → line_printed columns a pieces ≡ line_printed columns b pieces
  pub versions_print : (columns : Columns) (a b : List ℕ) (s t : Card) → card_in a highest ≡ given s → card_in b highest ≡ given t → SameWithout a b
      → (pieces : List (List ℕ)) → line_printed columns a pieces ≡ line_printed columns b pieces
  pub functions_print : (columns : Columns) (a b : List ℕ) (s t : Card) → card_in a highest ≡ given s → card_in b highest ≡ given t → Same a b 3 39
      → (pieces : List (List ℕ)) → NoneSpeaks t (fresh_receiver s) (flatten pieces) → line_printed columns a pieces ≡ line_printed columns b pieces
  -- 7. A receiver is session, stated length, bytes taken, unfinished sample and status, and nothing else: two that agree on these are one, and so
  -- answer alike for ever.
  pub no_more : (r q : Receiver) → r.session ≡ q.session → r.stated ≡ q.stated → r.taken ≡ q.taken → r.part ≡ q.part
      → r.status ≡ q.status → r ≡ q

-- ---- both sides of each line, on card A (vmax 160, tick length 100)

abbrev pub statuses_of : List (List ℕ) → List Status
statuses_of lines = map (λ bytes. (after_bytes card_of_a bytes).status) lines

-- the head of a ride of one sample, type 6
abbrev pub one : List ℕ → List ℕ
one sample = 0x00 ∷ 0x00 ∷ 0x00 ∷ 0x0C ∷ 0x01 ∷ 0x06 ∷ sample

-- document 01's ride, cut into 15 and 9 bytes
abbrev pub first15 : List ℕ
first15 = 0x00 ∷ 0x00 ∷ 0x00 ∷ 0x18 ∷ 0x01 ∷ 0x06 ∷ 0x00 ∷ 0x00 ∷ 0x00 ∷ 0x00 ∷ 0x00 ∷ 0x01 ∷ 0x00 ∷ 0x64 ∷ 0x07 ∷ []

abbrev pub last9 : List ℕ
last9 = 0x00 ∷ 0x00 ∷ 0x01 ∷ 0x00 ∷ 0x64 ∷ 0x00 ∷ 0x00 ∷ 0x10 ∷ 0x01 ∷ []

abbrev pub told : ℕ → ℕ → ℕ → Answer Told
told speed lamps cause = given (record { speed = speed; lamps = lamps; cause = cause; icon = 0; limit = false })

pub record LineExamples : Type 0 where
  -- "14 is certain at byte 0 or 1 not 0; byte 2 above EA; byte 3 when the length is not 6 + 6n, n ≤ 10,000 (greatest 0000EA66; 00000000 is bad);
  -- byte 4 not 1; the first byte past the stated length" (a2)
  pub good_heads : statuses_of
      ([] ∷ (0x00 ∷ []) ∷ (0x00 ∷ 0x00 ∷ []) ∷ (0x00 ∷ 0x00 ∷ 0xEA ∷ []) ∷ (0x00 ∷ 0x00 ∷ 0xEA ∷ 0x66 ∷ []) ∷ (0x00 ∷ 0x00 ∷ 0x00 ∷ 0x06 ∷ [])
      ∷ (0x00 ∷ 0x00 ∷ 0x00 ∷ 0x06 ∷ 0x01 ∷ []) ∷ (0x00 ∷ 0x00 ∷ 0x00 ∷ 0x06 ∷ 0x01 ∷ 0x06 ∷ []) ∷ [])
      ≡ Open ∷ Open ∷ Open ∷ Open ∷ Open ∷ Open ∷ Open ∷ Open ∷ []
  pub bad_heads : statuses_of
      ((0x01 ∷ []) ∷ (0x00 ∷ 0x01 ∷ []) ∷ (0x00 ∷ 0x00 ∷ 0xEB ∷ []) ∷ (0x00 ∷ 0x00 ∷ 0xEA ∷ 0x67 ∷ []) ∷ (0x00 ∷ 0x00 ∷ 0xEA ∷ 0x6C ∷ [])
      ∷ (0x00 ∷ 0x00 ∷ 0x00 ∷ 0x00 ∷ []) ∷ (0x00 ∷ 0x00 ∷ 0x00 ∷ 0x07 ∷ []) ∷ (0x00 ∷ 0x00 ∷ 0x00 ∷ 0x06 ∷ 0x02 ∷ [])
      ∷ (0x00 ∷ 0x00 ∷ 0x00 ∷ 0x06 ∷ 0x01 ∷ 0x06 ∷ 0x00 ∷ []) ∷ [])
      ≡ Refused 14 ∷ Refused 14 ∷ Refused 14 ∷ Refused 14 ∷ Refused 14 ∷ Refused 14 ∷ Refused 14 ∷ Refused 14 ∷ Refused 14 ∷ []
  -- "7 is certain at byte 5" (a3), also in a recording that then stops early (a5)
  pub types : statuses_of
      ((0x00 ∷ 0x00 ∷ 0x00 ∷ 0x0C ∷ 0x01 ∷ 0x00 ∷ []) ∷ (0x00 ∷ 0x00 ∷ 0x00 ∷ 0x0C ∷ 0x01 ∷ 0x06 ∷ []) ∷ (0x00 ∷ 0x00 ∷ 0x00 ∷ 0x0C ∷ 0x01 ∷ 0x09 ∷ []) ∷ [])
      ≡ Refused 7 ∷ Open ∷ Refused 7 ∷ []
  -- "9 is certain at a sample's byte 2 (above 11, from c above 12), 3 (above 7) or 5 (mode). 10 and 11 only at 5, since a 9 could still go before them" (a4)
  pub parts : statuses_of
      (one (0xFF ∷ 0xFF ∷ []) ∷ one (0xFF ∷ 0xFF ∷ 0x0C ∷ []) ∷ one (0xFF ∷ 0xFF ∷ 0x0D ∷ []) ∷ one (0xFF ∷ 0xFF ∷ 0xFF ∷ []) ∷ one (0xFF ∷ 0xFF ∷ 0x0C ∷ 0x07 ∷ [])
      ∷ one (0xFF ∷ 0xFF ∷ 0x0C ∷ 0x08 ∷ []) ∷ one (0xFF ∷ 0xFF ∷ 0x0C ∷ 0x07 ∷ 0xFF ∷ []) ∷ [])
      ≡ Open ∷ Open ∷ Refused 9 ∷ Refused 9 ∷ Open ∷ Refused 9 ∷ Open ∷ []
  pub modes : statuses_of
      (one (0xFF ∷ 0xFF ∷ 0x0C ∷ 0x07 ∷ 0xFF ∷ 0x00 ∷ []) ∷ one (0xFF ∷ 0xFF ∷ 0x0C ∷ 0x07 ∷ 0xFF ∷ 0x03 ∷ []) ∷ one (0xFF ∷ 0xFF ∷ 0x0C ∷ 0x07 ∷ 0xFF ∷ 0x01 ∷ [])
      ∷ one (0x00 ∷ 0x01 ∷ 0x0C ∷ 0x07 ∷ 0xFF ∷ 0x02 ∷ []) ∷ one (0x00 ∷ 0x01 ∷ 0x0C ∷ 0x07 ∷ 0xFF ∷ 0x01 ∷ []) ∷ [])
      ≡ Refused 9 ∷ Refused 9 ∷ Refused 10 ∷ Refused 11 ∷ Open ∷ []
  -- "With all stated bytes in, the recording stays open until the end is announced; the good end comes then, n = 0 too" (a8); "FFFF, then the end
  -- is 14" (a4)
  pub ends : map (λ bytes. (after_end card_of_a bytes).status)
      ((0x00 ∷ 0x00 ∷ 0x00 ∷ 0x06 ∷ 0x01 ∷ 0x06 ∷ []) ∷ [] ∷ one [] ∷ one (0xFF ∷ 0xFF ∷ []) ∷ (first15 ++ last9) ∷ first15 ∷ [])
      ≡ Ended ∷ Refused 14 ∷ Refused 14 ∷ Refused 14 ∷ Ended ∷ Refused 14 ∷ []
  -- document 01's ride in pieces of 15 and 9 bytes, an empty one between them
  pub cut_15 : shown_pieces (fresh_receiver card_of_a) (first15 ∷ [] ∷ []) ≡ told 10000 0 0 ∷ []
  pub cut_15_9 : shown_pieces (fresh_receiver card_of_a) (first15 ∷ [] ∷ last9 ∷ []) ≡ told 10000 0 0 ∷ told 8000 16 0 ∷ told 8000 0 0 ∷ []
