-- Document 02 a), "The ride over the serial line": "Take a recording as it comes, holding at most one unfinished sample between calls".
-- "Held between calls: at most 5 bytes of a sample or the head, stated length, bytes taken, session" (a10): a receiver holds these and its
-- status, and nothing else; of the head's bytes what they state.
-- What a byte does to it, what an announced end does, and then whole pieces. (a1 to a11 are the readings of 02.)
use Rattle.std.specs.Prelude.{ℕ, ◌+◌, ◌*◌, ◌/◌, ◌%◌, ◌≡◌, Bool, true, false, ◌&&◌, List, [], ◌∷◌, ◌++◌, Result, leb, ltb, eqb}
use Rattle.leaf.specs.Choosing.{pick}
use Rattle.leaf.specs.Numbers.{code_top, buttons_top}
use Rattle.leaf.specs.Answers.{Answer, given, refused, refused_at, on_paper}
use Rattle.leaf.specs.declared.refusal.Refusal.{Refusal}
use Rattle.card.specs.declared.Card.{Card}
use Rattle.step.specs.declared.Answer.{Answer as Told}
use Rattle.session.specs.declared.Sample.{Sample}
use Rattle.session.specs.declared.Session.{Session}
use Rattle.session.specs.Session.{fresh_session, judge_card, open_session}
use Rattle.rides.specs.Recording.{most_samples, place_of}
use Rattle.rides.specs.Ride.{fresh_ride, turn_of, shown_of, turn_shows}
use Rattle.rides.specs.declared.ride.Shown.TheVariants as shown
use Rattle.rides.specs.declared.ride.Turned.{Turned}
use Rattle.receiver.specs.declared.Status.{Status}
use Rattle.receiver.specs.declared.Status.TheVariants as status
use Rattle.receiver.specs.declared.Receiver.{Receiver}
use Rattle.receiver.specs.declared.Received.{Received}

-- ---- a receiver with one member changed, all else as it was

abbrev pub with_stated : ℕ → Receiver → Receiver
with_stated stated r = record { session = r.session; stated = stated; taken = r.taken; part = r.part; status = r.status }

abbrev pub with_part : Sample → Receiver → Receiver
with_part part r = record { session = r.session; stated = r.stated; taken = r.taken; part = part; status = r.status }

abbrev pub with_session : Session → Receiver → Receiver
with_session s r = record { session = s; stated = r.stated; taken = r.taken; part = r.part; status = r.status }

abbrev pub with_status : Status → Receiver → Receiver
with_status now r = record { session = r.session; stated = r.stated; taken = r.taken; part = r.part; status = now }

-- ---- the start: "The card is judged when the receiver starts, before any byte" (a11)

-- of a sample nothing has come
abbrev pub no_part : Sample
no_part = record { pulses = 0; beacon = 0; buttons = 0; mode = 0 }

-- before the first byte: of the session the card alone, since the train type is still to come
abbrev pub fresh_receiver : Card → Receiver
fresh_receiver card = record { session = fresh_session card 0; stated = 0; taken = 0; part = no_part; status = status.Open }

-- what each case of a start's answer is on paper
abbrev pub started_of : Result Receiver Refusal → Answer Receiver
started_of = on_paper

-- the card is judged as the opening judges it: "5; from g 2, 5" (a11), 5 with its place
abbrev pub started_after : Answer Unit → Card → Answer Receiver
started_after (given u) card = given (fresh_receiver card)
started_after (refused n) card = refused n
started_after (refused_at n place) card = refused_at n place

unfoldable pub start_receiver : Card → Answer Receiver
start_receiver card = started_after (judge_card card) card

-- ---- what becomes of a byte, or of an end

-- it shows nothing
abbrev pub quietly : Receiver → Received
quietly r = record { receiver = r; shown = shown.Nothing }

-- it is refused: the number is shown, and the status alone changes
unfoldable pub refused_with : ℕ → Receiver → Received
refused_with n r = record { receiver = with_status (status.Refused n) r; shown = shown.Refused n }

-- it counts as taken
abbrev pub counted_in : Receiver → Receiver
counted_in r = record { session = r.session; stated = r.stated; taken = r.taken + 1; part = r.part; status = r.status }

-- ---- a pair of bytes: "Numbers are big-endian", the high byte comes first

-- the high byte is in, the low one is still 0
abbrev pub high_in : ℕ → ℕ
high_in b = b * 256

-- the low byte is in too
abbrev pub low_in : ℕ → ℕ → ℕ
low_in x b = x / 256 * 256 + b

-- ---- the head: "0–3 length, 4 version, 5 type" (a1)

-- "length not 6 + 6n with n ≤ 10,000": the greatest, 0000EA66
abbrev pub length_top : ℕ
length_top = place_of most_samples

abbrev pub length_fits : ℕ → Bool
length_fits stated = leb 6 stated && leb stated length_top && eqb (stated % 6) 0

-- "14 is certain at byte 0 or 1 not 0; byte 2 above EA; byte 3 when the length is not 6 + 6n, n ≤ 10,000; byte 4 not 1" (a2): may the byte
-- stand at this place of the head
unfoldable pub head_fits : ℕ → ℕ → ℕ → Bool
head_fits stated place b =
    pick (eqb place 0) (eqb b 0)
    (pick (eqb place 1) (eqb b 0)
    (pick (eqb place 2) (leb b (length_top / 256)) (pick (eqb place 3) (length_fits (low_in stated b)) (pick (eqb place 4) (eqb b 1) true))))

-- the stated length, as far as its bytes are in
unfoldable pub stated_with : ℕ → ℕ → ℕ → ℕ
stated_with stated place b = pick (eqb place 2) (high_in b) (pick (eqb place 3) (low_in stated b) stated)

-- "7 is certain at byte 5" (a3): the session is opened, or what refuses it is shown
unfoldable pub opened_with : Receiver → Answer Session → Received
opened_with r (given s) = quietly (counted_in (with_session s r))
opened_with r (refused n) = refused_with n r
opened_with r (refused_at n place) = refused_with n r

unfoldable pub head_takes : Receiver → ℕ → Received
head_takes r b =
    pick (head_fits r.stated r.taken b)
    (pick (eqb r.taken 5) (opened_with r (open_session r.session.card b)) (quietly (counted_in (with_stated (stated_with r.stated r.taken b) r))))
    (refused_with 14 r)

-- ---- the samples: "in a sample 0–1 pulses, 2 beacon, 3–4 buttons, 5 mode" (a1)

-- where in its sample the next byte stands
abbrev pub place_in : Receiver → ℕ
place_in r = r.taken % 6

-- "9 is certain at a sample's byte 2 (above 11, from c above 12), 3 (above 7) or 5 (mode). 10 and 11 only at 5" (a4): may the byte stand at
-- this place before the last; at the last the whole sample is judged
unfoldable pub part_fits : ℕ → ℕ → Bool
part_fits place b = pick (eqb place 2) (leb b code_top) (pick (eqb place 3) (leb b (buttons_top / 256)) true)

-- the unfinished sample with the byte of this place: what has come stands in it, the rest is 0
unfoldable pub part_with : Sample → ℕ → ℕ → Sample
part_with x place b =
    pick (eqb place 0) (record { pulses = high_in b; beacon = x.beacon; buttons = x.buttons; mode = x.mode })
    (pick (eqb place 1) (record { pulses = low_in x.pulses b; beacon = x.beacon; buttons = x.buttons; mode = x.mode })
    (pick (eqb place 2) (record { pulses = x.pulses; beacon = b; buttons = x.buttons; mode = x.mode })
    (pick (eqb place 3) (record { pulses = x.pulses; beacon = x.beacon; buttons = high_in b; mode = x.mode })
    (pick (eqb place 4) (record { pulses = x.pulses; beacon = x.beacon; buttons = low_in x.buttons b; mode = x.mode })
    (record { pulses = x.pulses; beacon = x.beacon; buttons = x.buttons; mode = b })))))

-- "the answers of the samples complete before the fault, then the refusal": a sample that is complete is run, and what its turn shows is
-- shown; an accepted one leaves the session after it and no part of a sample
unfoldable pub completed_by : Receiver → Turned → Received
completed_by r t =
    record {
      receiver = pick (eqb t.ride.ended 0) (counted_in (with_part no_part (with_session t.ride.session r))) (with_status (status.Refused t.ride.ended) r);
      shown = t.shown;
    }

unfoldable pub sample_takes : Receiver → ℕ → Received
sample_takes r b =
    pick (part_fits (place_in r) b)
    (pick (eqb (place_in r) 5) (completed_by r (turn_of (fresh_ride r.session) (part_with r.part (place_in r) b))) (quietly (counted_in (with_part (part_with r.part (place_in r) b) r))))
    (refused_with 9 r)

-- ---- a byte: "Refusals: 14, 7 or a sample's number, at the first byte that makes it certain; later pieces get the same."

-- "Faults count as they arrive" (a5): a byte is judged by what came before it alone, and "bytes behind the fault are not looked at" (a6)

-- the head, then the samples; "the first byte past the stated length" is 14 (a2)
unfoldable pub open_takes : Receiver → ℕ → Received
open_takes r b =
    pick (ltb r.taken 6) (head_takes r b) (pick (ltb r.taken r.stated) (sample_takes r b) (refused_with 14 r))

-- "After a good end .. a byte is 14" (a9); once refused, a byte changes nothing, and nothing more is shown (a7)
unfoldable pub take_as : Status → Receiver → ℕ → Received
take_as status.Open r b = open_takes r b
take_as status.Ended r b = refused_with 14 r
take_as (status.Refused n) r b = quietly r

unfoldable pub take_of : Receiver → ℕ → Received
take_of r b = take_as r.status r b

-- ---- the end: "The end is announced by the sender; a recording that stops early is refused then."

-- all stated bytes are in
abbrev pub whole_in : Receiver → Bool
whole_in r = leb 6 r.taken && eqb r.taken r.stated

-- "With all stated bytes in, the recording stays open until the end is announced; the good end comes then" (a8), "an announced end short of
-- it" is 14 (a2); a second end, or one behind a refusal, changes nothing (a7, a9)
unfoldable pub end_as : Status → Receiver → Received
end_as status.Open r = pick (whole_in r) (quietly (with_status status.Ended r)) (refused_with 14 r)
end_as status.Ended r = quietly r
end_as (status.Refused n) r = quietly r

unfoldable pub end_of : Receiver → Received
end_of r = end_as r.status r

-- ---- pieces: "the receiver gets what has arrived, sometimes nothing"

-- the receiver after the bytes of a piece
unfoldable pub received_all : Receiver → List ℕ → Receiver
received_all r [] = r
received_all r (b ∷ piece) = received_all (take_of r b).receiver piece

-- "A call gives the answers of all samples its piece completes, then the refusal if the fault is in it" (a6): what it shows, in order
unfoldable pub shown_all : Receiver → List ℕ → List (Answer Told)
shown_all r [] = []
shown_all r (b ∷ piece) = shown_of (take_of r b).shown ++ shown_all (take_of r b).receiver piece

-- piece by piece
unfoldable pub received_pieces : Receiver → List (List ℕ) → Receiver
received_pieces r [] = r
received_pieces r (piece ∷ rest) = received_pieces (received_all r piece) rest

unfoldable pub shown_pieces : Receiver → List (List ℕ) → List (Answer Told)
shown_pieces r [] = []
shown_pieces r (piece ∷ rest) = shown_all r piece ++ shown_pieces (received_all r piece) rest

-- samples number from 1: the one that the next byte belongs to
abbrev pub number_now : Receiver → ℕ
number_now r = r.taken / 6

-- ---- between two samples

-- open, with no part of a sample held
abbrev pub between_samples : Session → ℕ → ℕ → Receiver
between_samples s stated taken = record { session = s; stated = stated; taken = taken; part = no_part; status = status.Open }

-- the sample that six bytes are: "0–1 pulses, 2 beacon, 3–4 buttons, 5 mode" (a1)
abbrev pub sample_from : ℕ → ℕ → ℕ → ℕ → ℕ → ℕ → Sample
sample_from a b c d e f = record { pulses = a * 256 + b; beacon = c; buttons = d * 256 + e; mode = f }

-- six bytes of a sample come to a receiver between two samples: what is shown is what the sample's turn shows; where the turn goes on,
-- the receiver stands before the next sample with the session after it; where not, it is refused with the sample's number, and its
-- session is as it was
pub record SampleTaken (s : Session) (stated taken : ℕ) (x : Sample) (bytes : List ℕ) : Type 0 where
  pub shows : shown_all (between_samples s stated taken) bytes ≡ turn_shows (fresh_ride s) x
  pub goes_on : eqb (turn_of (fresh_ride s) x).ride.ended 0 ≡ true
      → received_all (between_samples s stated taken) bytes ≡ between_samples (turn_of (fresh_ride s) x).ride.session stated (taken + 6)
  pub stops : eqb (turn_of (fresh_ride s) x).ride.ended 0 ≡ false
      → ((received_all (between_samples s stated taken) bytes).status ≡ status.Refused (turn_of (fresh_ride s) x).ride.ended)
      × ((received_all (between_samples s stated taken) bytes).session ≡ s)
