-- Document 01, "The card" and refusals 2, 5 and 13, and 02 g: what the writer answers, and what it leaves in the buffer lent to it.
use Rattle.std.specs.Prelude.{ℕ, List, [], ◌∷◌, ◌++◌, Bool, leb, eqb, take, drop, Result}
use Rattle.leaf.specs.Bytes.{pair}
use Rattle.leaf.specs.Checks.{Check, first_bad}
use Rattle.leaf.specs.Answers.{Answer, given, refused, refused_at, on_paper}
use Rattle.leaf.specs.declared.refusal.Refusal.{Refusal}
use Rattle.card.specs.Card.{length_of, known, speeds_of}
use Rattle.card.specs.Ranges.{fault_of}
use Rattle.card.specs.Reading.{answer_by}
use Rattle.card.specs.declared.Row.{Row}
use Rattle.card.specs.declared.Pairs.{Pairs}
use Rattle.card.specs.declared.Settings.{Settings}

-- ---- the record

-- "rows of four: initial, final, delay, drop"
abbrev pub row_bytes : Row → List ℕ
row_bytes row = row.initial ∷ row.last ∷ row.delay ∷ row.drop ∷ []

-- 02 g: "bytes 44–47, the speeds .., and byte 48, the pair distance"
abbrev pub pairs_bytes : Pairs → List ℕ
pairs_bytes pairs = speeds_of pairs ++ (pairs.distance ∷ [])

-- the settings in their order, from vmax to the pair distance; "Big-endian". With bit 2 off X and Y are 0, so that the writer "zeroes silent bytes"
abbrev pub settings_bytes : Settings → List ℕ
settings_bytes s =
    (s.vmax ∷ []) ++ pair s.tick ++ (s.bts ∷ [])
    ++ row_bytes s.conditional_clear ++ row_bytes s.announcement ++ row_bytes s.preannouncement ++ row_bytes s.caution
    ++ row_bytes s.before_stop ++ row_bytes s.crossing ++ row_bytes s.limit ++ row_bytes s.start
    ++ (s.functions ∷ []) ++ pair s.x ++ pair s.y ++ pairs_bytes s.pairs

-- "Bytes 0–1 length of the whole record, 2 version", then the settings: as many bytes as the longest record has
unfoldable pub bytes_of : ℕ → Settings → List ℕ
bytes_of version s = pair (length_of version) ++ (version ∷ []) ++ settings_bytes s

-- the record of a version: as long as that version's
unfoldable pub record_of : ℕ → Settings → List ℕ
record_of version s = take (length_of version) (bytes_of version s)

-- ---- the refusals

-- "writing 2, 5, 13"
-- 2 card version .. (writer: not 1 or 2, or (02 g) 3)
-- 5 setting out of range
-- 13 writer's buffer shorter than the record
abbrev pub write_checks : ℕ → Bool → ℕ → List Check
write_checks version fine room = (2, known version) ∷ (5, fine) ∷ (13, leb (length_of version) room) ∷ []

-- the checks of a version, settings and a buffer of `room` bytes
abbrev pub record_checks : ℕ → Settings → ℕ → List Check
record_checks version s room = write_checks version (eqb (fault_of version s) 0) room

abbrev pub written : Unit {0}
written = tt

-- "The version goes beside the settings to the writer": what it answers where it is lent a buffer of `room` bytes
unfoldable pub write_card : ℕ → Settings → ℕ → Answer Unit
write_card version s room = answer_by (first_bad 0 (record_checks version s room)) (fault_of version s) written

-- what the writer's answer is on paper
abbrev pub written_of : Result Unit Refusal → Answer Unit
written_of result = on_paper result

-- ---- the buffer

-- what it holds afterwards: the record, and "nothing beyond the record" touched; "A refusal .. leaves buffers .. unchanged"
abbrev pub leaves : Answer Unit → ℕ → Settings → List ℕ → List ℕ
leaves (given _) version s buffer = record_of version s ++ drop (length_of version) buffer
leaves (refused number) version s buffer = buffer
leaves (refused_at number place) version s buffer = buffer
