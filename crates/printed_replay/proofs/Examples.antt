-- Document 01's ride on card A, replayed in quotas of 1, 1, 0 and 5: its three answers, each once, and none where none ran.
use Prim.Native.Nat.{ℕ}
use mathlib.Core.Path.{◌≡◌, refl}
use mathlib.Core.List.{List, [], ◌∷◌, ◌++◌}
use Rattle.leaf.specs.Bytes.{long}
use Rattle.card.specs.CardA.{card_a_bytes}
use Rattle.text.specs.Decimal.{newline, upper_of, lower_of, decimal}
use Rattle.text.specs.Words.{ascii}
use Rattle.rides.specs.Recording.{good_recording}
use Rattle.rides.specs.Ride.{start_ride, told_of, turn_of, turn_at, ride_from}
use Rattle.rides.specs.Replay.{steps_from, last_from, ran_from, unrun_by, replay_of}
use Rattle.printed.proofs.Computes.{answers}
use Rattle.printed.proofs.Examples.{ride_a}
use Rattle.printed.specs.Printed.{start_on}
use Rattle.printed_replay.specs.Quotas.{heading, begun_text, start_text, ran_line, replayed_text, quota_text, quotas_text, replay_printed}

abbrev pub quotas_a : List ℕ
quotas_a =
    ascii "0 1 10000 0 0 0 0" ++ newline ∷ []
    ++ ascii "1 1 8000 16 0 0 0" ++ newline ∷ []
    ++ ascii "2 0 none" ++ newline ∷ []
    ++ ascii "2 1 8000 0 0 0 0" ++ newline ∷ []

pub paper_replay : replay_printed (card_a_bytes 0x27 0x01 0xA0) ride_a (1 ∷ 1 ∷ 0 ∷ 5 ∷ []) ≡ heading ++ quotas_a
unfolding answers long upper_of lower_of decimal good_recording start_ride told_of turn_of turn_at ride_from steps_from last_from ran_from unrun_by replay_of start_on begun_text start_text ran_line replayed_text quota_text quotas_text replay_printed
paper_replay = refl
