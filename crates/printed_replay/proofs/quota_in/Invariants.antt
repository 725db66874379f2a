use Rattle.printed_replay.proofs.Words.{Said}
use Rattle.printed_replay.proofs.quota_in.Given as goal

abbrev pub invariant-loop-byte : goal.invariant-loop-byte
invariant-loop-byte l = Said l.word l.byte-index l.quota
