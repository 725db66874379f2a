-- Request a: the start, any cutting of the bytes, the first fault of a line and what stays after it, and that a receiver is its five parts.
use Prim.Native.Nat.{ℕ}
use native.Mathlib.Omega.{arith}
use mathlib.Core.List.{List, [], ◌∷◌, ◌++◌, append_assoc, append-nil, flatten}
use mathlib.Core.Logic.{inl, inr}
use mathlib.Core.Path.{◌≡◌, refl, sym, ap, ◌∙◌}
use Rattle.leaf.specs.Answers.{Answer, given, refused, refused_at}
use Rattle.card.specs.declared.Card.{Card}
use Rattle.step.specs.declared.Answer.{Answer as Told}
use Rattle.session.specs.declared.Sample.{Sample}
use Rattle.session.specs.declared.Session.{Session}
use Rattle.session.specs.Session.{judge_card}
use Rattle.receiver.specs.Receiver.{fresh_receiver, started_after, start_receiver, quietly, refused_with, take_of, end_of, received_all, shown_all}
use Rattle.receiver.specs.declared.Receiver.{Receiver}
use Rattle.receiver.specs.declared.Status.{Status}
use Rattle.receiver.specs.declared.Status.TheVariants.{Ended, Refused}
use Rattle.receiver.proofs.Receivers.{received_append, shown_append, received_none, received_cut, shown_cut, refused_stays, refused_ends, ended_takes, ended_ends}
use Rattle.receiver.proofs.SixBytes.{fault}
use Rattle.receiver.proofs.Steps.{Step, step_of}
use Rattle.printed_pieces.proofs.PieceTexts.{pieces_text_lem, refused_prints}
use Rattle.demands.specs.Demand1.{Exactly}
use Rattle.demands.specs.Pieces.{after_bytes, shown_bytes, Going, StartedAs, Cut, Fault, Still}
use Rattle.demands.specs.Pieces as paper
use Rattle.demands.proofs.Answered.{exactly, JudgedAs, judged_is, judged_only}
use Rattle.demands.proofs.Answered as judged

-- ---- the start

module _ (card : Card) where
  started_is : StartedAs card (start_receiver card)
  unfolding start_receiver
  started_is = from (judge_card card) (judged_is card)
    where
      from : (a : Answer Unit) → JudgedAs card a → StartedAs card (started_after a card)
      from a (judged.JudgedAs.unknown u) = paper.StartedAs.refused_2 u
      from a (judged.JudgedAs.out_of_range k at f) = paper.StartedAs.refused_5 k at f
      from a (judged.JudgedAs.fine k m) = paper.StartedAs.ready k m

  started_only : (a : Answer Receiver) → StartedAs card a → start_receiver card ≡ a
  unfolding start_receiver
  started_only a (paper.StartedAs.refused_2 u) = rw (judged_only card (refused 2) (judged.JudgedAs.unknown u))
  started_only a (paper.StartedAs.refused_5 k at f) = rw (judged_only card (refused_at 5 at) (judged.JudgedAs.out_of_range k at f))
  started_only a (paper.StartedAs.ready k m) = rw (judged_only card (given tt) (judged.JudgedAs.fine k m))

pub starts : (card : Card) → Exactly (start_receiver card) (StartedAs card)
starts card = exactly (StartedAs card) (started_is card) (started_only card)

-- ---- any cutting

pub cuts : (r : Receiver) (pieces : List (List ℕ)) → Cut r pieces
cuts r pieces = record { receiver = received_cut r pieces; shown = shown_cut r pieces; text = λ columns. pieces_text_lem columns r pieces }

-- ---- the first byte at which a line is refused

module _ (card : Card) (bytes : List ℕ) (n : ℕ) (shut : (after_bytes card bytes).status ≡ Refused n) where
  fault_here : (before rest : List ℕ) (b m : ℕ) → bytes ≡ before ++ b ∷ rest → Going card before
      → take_of (after_bytes card before) b ≡ refused_with m (after_bytes card before) → Fault card bytes n
  unfolding refused_with
  fault_here before rest b m cut going there =
      let r = after_bytes card before in
      let all = fault r m b rest there in
      let after = ap (after_bytes card) cut ∙ received_append (fresh_receiver card) before (b ∷ rest) ∙ ap (λ (q : Receiver × List (Answer Told)). q.0) all in
      let number : Refused m ≡ Refused n = sym (ap (λ (q : Receiver). q.status) after) ∙ shut in
      let same : m ≡ n = cc in
      record {
        before = before;
        at = b;
        behind = rest;
        cut = cut;
        going = going;
        refused_there = rw same at there;
        stays = rw same at after;
        shown = rw same at (ap (shown_bytes card) cut ∙ shown_append (fresh_receiver card) before (b ∷ rest) ∙ ap (λ (q : Receiver × List (Answer Told)). shown_bytes card before ++ q.1) all);
      }

  fault_in : (before rest : List ℕ) → bytes ≡ before ++ rest → Going card before → Fault card bytes n
  unfolding received_all
  fault_in before [] cut going =
      let still = ap (λ (l : List ℕ). (after_bytes card l).status) (cut ∙ append-nil before) ∙ going in
      let z : ◌≡◌ {A = ℕ} 0 1 = cc in
      absurd (omega arith)
  fault_in before (b ∷ rest) cut going = cases (step_of r b) (fault_in (before ++ b ∷ []) rest (cut ∙ sym (append_assoc before (b ∷ []) rest)))
    where
      r : Receiver
      r = after_bytes card before

      cases : Step r (take_of r b) → (Going card (before ++ b ∷ []) → Fault card bytes n) → Fault card bytes n
      cases (inl k) later = later (ap (λ (q : Receiver). q.status) (received_append (fresh_receiver card) before (b ∷ [])) ∙ k.going)
      cases (inr (m, out)) later = fault_here before rest b m cut going (out.now going)

pub faults : (card : Card) (bytes : List ℕ) (n : ℕ) → (after_bytes card bytes).status ≡ Refused n → Fault card bytes n
unfolding received_all
faults card bytes n shut = fault_in card bytes n shut [] bytes refl refl

-- ---- once refused, and after a good end

pub refused_for_good : (r : Receiver) (n : ℕ) → r.status ≡ Refused n → (pieces : List (List ℕ)) → Still r pieces
refused_for_good r n e pieces =
    let still = refused_stays r n (flatten pieces) e in
    record {
      receiver = received_cut r pieces ∙ still.0;
      shown = shown_cut r pieces ∙ still.1;
      text = λ columns. pieces_text_lem columns r pieces ∙ refused_prints columns r n (flatten pieces) e;
      at_the_end = refused_ends r n e;
    }

pub ended_for_good : (r : Receiver) → r.status ≡ Ended
    → (received_all r [] ≡ r) × (shown_all r [] ≡ []) × (end_of r ≡ quietly r) × ((b : ℕ) → take_of r b ≡ refused_with 14 r)
ended_for_good r e = ((received_none r).0, (received_none r).1, ended_ends r e, λ b. ended_takes r b e)

-- ---- a receiver is its five parts

pub no_more : (r q : Receiver) → r.session ≡ q.session → r.stated ≡ q.stated → r.taken ≡ q.taken → r.part ≡ q.part
    → r.status ≡ q.status → r ≡ q
no_more r q a b c d e = parts
  where
    with_parts : Session → ℕ → ℕ → Sample → Status → Receiver
    with_parts s stated taken part now = record { session = s; stated = stated; taken = taken; part = part; status = now }

    parts : with_parts r.session r.stated r.taken r.part r.status ≡ with_parts q.session q.stated q.taken q.part q.status
    parts = cc
