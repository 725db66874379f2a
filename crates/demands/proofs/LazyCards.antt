-- The lazy readers and writers pass where each number and each place is asked after by itself, and not where the whole answer is.
use Prim.Native.Nat.{ℕ}
use native.Mathlib.Omega.{arith}
use mathlib.Core.Bool.{Bool, true, false}
use mathlib.Core.List.{List}
use mathlib.Core.Path.{◌≡◌, refl, sym, ◌∙◌}
use lib.Dec.{T, eqb}
use borrow.Author.Tests.{eqb-false}
use Rattle.leaf.specs.Choosing.{pick}
use Rattle.leaf.specs.Bytes.{byte, word}
use Rattle.leaf.specs.Checks.{Check, or_fault, first_bad, numbered, FirstFault, first_fault}
use Rattle.leaf.specs.Answers.{Answer, given, refused, refused_at}
use Rattle.card.specs.declared.Settings.{Settings}
use Rattle.card.specs.Card.{base_kind, row_at}
use Rattle.card.specs.Ranges.{checks_of, settings_fault, fault_of}
use Rattle.card.specs.Plain.{FirstOut}
use Rattle.card.specs.Reading.{functions_from, settings_from, settings_of, card_checks, answer_by, read_card}
use Rattle.card.specs.Writing.{record_checks, write_card}
use Rattle.card.specs.Laws.{placed_by, numbered_by}
use Rattle.card.specs.CardA.{card_a_bytes, card_a_at}
use Rattle.card.proofs.InRange.{base_placed, out_some}
use Rattle.card.proofs.Exactly.{met_fault, out_fault, card_settings}
use Rattle.card.proofs.Accepted.{accepted_when, written_when}
use Rattle.demands.specs.Lazy.{FirstGiven, ReaderFirst, WriterFirst, bare, eager, bare_reader, eager_reader, bare_writer, eager_writer, willing_writer, ReadsExactly, WritesExactly, CardsOut}
use Rattle.demands.proofs.Answered.{only_one}
use Rattle.demands.proofs.Demand1.{demand_1}
use Rattle.demands.proofs.ShutOut.{shut_out}

-- what `cc` makes of two answers of different kinds
never : ◌≡◌ {A = ℕ} 0 1 → ⊥
never z = omega arith

-- ---- of any answer of which each number and each place is the first

module _ {A : Type 0} {Met : Type 0} {a : A} {checks places : List Check} where
  bare_first : (answer : Answer A) → ((n at : ℕ) → answer ≡ refused_at n at → FirstFault n checks) → FirstGiven Met a checks places answer
      → FirstGiven Met a checks places (bare answer)
  bare_first answer five h = record { met = λ m. rw (h.met m); number = λ n e. number answer refl n e; place = λ n at e. place answer n at e }
    where
      number : (b : Answer A) → answer ≡ b → (n : ℕ) → bare b ≡ refused n → FirstFault n checks
      number (given x) same n e = absurd (never (cc))
      number (refused m) same n e = h.number n (same ∙ e)
      number (refused_at m at) same n e = let one : m ≡ n = cc in rw one at (five m at same)

      place : (b : Answer A) → (n at : ℕ) → bare b ≡ refused_at n at → (n ≡ 5) × FirstFault at places
      place (given x) n at e = absurd (never (cc))
      place (refused m) n at e = absurd (never (cc))
      place (refused_at m p) n at e = absurd (never (cc))

  eager_first : (fault : ℕ) (answer : Answer A) → (Met → fault ≡ 0) → ((fault ≡ 0 → ⊥) → FirstFault fault places) → FirstGiven Met a checks places answer
      → FirstGiven Met a checks places (eager fault answer)
  eager_first fault answer none first h = cases (eqb fault 0) refl
    where
      cases : (t : Bool) → eqb fault 0 ≡ t → FirstGiven Met a checks places (pick t answer (refused_at 5 fault))
      cases true e = h
      cases false e =
          record {
            met = λ m. absurd (eqb-false fault 0 e (none m));
            number = λ n e. absurd (never (cc));
            place = λ n at q. let one : fault ≡ at = cc in let five : n ≡ 5 = cc in (five, rw one at (first (eqb-false fault 0 e)));
          }

-- ---- ours is such an answer, and 5 is among its numbers where it gives a place

-- a fault that is found is the first check that fails
fault_first : (v : ℕ) (s : Settings) → (fault_of v s ≡ 0 → ⊥) → FirstFault (fault_of v s) (checks_of v s)
unfolding fault_of settings_fault
fault_first v s z = first_fault (checks_of v s) (fault_of v s) tt refl z

-- so is that of the first setting out of range
out_first : (v : ℕ) (s : Settings) (at : ℕ) → FirstOut base_kind v s at → FirstFault at (checks_of v s)
out_first v s at f =
    let e = out_fault v s at f in
    rw e at (fault_first v s (λ z. out_some base_kind base_placed v s at f (sym e ∙ z)))

due : (checks : List Check) → T (numbered checks) → (n m : ℕ) → first_bad 0 checks ≡ n → n ≡ m → (n ≡ 0 → ⊥) → FirstFault m checks
due checks p n m h e some = rw e at (first_fault checks n p h some)

reader : ReaderFirst read_card
unfolding read_card
reader area h =
    record {
      met = accepted_when area h;
      number = λ n e. let p = numbered_by _ _ _ _ e in due (card_checks area h) tt _ n refl p.0 p.1;
      place = λ n at e. let p = shut_out.not_invented_read area h n at e in (p.0, out_first (byte area 2) (settings_of area) at p.1);
    }

writer : WriterFirst write_card
unfolding write_card
writer v s room =
    record {
      met = written_when v s room;
      number = λ n e. let p = numbered_by _ _ _ _ e in due (record_checks v s room) tt _ n refl p.0 p.1;
      place = λ n at e. let p = shut_out.not_invented_write v s room n at e in (p.0, out_first v s at p.1);
    }

read_5 : (area : List ℕ) (h n at : ℕ) → read_card area h ≡ refused_at n at → FirstFault n (card_checks area h)
unfolding read_card
read_5 area h n at e = let p = placed_by _ _ _ _ _ e in due (card_checks area h) tt 5 n p.0 (sym p.1) (λ z. omega arith)

write_5 : (v : ℕ) (s : Settings) (room n at : ℕ) → write_card v s room ≡ refused_at n at → FirstFault n (record_checks v s room)
unfolding write_card
write_5 v s room n at e = let p = placed_by _ _ _ _ _ e in due (record_checks v s room) tt 5 n p.0 (sym p.1) (λ z. omega arith)

-- ---- what ours answers where they do not

record Answers : Type 0 where
  -- vmax 79
  read_3 : read_card (card_a_bytes 0x27 0x01 79) 1 ≡ refused_at 5 3
  -- and length field 38
  read_4 : read_card (card_a_bytes 0x26 0x01 79) 1 ≡ refused 4
  fault_3 : fault_of (byte (card_a_bytes 0x26 0x01 79) 2) (settings_of (card_a_bytes 0x26 0x01 79)) ≡ 3
  write_3 : write_card 1 (card_a_at 79) 39 ≡ refused_at 5 3
  -- and version 4
  write_2 : write_card 4 (card_a_at 79) 39 ≡ refused 2
  version_4 : fault_of 4 (card_a_at 79) ≡ 3

answers : Answers
unfolding read_card write_card answer_by or_fault settings_fault fault_of settings_from functions_from row_at byte word
answers = record { read_3 = refl; read_4 = refl; fault_3 = refl; write_3 = refl; write_2 = refl; version_4 = refl }

module _ (read : List ℕ → ℕ → Answer Settings) (exact : ReadsExactly read) where
  as_ours : (area : List ℕ) (h : ℕ) → read area h ≡ read_card area h
  as_ours area h = only_one (exact area h) (demand_1.cards area h)

module _ (write : ℕ → Settings → ℕ → Answer Unit) (exact : WritesExactly write) where
  as_written : (v : ℕ) (s : Settings) (room : ℕ) → write v s room ≡ write_card v s room
  as_written v s room = only_one (exact v s room) (demand_1.writes v s room)

pub cards_out : CardsOut
cards_out =
    record {
      bare_reader_passes = λ area h. bare_first (read_card area h) (read_5 area h) (reader area h);
      bare_reader_out = λ x. let e : ◌≡◌ {A = Answer Settings} (refused 5) (refused_at 5 3) = rw answers.read_3 at (as_ours bare_reader x (card_a_bytes 0x27 0x01 79) 1) in never (cc);
      eager_reader_passes = λ area h.
          let v = byte area 2 in
          let s = settings_of area in
          eager_first (fault_of v s) (read_card area h) (λ m. met_fault v s (card_settings area h m)) (fault_first v s) (reader area h);
      eager_reader_out = λ x. let e : ◌≡◌ {A = Answer Settings} (refused_at 5 3) (refused 4) = rw (answers.fault_3, answers.read_4) at (as_ours eager_reader x (card_a_bytes 0x26 0x01 79) 1) in never (cc);
      bare_writer_passes = λ v s room. bare_first (write_card v s room) (write_5 v s room) (writer v s room);
      bare_writer_out = λ x. let e : ◌≡◌ {A = Answer Unit} (refused 5) (refused_at 5 3) = rw answers.write_3 at (as_written bare_writer x 1 (card_a_at 79) 39) in never (cc);
      eager_writer_passes = λ v s room. eager_first (fault_of v s) (write_card v s room) (λ m. met_fault v s m.settings) (fault_first v s) (writer v s room);
      eager_writer_out = λ x. let e : ◌≡◌ {A = Answer Unit} (refused_at 5 3) (refused 2) = rw (answers.version_4, answers.write_2) at (as_written eager_writer x 4 (card_a_at 79) 39) in never (cc);
      willing_writer_passes = λ v s room. record { met = λ m. refl; number = λ n e. absurd (never (cc)); place = λ n at e. absurd (never (cc)) };
      willing_writer_out = λ x. let e : ◌≡◌ {A = Answer Unit} (given tt) (refused 2) = rw answers.write_2 at (as_written willing_writer x 4 (card_a_at 79) 39) in never (cc);
    }
