-- What is written reads back, in a reader that knows it, as the settings written, whatever stood in the buffer; and it is
-- written whenever it should be.
use Prim.Native.Nat.{ℕ, ◌+◌, ◌*◌, ◌/◌, ◌%◌, ◌≤◌}
use native.Mathlib.Omega.{arith}
use mathlib.Core.Path.{◌≡◌, refl, sym, ap, ◌∙◌}
use mathlib.Core.Bool.{Bool, true, false}
use mathlib.Core.Logic.{⊎_elim}
use mathlib.Core.List.{List, ◌++◌}
use lib.Dec.{lit≤}
use lib.ListN.{length, drop}
use Rattle.leaf.specs.Bytes.{byte, word}
use Rattle.leaf.specs.Answers.{given}
use Rattle.card.specs.Card.{base_kind, length_of, no_pairs, pairs_at, reminds, row_at}
use Rattle.card.specs.Reading.{kept, functions_from, pairs_from, settings_from, settings_of, read_card, paper_of}
use Rattle.card.specs.Writing.{bytes_of, record_of, write_card, written, written_of, leaves}
use Rattle.card.specs.Plain.{functions_setting, x_setting, y_setting, SettingsMet, Known, HeaderMet, accepted, WriteMet}
use Rattle.card.specs.declared.Pairs.{Pairs}
use Rattle.card.specs.declared.Settings.{Settings}
use Rattle.leaf.specs.declared.refusal.Refusal.{Refusal}
use Rattle.std.specs.Prelude.{Result, Ok}
use Rattle.card.proofs.InRange.{reminder_zero, no_pairs_lem}
use Rattle.card.proofs.Area.{version_cases, length_is}
use Rattle.card.proofs.Exactly.{card_met, read_exactly}
use Rattle.card.proofs.Accepted.{written_when}
use Rattle.card.proofs.Determined.{paper_one}

-- a number's two bytes make the number again
word_back : (x : ℕ) → x / 256 * 256 + x % 256 ≡ x
word_back x = omega arith

-- X, or Y, comes back where it speaks; where it does not it is 0
kept_back : (on : Bool) (x : ℕ) → (on ≡ false → x ≡ 0) → kept on (x / 256 * 256 + x % 256) ≡ x
kept_back true x off = word_back x
kept_back false x off = sym (off refl)

-- a record's value is its fields: those that a byte or two stand for are equal by a law, and the rest computes
rebuilt : (s : Settings) (t f x y : ℕ) (p : Pairs) → t ≡ s.tick → f ≡ s.functions → x ≡ s.x → y ≡ s.y → p ≡ s.pairs
    → record { vmax = s.vmax; tick = t; bts = s.bts; conditional_clear = s.conditional_clear; announcement = s.announcement; preannouncement = s.preannouncement; caution = s.caution; before_stop = s.before_stop; crossing = s.crossing; limit = s.limit; start = s.start; functions = f; x = x; y = y; pairs = p } ≡ s
rebuilt s t f x y p pt pf px py pp = rw (pt, pf, px, py, pp)

module _ (s : Settings) (rest : List ℕ) where
  -- an area that has a version's header and room reads as its settings, where they are in range
  reads : (v h : ℕ) (area : List ℕ) → Known v → v ≤ h → h ≤ 3 → byte area 2 ≡ v → word area 0 ≡ length_of v → length_of v ≤ length area
      → settings_of area ≡ s → SettingsMet v s → read_card area h ≡ given s
  reads v h area low known high version stated fits same m =
      let header : HeaderMet area h =
      record {
        known = (omega (arith, low.0), high);
        version = rw version (low.0, known);
        stated = rw (version, stated) (length_is v);
        whole = rw stated fits;
      } in
      (read_exactly area h _).1 (accepted (card_met area h header (rw (same, version) m))) ∙ ap given same

  settings_back_1 : SettingsMet 1 s → settings_of (record_of 1 s ++ rest) ≡ s
  unfolding settings_from record_of bytes_of byte word row_at functions_from pairs_from
  settings_back_1 m =
      let none = (m functions_setting tt).0 refl in
      rebuilt s _ 0 0 0 no_pairs (word_back s.tick) (sym none) (sym ((m x_setting tt).1 (rw none))) (sym ((m y_setting tt).1 (rw none)))
      (sym (no_pairs_lem base_kind m (λ three. omega arith)))

  settings_back_2 : SettingsMet 2 s → settings_of (record_of 2 s ++ rest) ≡ s
  unfolding settings_from record_of bytes_of byte word row_at functions_from pairs_from
  settings_back_2 m =
      rebuilt s _ _ _ _ no_pairs (word_back s.tick) refl (kept_back (reminds s.functions) s.x (λ e. (reminder_zero base_kind m e).0))
      (kept_back (reminds s.functions) s.y (λ e. (reminder_zero base_kind m e).1)) (sym (no_pairs_lem base_kind m (λ three. omega arith)))

  settings_back_3 : SettingsMet 3 s → settings_of (record_of 3 s ++ rest) ≡ s
  unfolding settings_from record_of bytes_of byte word row_at functions_from pairs_from pairs_at
  settings_back_3 m =
      rebuilt s _ _ _ _ s.pairs (word_back s.tick) refl (kept_back (reminds s.functions) s.x (λ e. (reminder_zero base_kind m e).0))
      (kept_back (reminds s.functions) s.y (λ e. (reminder_zero base_kind m e).1)) refl

  -- the record of version 1, 2 or 3, with anything behind it, reads as its settings
  record_reads_1 : (h : ℕ) → 1 ≤ h → h ≤ 3 → SettingsMet 1 s → read_card (record_of 1 s ++ rest) h ≡ given s
  unfolding record_of bytes_of byte word
  record_reads_1 h low high m =
      let long : 39 ≤ length (record_of 1 s ++ rest) = omega arith in
      reads 1 h (record_of 1 s ++ rest) (lit≤ tt, lit≤ tt) low high refl refl long (settings_back_1 m) m

  record_reads_2 : (h : ℕ) → 2 ≤ h → h ≤ 3 → SettingsMet 2 s → read_card (record_of 2 s ++ rest) h ≡ given s
  unfolding record_of bytes_of byte word
  record_reads_2 h low high m =
      let long : 44 ≤ length (record_of 2 s ++ rest) = omega arith in
      reads 2 h (record_of 2 s ++ rest) (lit≤ tt, lit≤ tt) low high refl refl long (settings_back_2 m) m

  record_reads_3 : (h : ℕ) → 3 ≤ h → h ≤ 3 → SettingsMet 3 s → read_card (record_of 3 s ++ rest) h ≡ given s
  unfolding record_of bytes_of byte word
  record_reads_3 h low high m =
      let long : 49 ≤ length (record_of 3 s ++ rest) = omega arith in
      reads 3 h (record_of 3 s ++ rest) (lit≤ tt, lit≤ tt) low high refl refl long (settings_back_3 m) m

-- the record of a known version, with anything behind it, reads as its settings
pub record_reads : (v h : ℕ) (s : Settings) (rest : List ℕ) → Known v → v ≤ h → h ≤ 3 → SettingsMet v s → read_card (record_of v s ++ rest) h ≡ given s
record_reads v h s rest low known high m =
    ⊎_elim (λ e. rw e (record_reads_1 s rest h (rw e at known) high (rw e at m)))
    (⊎_elim (λ e. rw e (record_reads_2 s rest h (rw e at known) high (rw e at m))) (λ e. rw e (record_reads_3 s rest h (rw e at known) high (rw e at m))))
    (version_cases low)

-- THE ROUND TRIP: settings that are in range beside a version, and have room, are written; and the buffer then reads as these
-- settings in every reader whose highest version is no lower
pub round_trip : (v h : ℕ) (s : Settings) (buffer : List ℕ) → WriteMet v s (length buffer) → v ≤ h → h ≤ 3
    → (write_card v s (length buffer) ≡ given written) × (read_card (leaves (write_card v s (length buffer)) v s buffer) h ≡ given s)
round_trip v h s buffer m known high =
    let done = written_when v s (length buffer) m in
    (done, rw done (record_reads v h s (drop (length_of v) buffer) m.known known high m.settings))

-- the same of the functions' own results: w and what the buffer holds after it meet the writer's promise, r the reader's
pub round_trip_results : (v h : ℕ) (s : Settings) (before after : List ℕ) (w : Result Unit Refusal) (r : Result Settings Refusal)
    → written_of w ≡ write_card v s (length before) → after ≡ leaves (written_of w) v s before → paper_of r ≡ read_card after h
    → WriteMet v s (length before) → v ≤ h → h ≤ 3 → r ≡ Ok s
round_trip_results v h s before after w r pw pa pr m known high =
    paper_one r (Ok s) (pr ∙ rw (pa, pw) (round_trip v h s before m known high).1)
