-- What reader, writer and the settings' check answer, number and place, exactly when: each ends in one of the ways of specs/Plain.antt,
-- and each way comes with its answer.
use Prim.Native.Nat.{ℕ, ◌≤◌}
use native.Mathlib.Omega.{arith}
use mathlib.Core.Path.{◌≡◌, refl, ◌∙◌}
use mathlib.Core.Bool.{Bool, true, false, not}
use mathlib.Core.List.{List, [], ◌∷◌}
use mathlib.Core.Logic.{◌↔◌}
use lib.Dec.{leb, eqb}
use lib.ListN.{length}
use borrow.Author.Tests.{le-leb, lt-leb, leb-true, leb-false, eqb-true, eqb-false, eq-eqb, ne_eqb}
use Rattle.leaf.specs.Bytes.{byte, word}
use Rattle.leaf.specs.Numbers.{within}
use Rattle.leaf.specs.Checks.{or_fault, first_bad}
use Rattle.leaf.specs.Answers.{Answer}
use Rattle.card.specs.Card.{base_kind, length_of, known}
use Rattle.card.specs.Ranges.{fault_of, check_settings}
use Rattle.card.specs.Reading.{settings_of, answer_by, read_card}
use Rattle.card.specs.Writing.{write_card, written}
use Rattle.card.specs.Plain as plain
use Rattle.card.specs.Plain.{Within, FirstOut, CheckedAs, SettingsMet, Known, LengthOf, HeaderMet, CardMet, ReadAs, WrittenAs}
use Rattle.card.specs.declared.Settings.{Settings}
use Rattle.card.proofs.Listed.{within_met, met_within}
use Rattle.card.proofs.InRange as ranges
use Rattle.card.proofs.InRange.{base_placed}
use Rattle.card.proofs.Area.{length_is, length_only, length_low, card_version, record_there, settings_met, bytes_met}

-- ---- tests and facts

within_not : {lo hi x : ℕ} → within lo hi x ≡ false → Within lo hi x → ⊥
within_not e m = let z : ◌≡◌ {A = ℕ} 0 1 = cc (met_within m.0 m.1, e) in omega arith

not_within : {lo hi x : ℕ} → (Within lo hi x → ⊥) → within lo hi x ≡ false
not_within {lo} {hi} {x} out = cases (within lo hi x) refl
  where
    cases : (t : Bool) → within lo hi x ≡ t → within lo hi x ≡ false
    cases true e = absurd (out (within_met e))
    cases false e = e

-- ---- the settings' check, on this card

pub check_exactly : (v : ℕ) (s : Settings) (a : Answer Unit) → (check_settings v s ≡ a) ↔ CheckedAs base_kind v s a
unfolding check_settings fault_of
check_exactly = ranges.check_exactly base_kind base_placed

pub fault_met : (v : ℕ) (s : Settings) → fault_of v s ≡ 0 → SettingsMet v s
unfolding fault_of
fault_met = ranges.fault_met base_kind base_placed

pub met_fault : (v : ℕ) (s : Settings) → SettingsMet v s → fault_of v s ≡ 0
unfolding fault_of
met_fault = ranges.met_fault base_kind

pub fault_out : (v : ℕ) (s : Settings) → (fault_of v s ≡ 0 → ⊥) → FirstOut base_kind v s (fault_of v s)
unfolding fault_of
fault_out = ranges.fault_out base_kind base_placed

pub out_fault : (v : ℕ) (s : Settings) (at : ℕ) → FirstOut base_kind v s at → fault_of v s ≡ at
unfolding fault_of
out_fault = ranges.out_fault base_kind base_placed

out_some : (v : ℕ) (s : Settings) (at : ℕ) → FirstOut base_kind v s at → at ≡ 0 → ⊥
out_some = ranges.out_some base_kind base_placed

-- ---- the reader

-- what is left to answer where the header is in order
abbrev pub settled : ℕ → Settings → Answer Settings
settled v s = answer_by (or_fault 0 5 (eqb (fault_of v s) 0)) (fault_of v s) s

module _ (area : List ℕ) (h : ℕ) where
  pub header_passes : HeaderMet area h → read_card area h ≡ settled (byte area 2) (settings_of area)
  unfolding read_card or_fault
  header_passes m =
      let e = length_only (card_version area h m) m.stated in
      let there = record_there area h m in
      let long : 3 ≤ length area = omega (arith, length_low (byte area 2)) in
      rw (met_within m.known.0 m.known.1, le-leb 3 (length area) long, ne_eqb (byte area 2) 0 (λ e. omega (arith, m.version.0)), le-leb (byte area 2) h m.version.1, eq-eqb (word area 0) (length_of (byte area 2)) e, le-leb (length_of (byte area 2)) (length area) there)

  pub card_met : HeaderMet area h → SettingsMet (byte area 2) (settings_of area) → CardMet area h
  card_met m s = record { header = m; bytes = bytes_met base_kind (byte area 2) area s }

  pub card_settings : CardMet area h → SettingsMet (byte area 2) (settings_of area)
  card_settings m = settings_met base_kind (byte area 2) area (card_version area h m.header) m.bytes

  -- each way comes with its answer
  read_when : {a : Answer Settings} → ReadAs area h a → read_card area h ≡ a
  unfolding read_card answer_by or_fault
  read_when (plain.unknown_highest out) = rw (not_within out)
  read_when (plain.under_3 k short) = rw (met_within k.0 k.1, lt-leb 3 (length area) short)
  read_when (plain.version_0 k long zero) = rw (met_within k.0 k.1, le-leb 3 (length area) long, zero)
  read_when (plain.version_above k long above) =
      rw (met_within k.0 k.1, le-leb 3 (length area) long, ne_eqb (byte area 2) 0 (λ e. omega (arith, k.0)), lt-leb (byte area 2) h above)
  read_when (plain.other_length k long v other) =
      rw (met_within k.0 k.1, le-leb 3 (length area) long, ne_eqb (byte area 2) 0 (λ e. omega (arith, v.0)), le-leb (byte area 2) h v.1, ne_eqb (word area 0) (length_of (byte area 2)) (λ e. other (rw e (length_is (byte area 2)))))
  read_when (plain.short k long v l short) =
      let e = length_only (v.0, omega (arith, v.1, k.1)) l in
      rw (met_within k.0 k.1, le-leb 3 (length area) long, ne_eqb (byte area 2) 0 (λ e. omega (arith, v.0)), le-leb (byte area 2) h v.1, eq-eqb (word area 0) (length_of (byte area 2)) e, lt-leb (length_of (byte area 2)) (length area) (omega (arith, e)))
  read_when (plain.out_of_range m at f) =
      header_passes m ∙ rw (out_fault (byte area 2) (settings_of area) at f, ne_eqb at 0 (out_some (byte area 2) (settings_of area) at f))
  read_when (plain.accepted m) = header_passes m.header ∙ rw (met_fault (byte area 2) (settings_of area) (card_settings m))

  version : eqb (byte area 2) 0 ≡ false → leb (byte area 2) h ≡ true → Within 1 h (byte area 2)
  version some known = let n = eqb-false (byte area 2) 0 some in (omega arith, leb-true _ _ known)

  version_known : known h ≡ true → eqb (byte area 2) 0 ≡ false → leb (byte area 2) h ≡ true → Known (byte area 2)
  version_known k ec ed = let top : Known h = within_met k in ((version ec ed).0, omega (arith, (version ec ed).1, top.1))

  stated : eqb (word area 0) (length_of (byte area 2)) ≡ true → LengthOf (byte area 2) (word area 0)
  stated e = rw (eqb-true (word area 0) (length_of (byte area 2)) e) (length_is (byte area 2))

  header : known h ≡ true → eqb (byte area 2) 0 ≡ false → leb (byte area 2) h ≡ true → eqb (word area 0) (length_of (byte area 2)) ≡ true
      → leb (length_of (byte area 2)) (length area) ≡ true → HeaderMet area h
  header k ec ed ee ef =
      record { known = within_met k; version = version ec ed; stated = stated ee; whole = rw (eqb-true (word area 0) (length_of (byte area 2)) ee) (leb-true _ _ ef) }

  -- and there is no other
  read_ways : ReadAs area h (read_card area h)
  unfolding read_card answer_by or_fault
  read_ways =
      cases (known h) refl (leb 3 (length area)) refl (eqb (byte area 2) 0) refl (leb (byte area 2) h) refl (eqb (word area 0) (length_of (byte area 2))) refl
      (leb (length_of (byte area 2)) (length area)) refl (eqb (fault_of (byte area 2) (settings_of area)) 0) refl
    where
      ended : Bool → Bool → Bool → Bool → Bool → Bool → Bool → Answer Settings
      ended a b c d e f g =
          answer_by (first_bad 0 ((6, a) ∷ (1, b) ∷ (2, not c) ∷ (3, d) ∷ (4, e) ∷ (1, f) ∷ (5, g) ∷ [])) (fault_of (byte area 2) (settings_of area)) (settings_of area)

      cases : (a : Bool) → known h ≡ a → (b : Bool) → leb 3 (length area) ≡ b → (c : Bool) → eqb (byte area 2) 0 ≡ c → (d : Bool) → leb (byte area 2) h ≡ d
          → (e : Bool) → eqb (word area 0) (length_of (byte area 2)) ≡ e → (f : Bool) → leb (length_of (byte area 2)) (length area) ≡ f
          → (g : Bool) → eqb (fault_of (byte area 2) (settings_of area)) 0 ≡ g → ReadAs area h (ended a b c d e f g)
      cases false ea b eb c ec d ed e ee f ef g eg = plain.unknown_highest (within_not ea)
      cases true ea false eb c ec d ed e ee f ef g eg = plain.under_3 (within_met ea) (leb-false 3 (length area) eb)
      cases true ea true eb true ec d ed e ee f ef g eg = plain.version_0 (within_met ea) (leb-true 3 (length area) eb) (eqb-true _ _ ec)
      cases true ea true eb false ec false ed e ee f ef g eg = plain.version_above (within_met ea) (leb-true 3 (length area) eb) (leb-false _ _ ed)
      cases true ea true eb false ec true ed false ee f ef g eg =
          plain.other_length (within_met ea) (leb-true 3 (length area) eb) (version ec ed)
          (λ l. eqb-false _ _ ee (length_only (version_known ea ec ed) l))
      cases true ea true eb false ec true ed true ee false ef g eg =
          plain.short (within_met ea) (leb-true 3 (length area) eb) (version ec ed) (stated ee) (rw (eqb-true (word area 0) (length_of (byte area 2)) ee) (leb-false _ _ ef))
      cases true ea true eb false ec true ed true ee true ef false eg =
          plain.out_of_range (header ea ec ed ee ef) _ (fault_out (byte area 2) (settings_of area) (eqb-false _ _ eg))
      cases true ea true eb false ec true ed true ee true ef true eg =
          plain.accepted (card_met (header ea ec ed ee ef) (fault_met (byte area 2) (settings_of area) (eqb-true _ _ eg)))

-- THE READER: what is given, and each refusal with its number and place, exactly when
pub read_exactly : (area : List ℕ) (h : ℕ) (a : Answer Settings) → (read_card area h ≡ a) ↔ ReadAs area h a
read_exactly area h a = (λ e. rw e at (read_ways area h), read_when area h)

-- ---- the writer

module _ (v : ℕ) (s : Settings) (room : ℕ) where
  write_when : {a : Answer Unit} → WrittenAs v s room a → write_card v s room ≡ a
  unfolding write_card answer_by or_fault
  write_when (plain.unknown_version out) = rw (not_within out)
  write_when (plain.out_of_range k at f) = rw (met_within k.0 k.1, out_fault v s at f, ne_eqb at 0 (out_some v s at f))
  write_when (plain.short k m short) =
      rw (met_within k.0 k.1, met_fault v s m, lt-leb (length_of v) room (short (length_of v) (length_is v)))
  write_when (plain.done m) =
      rw (met_within m.known.0 m.known.1, met_fault v s m.settings, le-leb (length_of v) room (m.fits (length_of v) (length_is v)))

  write_ways : WrittenAs v s room (write_card v s room)
  unfolding write_card answer_by or_fault
  write_ways = cases (known v) refl (eqb (fault_of v s) 0) refl (leb (length_of v) room) refl
    where
      ended : Bool → Bool → Bool → Answer Unit
      ended a b c = answer_by (first_bad 0 ((2, a) ∷ (5, b) ∷ (13, c) ∷ [])) (fault_of v s) written

      cases : (a : Bool) → known v ≡ a → (b : Bool) → eqb (fault_of v s) 0 ≡ b → (c : Bool) → leb (length_of v) room ≡ c → WrittenAs v s room (ended a b c)
      cases false ea b eb c ec = plain.unknown_version (within_not ea)
      cases true ea false eb c ec = plain.out_of_range (within_met ea) _ (fault_out v s (eqb-false _ _ eb))
      cases true ea true eb false ec =
          plain.short (within_met ea) (fault_met v s (eqb-true _ _ eb)) (λ n l. rw (length_only (within_met ea) l) (leb-false _ _ ec))
      cases true ea true eb true ec =
          plain.done
          record { known = within_met ea; settings = fault_met v s (eqb-true _ _ eb); fits = λ n l. rw (length_only (within_met ea) l) (leb-true _ _ ec) }

-- THE WRITER: done, and each refusal with its number and place, exactly when
pub write_exactly : (v : ℕ) (s : Settings) (room : ℕ) (a : Answer Unit) → (write_card v s room ≡ a) ↔ WrittenAs v s room a
write_exactly v s room a = (λ e. rw e at (write_ways v s room), write_when v s room)
