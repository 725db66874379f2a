-- What is asked for is given exactly when the plain facts hold: a card is accepted, settings are in range, settings are written.
use Prim.Native.Nat.{ℕ}
use mathlib.Core.Path.{◌≡◌, refl}
use mathlib.Core.List.{List}
use Rattle.leaf.specs.Answers.{given}
use Rattle.card.specs.Card.{base_kind}
use Rattle.card.specs.Ranges.{check_settings, in_range}
use Rattle.card.specs.Reading.{settings_of, read_card}
use Rattle.card.specs.Writing.{write_card, written}
use Rattle.card.specs.Plain as plain
use Rattle.card.specs.Plain.{CheckedAs, SettingsMet, CardMet, ReadAs, WriteMet, WrittenAs}
use Rattle.card.specs.declared.Settings.{Settings}
use Rattle.card.proofs.Exactly.{read_exactly, check_exactly, write_exactly}

module _ (area : List ℕ) (h : ℕ) where
  pub accepted_when : CardMet area h → read_card area h ≡ given (settings_of area)
  accepted_when m = (read_exactly area h _).1 (plain.accepted m)

  pub accepted_only : (s : Settings) → read_card area h ≡ given s → CardMet area h × (s ≡ settings_of area)
  accepted_only s e = way ((read_exactly area h (given s)).0 e)
    where
      way : {t : Settings} → ReadAs area h (given t) → CardMet area h × (t ≡ settings_of area)
      way (plain.accepted m) = (m, refl)

pub in_range_when : (v : ℕ) (s : Settings) → SettingsMet v s → check_settings v s ≡ in_range
in_range_when v s m = (check_exactly v s in_range).1 (plain.all_in_range m)

pub in_range_only : (v : ℕ) (s : Settings) → check_settings v s ≡ in_range → SettingsMet v s
in_range_only v s e = way ((check_exactly v s in_range).0 e)
  where
    way : CheckedAs base_kind v s (given tt) → SettingsMet v s
    way (plain.all_in_range m) = m

pub written_when : (v : ℕ) (s : Settings) (room : ℕ) → WriteMet v s room → write_card v s room ≡ given written
written_when v s room m = (write_exactly v s room _).1 (plain.done m)

pub written_only : (v : ℕ) (s : Settings) (room : ℕ) → write_card v s room ≡ given written → WriteMet v s room
written_only v s room e = way ((write_exactly v s room (given written)).0 e)
  where
    way : WrittenAs v s room (given tt) → WriteMet v s room
    way (plain.done m) = m
