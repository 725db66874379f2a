-- DEMAND 2. "Every accepted sample gives exactly the state, speed, lamps and brake cause of document 01's rules. A card is accepted exactly
-- when its reader knows its version and its layout is met; what we write reads back as the settings written."
--
-- The sessions are those that opening and `sample_of` make; each definition stands in the crate of its layer,
-- with document 01's sentence above it.
use Rattle.std.specs.Prelude.{ℕ, ◌≤◌, List, ◌↔◌, ◌≡◌, length, Ok}
use Rattle.leaf.specs.Answers.{given}
use Rattle.card.specs.declared.Card.{Card}
use Rattle.card.specs.declared.Settings.{Settings}
use Rattle.card.specs.Plain.{Known, CardMet, WriteMet}
use Rattle.card.specs.Reading.{settings_of, read_card}
use Rattle.card.specs.Writing.{write_card, written, leaves}
use Rattle.session.specs.declared.Sample.{Sample}
use Rattle.session.specs.declared.Session.{Session}
use Rattle.session.specs.Session.{fresh_session, with_desk, open_session, carried, stepped, sample_of}
use Rattle.session.specs.Runs.{after}
use Rattle.laws.specs.Ranges.{Inside}
use Rattle.laws.specs.Refusals.{Accepted}

pub record Demand2 : Type 0 where
  -- "It opens in CONV with the start row as main (age 1 in the first sample), last code 0." ".. every session we make is inside": an opened
  -- session is the fresh one, inside its ranges, and so is every session after it, whatever samples come, accepted or refused.
  pub opened : (card : Card) (train : ℕ) (u : Session) → open_session card train ≡ given u → (u ≡ fresh_session card train) × Inside u
  pub always_inside : (card : Card) (train : ℕ) (u : Session) (xs : List Sample) → open_session card train ≡ given u → Inside (after u xs)
  -- "The session is handed in and handed back with each sample's answer.": each accepted sample's answer, and the desk after it, are the
  -- definition's; the rest of the session, card and train type, stays. (What a refused one gives is demand 1's.)
  pub answered : (s : Session) (x : Sample) → Accepted s x
      → sample_of s x ≡ (let e = stepped s (carried s x) in record { session = with_desk e.desk s; outcome = Ok e.answer })
  -- A card is accepted exactly when its version is known and its layout met, and it is read as the settings of its bytes.
  pub card_accepted : (area : List ℕ) (highest : ℕ) (s : Settings) → (read_card area highest ≡ given s) ↔ (CardMet area highest × (s ≡ settings_of area))
  -- What is written reads back, whatever stood in the buffer, in every reader that knows its version.
  pub reads_back : (version highest : ℕ) (s : Settings) (buffer : List ℕ) → WriteMet version s (length buffer) → version ≤ highest → Known highest
      → (write_card version s (length buffer) ≡ given written) × (read_card (leaves (write_card version s (length buffer)) version s buffer) highest ≡ given s)
