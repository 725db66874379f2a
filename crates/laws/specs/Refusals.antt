-- Document 01, "Refusal numbers": a sample is refused with 8, 9, 10 or 11 exactly when the plain facts say so, in that order, and in no
-- other case.
use Rattle.std.specs.Prelude.{ℕ, ◌*◌, ◌≤◌, ◌<◌, ◌≡◌, ◌⊎◌, ◌↔◌, Err}
use Rattle.leaf.specs.Choosing.{pick}
use Rattle.leaf.specs.Numbers.{code_top, buttons_top}
use Rattle.leaf.specs.Checks.{FirstFault}
use Rattle.leaf.specs.Answers.{numbered_refusal}
use Rattle.session.specs.declared.Sample.{Sample}
use Rattle.session.specs.declared.Session.{Session}
use Rattle.session.specs.Session.{sample_checks, refused_by, ran_of, sample_of}
use Rattle.step_laws.specs.Brake.{AtStandstill}
use Rattle.laws.specs.Ranges.{Inside}

-- ---- the facts

-- "beacon 0..11, buttons newly pressed (bits 0..10), mode 1 CONV or 2 BTS"; 02 c: "9 from code 13", and "buttons above 2047 stay 9" (c7)
pub record CodesMet (x : Sample) : Type 0 where
  pub beacon_high : x.beacon ≤ code_top
  pub buttons_high : x.buttons ≤ buttons_top
  pub mode_low : 1 ≤ x.mode
  pub mode_high : x.mode ≤ 2

-- the session's mode by its number: "mode 1 CONV or 2 BTS"
abbrev pub mode_of : Session → ℕ
mode_of s = pick s.desk.bts 2 1

-- 02 b: "mode changed" "while not at standstill" is not so
abbrev pub ModeMet : Session → Sample → Type 0
ModeMet s x = (x.mode ≡ mode_of s) ⊎ AtStandstill x.pulses s.desk.brake

-- a sample that is accepted
pub record Accepted (s : Session) (x : Sample) : Type 0 where
  pub inside : Inside s
  pub codes : CodesMet x
  pub slow : x.pulses * s.card.settings.tick ≤ 100000
  pub kept : ModeMet s x

-- ---- the laws

pub record RefusalLaws (s : Session) (x : Sample) : Type 0 where
  -- the sample is accepted exactly when all the facts hold
  pub accepted : (refused_by s x ≡ 0) ↔ Accepted s x
  -- "8 | session out of its ranges"
  pub refused_8 : (refused_by s x ≡ 8) ↔ (Inside s → ⊥)
  -- "9 | beacon, buttons or mode out of range": and the session is inside
  pub refused_9 : (refused_by s x ≡ 9) ↔ (Inside s × (CodesMet x → ⊥))
  -- "10 | pulses × tick length above 100,000": and nothing before it
  pub refused_10 : (refused_by s x ≡ 10) ↔ (Inside s × (CodesMet x × (100000 < x.pulses * s.card.settings.tick)))
  -- "11 | mode changed", 02 b: "while not at standstill": and nothing before it
  pub refused_11 : (refused_by s x ≡ 11) ↔ (Inside s × (CodesMet x × ((x.pulses * s.card.settings.tick ≤ 100000) × (ModeMet s x → ⊥))))
  -- "sample 8, 9, 10, 11": a number that is given is that of a check of the list that fails, and every check before it holds
  pub first_refused : (n : ℕ) → refused_by s x ≡ n → (n ≡ 0 → ⊥) → FirstFault n (sample_checks s x)
  -- "A refusal returns its number .. and leaves .. the handed-in session unchanged."
  pub refused_as : (n : ℕ) → refused_by s x ≡ n → (n ≡ 0 → ⊥) → sample_of s x ≡ record { session = s; outcome = Err (numbered_refusal n) }
  -- a sample that is accepted is run
  pub accepted_as : refused_by s x ≡ 0 → sample_of s x ≡ ran_of s x
