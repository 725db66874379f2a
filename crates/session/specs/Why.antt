-- Document 02 f), "Why is it forty?": "For any session and sample, a tool names which standing limit sets S .., its value and age (0 for the first
-- three), and for a braked desk the cause and how many samples ago the brake came on."
use Rattle.std.specs.Prelude.{◌*◌, Result, Ok, Err}
use Rattle.leaf.specs.declared.refusal.Refusal.{Refusal}
use Rattle.desk.specs.declared.brake.Brake.{Brake}
use Rattle.step.specs.declared.Stepped.{Stepped}
use Rattle.step.specs.declared.speed.Standing.{Standing}
use Rattle.step.specs.Reason.{reason_of}
use Rattle.session.specs.declared.Sample.{Sample}
use Rattle.session.specs.declared.Session.{Session}
use Rattle.session.specs.declared.Sampled.{Sampled}
use Rattle.session.specs.declared.Why.{Why}
use Rattle.session.specs.declared.Reasoned.{Reasoned}
use Rattle.session.specs.declared.Asked.{Asked}
use Rattle.session.specs.Types.{type_speed}
use Rattle.session.specs.Session.{Outcome, with_desk, sample_of}

-- what is told of a sample
abbrev pub Told : Type 0
Told = Result Reasoned Refusal

-- ---- why

-- "The value is S." (f1) "Brake, after the sample: standing cause and samples since it came on" (f7)
abbrev pub why_from : Standing → Brake → Why
why_from named brake = record { reason = named.reason; speed = named.speed; age = named.age; cause = brake.cause; since = brake.age }

-- the standing limit that sets S in a session, with T of its train type
abbrev pub named_in : Session → Standing
named_in s = reason_of s.card.settings (type_speed s.train * 100) s.desk

unfoldable pub why_now : Session → Why
why_now s = why_from (named_in s) s.desk.brake

-- ---- what is told of a sample

-- in the session after it; "Refusals: as for the sample itself."
abbrev pub explained_of : Session → Outcome → Asked
explained_of s (Ok a) = record { session = s; told = Ok (record { answer = a; why = why_now s }) }
explained_of s (Err why) = record { session = s; told = Err why }

-- "The sample is run; the reason is that of its answer's S, at the sample's end." (f1)
unfoldable pub asked_of : Session → Sample → Asked
asked_of s x = explained_of (sample_of s x).session (sample_of s x).outcome

-- ---- the same by the step, and without the reason

-- of the step of the session's desk
abbrev pub asked_from : Session → Stepped → Asked
asked_from s e =
    record {
      session = with_desk e.desk s;
      told = Ok (record { answer = e.answer; why = why_from e.named e.desk.brake });
    }

abbrev pub sampled_from : Session → Told → Sampled
sampled_from s (Ok r) = record { session = s; outcome = Ok r.answer }
sampled_from s (Err why) = record { session = s; outcome = Err why }
