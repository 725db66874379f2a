-- Document 02 f), "Why is it forty?", of a ride: a turn, and why the S that it shows is what it is.
use Rattle.std.specs.Prelude.{ℕ, List, Ok, Err}
use Rattle.step.specs.declared.speed.Reason.TheVariants as reason
use Rattle.session.specs.declared.Sample.{Sample}
use Rattle.session.specs.declared.Session.{Session}
use Rattle.session.specs.declared.Why.{Why}
use Rattle.session.specs.Why.{Told, why_now}
use Rattle.rides.specs.Recording.{sample_at}
use Rattle.rides.specs.Ride.{number_of, turn_of}
use Rattle.rides.specs.declared.ride.Ride.{Ride}
use Rattle.rides.specs.declared.ride.Shown.{Shown}
use Rattle.rides.specs.declared.ride.Shown.TheVariants as shown
use Rattle.rides.specs.declared.ride.Explained.{Explained}

-- where no answer is shown there is no reason
abbrev pub no_why : Why
no_why = record { reason = reason.None; speed = 0; age = 0; cause = 0; since = 0 }

-- "the reason is that of its answer's S, at the sample's end" (f1): in the session after it
abbrev pub why_shown : Session → Shown → Why
why_shown s (shown.Answered a) = why_now s
why_shown s (shown.Refused n) = no_why
why_shown s shown.Nothing = no_why

-- one more sample, and why
abbrev pub explained_of : Ride → Sample → Explained
explained_of r x = record { turned = turn_of r x; why = why_shown (turn_of r x).ride.session (turn_of r x).shown }

-- of the sample that k samples of the recording stand before
abbrev pub explained_at : Ride → List ℕ → ℕ → Explained
explained_at r recording k = explained_of r (sample_at recording k)

-- by what is told of the sample, in the session after it: "A refusal .. ends it."
abbrev pub explained_by : Session → Told → Explained
explained_by s (Ok r) =
    record { turned = record { ride = record { session = s; ended = 0 }; shown = shown.Answered r.answer }; why = r.why }
explained_by s (Err why) =
    record { turned = record { ride = record { session = s; ended = number_of why }; shown = shown.Refused (number_of why) }; why = no_why }
