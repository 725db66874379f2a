-- "The session is handed in and handed back with each sample's answer.": a session and a list of samples, one after the other. A refused
-- sample leaves the session as it was.
use Rattle.std.specs.Prelude.{Bool, true, ◌&&◌, List, [], ◌∷◌, eqb}
use Rattle.session.specs.declared.Sample.{Sample}
use Rattle.session.specs.declared.Session.{Session}
use Rattle.session.specs.Session.{Outcome, refused_by, sample_of}

-- no refusal is due
abbrev pub accepted : Session → Sample → Bool
accepted s x = eqb (refused_by s x) 0

-- the session after them
unfoldable pub after : Session → List Sample → Session
after s [] = s
after s (x ∷ xs) = after (sample_of s x).session xs

-- what they are answered with
unfoldable pub outcomes : Session → List Sample → List Outcome
outcomes s [] = []
outcomes s (x ∷ xs) = (sample_of s x).outcome ∷ outcomes (sample_of s x).session xs

-- is every one of them accepted
unfoldable pub all_accepted : Session → List Sample → Bool
all_accepted s [] = true
all_accepted s (x ∷ xs) = accepted s x && all_accepted (sample_of s x).session xs
