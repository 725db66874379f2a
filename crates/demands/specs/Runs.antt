-- Document 01, "The sample": "The session is handed in and handed back with each sample's answer." What a desk answers to a card, a train
-- type and a list of samples.
use Rattle.std.specs.Prelude.{ℕ, List, take}
use Rattle.leaf.specs.Answers.{Answer, given, refused, refused_at}
use Rattle.card.specs.declared.Card.{Card}
use Rattle.card.specs.Reading.{card_in}
use Rattle.session.specs.declared.Sample.{Sample}
use Rattle.session.specs.declared.Session.{Session}
use Rattle.session.specs.Session.{Outcome}
use Rattle.session.specs.Session.{open_session}
use Rattle.session.specs.Runs.{outcomes}

-- what was opened, or not, is run
abbrev pub run_from : Answer Session → List Sample → Answer (List Outcome)
run_from (given s) xs = given (outcomes s xs)
run_from (refused n) xs = refused n
run_from (refused_at n place) xs = refused_at n place

-- a card that was read, or not, is opened for a train type and run
abbrev pub ride_from : Answer Card → ℕ → List Sample → Answer (List Outcome)
ride_from (given card) train xs = run_from (open_session card train) xs
ride_from (refused n) train xs = refused n
ride_from (refused_at n place) train xs = refused_at n place

-- everything a desk answers: a reader told to know the versions up to `highest` reads the card, a session is opened for the train type, and
-- the samples are run; a refusal of the card or of the opening is all there is
abbrev pub ride_of : List ℕ → ℕ → ℕ → List Sample → Answer (List Outcome)
ride_of area highest train xs = ride_from (card_in area highest) train xs

-- the first n of the outcomes
abbrev pub first_of : ℕ → Answer (List Outcome) → Answer (List Outcome)
first_of n (given os) = given (take n os)
first_of n (refused number) = refused number
first_of n (refused_at number place) = refused_at number place
