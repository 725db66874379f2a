-- The parts of a line in words, computed.
use mathlib.Core.Path.{◌≡◌, refl}
use mathlib.Core.List.{[], ◌++◌}
use Rattle.step.specs.declared.speed.Reason.TheVariants as reason
use Rattle.text.specs.Decimal.{upper_of, lower_of, decimal, tenths, hundredths}
use Rattle.text.specs.Words.{ascii, word_of}
use Rattle.why_lines.specs.Words.{kmh_text, aged_text, age_text, cause_text, braked_text, brake_text}

-- the definitions of numbers as text
unfoldable numbers : Unit {0}
unfolding upper_of lower_of decimal tenths hundredths
numbers = tt

whole : kmh_text 4000 ≡ ascii "40"
unfolding kmh_text numbers
whole = refl

parted : kmh_text 7980 ≡ ascii "79.80"
unfolding kmh_text numbers
parted = refl

one_hundredth : kmh_text 7901 ≡ ascii "79.01"
unfolding kmh_text numbers
one_hundredth = refl

still : kmh_text 0 ≡ ascii "0"
unfolding kmh_text numbers
still = refl

new : age_text reason.Main 0 ≡ ascii ", 0.0 s old"
unfolding age_text aged_text numbers
new = refl

oldest : age_text reason.Limit 30000 ≡ ascii ", 3000.0 s old"
unfolding age_text aged_text numbers
oldest = refl

paired : age_text reason.Paired 10 ≡ ascii ", 1.0 s old"
unfolding age_text aged_text numbers
paired = refl

no_age : age_text reason.Bts 0 ≡ []
unfolding age_text
no_age = refl

passed : brake_text 0 4 0 ≡ ascii "; braked 0.0 s ago: a stop signal passed without override"
unfolding brake_text braked_text word_of numbers
passed = refl

still_braked : brake_text 6 6 123 ≡ ascii "; braked 12.3 s ago: the pickup is quiet"
unfolding brake_text braked_text word_of numbers
still_braked = refl

released : brake_text 5 0 0 ≡ ascii "; brake off"
unfolding brake_text
released = refl

never_on : brake_text 0 0 0 ≡ []
unfolding brake_text
never_on = refl

missed : cause_text 1 ++ cause_text 2 ++ cause_text 3 ++ cause_text 5 ≡ ascii "a main window missed" ++ ascii "a side window missed" ++ ascii "a reminder missed" ++ ascii "too fast"
unfolding word_of
missed = refl

no_cause : cause_text 0 ++ cause_text 7 ++ cause_text 255 ≡ []
unfolding word_of
no_cause = refl
