-- The lazy printers pass where only the speaking bytes are asked after, and not where versions and functions are.
use Prim.Native.Nat.{ℕ}
use native.Mathlib.Omega.{arith}
use mathlib.Core.Bool.{Bool, true, false, ◌&&◌, ◌||◌}
use mathlib.Core.List.{List, [], ◌∷◌}
use mathlib.Core.Path.{◌≡◌, refl, ap, ◌∙◌}
use lib.Dec.{ltb, eqb}
use lib.ListN.{get_or}
use borrow.Author.Tests.{eqb-true}
use Rattle.leaf.specs.Choosing.{pick}
use Rattle.leaf.specs.Bytes.{byte, long}
use Rattle.card.specs.Card.{reminds, speaks}
use Rattle.rides.specs.Recording.{good_recording, samples_from}
use Rattle.rides.specs.Ride.{start_ride}
use Rattle.text.specs.Decimal.{newline, upper_of, lower_of, decimal}
use Rattle.printed.specs.declared.Columns.TheVariants.{Paper}
use Rattle.printed.specs.Printed.{refused_line, started_text, card_text, printed_ride, printed_as}
use Rattle.demands.specs.Demand3.{SameSpeaking, first_lines, SilentPrint, VersionsPrint, FunctionsPrint, R, quiet_r}
use Rattle.demands.specs.Examples.{card_p, card_p2}
use Rattle.demands.specs.Lazy.{version_below, functions_above, PrintersOut}
use Rattle.demands.proofs.Computes.{definitions}
use Rattle.demands.proofs.Demand3.{demand_3, hypotheses_met}

-- the version speaks, and the functions of version 2 do
version_speaks : (version functions : ℕ) → speaks version functions 2 ≡ true
unfolding speaks
version_speaks version functions = cases (eqb version 1) (eqb version 2) (reminds functions)
  where
    cases : (t v u : Bool) → (ltb 2 (pick t 39 (pick v 44 49)) && (u || true)) ≡ true
    cases true v true = refl
    cases true v false = refl
    cases false true true = refl
    cases false true false = refl
    cases false false true = refl
    cases false false false = refl

functions_speak : (functions : ℕ) → speaks 2 functions 39 ≡ true
unfolding speaks
functions_speak functions = cases (reminds functions)
  where
    cases : (u : Bool) → (u || true) ≡ true
    cases true = refl
    cases false = refl

version_same : (a b : List ℕ) → SameSpeaking a b → byte a 2 ≡ byte b 2
version_same a b m = m.same 2 (version_speaks (byte a 2) (byte a 39))

version_passes : SilentPrint version_below
version_passes columns a b recording m = rw (demand_3.silent_print columns a b recording m, version_same a b m)

functions_passes : SilentPrint functions_above
functions_passes columns a b recording m = rw (demand_3.silent_print columns a b recording m, version_same a b m) (cases (eqb (byte b 2) 2) refl)
  where
    cases : (t : Bool) → eqb (byte b 2) 2 ≡ t
        → pick t (byte a 39) 0 ∷ newline ∷ printed_ride columns b recording ≡ pick t (byte b 39) 0 ∷ newline ∷ printed_ride columns b recording
    cases true e =
        let two : byte a 2 ≡ 2 = version_same a b m ∙ eqb-true (byte b 2) 2 e in
        rw (m.same 39 (rw two (functions_speak (byte a 39))))
    cases false e = refl

-- ---- a recording of no bytes is refused by 14, so that the text is the heading, 20 bytes, and "refused 14" with its newline, 11

below : ℕ → List ℕ → ℕ
below at text = get_or text at 0

version_out : VersionsPrint version_below → ⊥
unfolding definitions below printed_ride printed_as card_text started_text start_ride good_recording long refused_line decimal upper_of lower_of
version_out h =
    let e = h Paper card_p card_p2 [] _ _ refl refl hypotheses_met.same_p in
    let z : ◌≡◌ {A = ℕ} 1 2 = ap (below 31) e in
    omega arith

functions_out : FunctionsPrint functions_above → ⊥
unfolding definitions below first_lines samples_from
functions_out h =
    let e = h Paper (R 0x0F) quiet_r [] _ _ refl refl hypotheses_met.same_r in
    let z : ◌≡◌ {A = ℕ} 0x0F 0x0B = ap (below 0) e in
    omega arith

pub printers_out : PrintersOut
printers_out = record { version_passes = version_passes; version_out = version_out; functions_passes = functions_passes; functions_out = functions_out }
