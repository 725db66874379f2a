-- A cause that is raised only where the code changes passes there, and not where it stays.
use Prim.Native.Nat.{ℕ}
use native.Mathlib.Omega.{arith}
use mathlib.Core.List.{[], ◌∷◌}
use mathlib.Core.Path.{◌≡◌, refl}
use borrow.Author.Tests.{ne_eqb}
use Rattle.session.specs.declared.Sample.{Sample}
use Rattle.session.specs.declared.Session.{Session}
use Rattle.session.specs.Session.{fresh_session, refused_by}
use Rattle.session.specs.Runs.{after}
use Rattle.step_laws.specs.Quiet.{judged_before, step_before}
use Rattle.laws.proofs.Refusals.{refusal_laws}
use Rattle.demands.specs.Examples.{conv, bts, card_of_a}
use Rattle.demands.specs.Quiet.{stepped_before, Arisen, Raises}
use Rattle.demands.specs.Quiet as paper
use Rattle.demands.specs.Lazy.{RaisesAtChange, at_change, CausesOut}
use Rattle.demands.proofs.Computes.{definitions}
use Rattle.demands.proofs.Quiet.{arisen}

change_passes : RaisesAtChange at_change
change_passes s x a changed = rw (ne_eqb x.beacon s.desk.code changed) (arisen s x a)

-- card A, type 6: quiet in BTS, and the mode changed while it is
abbrev quiet_in_bts : Session
quiet_in_bts = after (fresh_session card_of_a 6) (bts 0 0 0 ∷ bts 0 12 0 ∷ [])

abbrev leaving : Sample
leaving = conv 0 12 0

record Computed : Type 0 where
  accepts : refused_by quiet_in_bts leaving ≡ 0
  before : (stepped_before quiet_in_bts leaving).arose ≡ 0
  silent : at_change quiet_in_bts leaving ≡ 0

computed : Computed
unfolding definitions step_before judged_before
computed = record { accepts = refl; before = refl; silent = refl }

is_six : {before n : ℕ} {P : Type 0} → Arisen before P n → before ≡ 0 → P → n ≡ 6
is_six (paper.Arisen.lower some) z p = absurd (some z)
is_six (paper.Arisen.six e q) z p = refl
is_six (paper.Arisen.none e h) z p = absurd (h p)

change_out : Raises at_change → ⊥
change_out f =
    let six = is_six (f quiet_in_bts leaving ((refusal_laws quiet_in_bts leaving).accepted.0 computed.accepts)) computed.before (refl, refl) in
    let zero = computed.silent in
    omega arith

pub causes_out : CausesOut
causes_out = record { change_passes = change_passes; change_out = change_out }
