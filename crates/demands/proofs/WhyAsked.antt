-- Request f, of a session and a sample: what is told is what the definition says in plain facts, and nothing else is.
use Prim.Native.Nat.{ℕ, zero, suc, ◌≤◌}
use native.Mathlib.Omega.{arith}
use mathlib.Core.Bool.{Bool, true, false}
use mathlib.Core.Path.{◌≡◌, refl, sym, ap, subst, ◌∙◌}
use lib.Dec.{lit≤}
use Rattle.std.specs.Prelude.{Ok}
use Rattle.step.specs.declared.Answer.{Answer as Answered}
use Rattle.step.specs.declared.speed.Reason.{Reason}
use Rattle.step.specs.declared.speed.Reason.TheVariants as reason
use Rattle.step.specs.Speed.{supervised_of}
use Rattle.step.specs.Reason.{reason_number}
use Rattle.session.specs.declared.Sample.{Sample}
use Rattle.session.specs.declared.Session.{Session}
use Rattle.session.specs.declared.Sampled.{Sampled}
use Rattle.session.specs.Session.{with_desk, refused_by, carried, stepped, ran_of, sample_of}
use Rattle.session.specs.Runs.{accepted}
use Rattle.session.proofs.Runs.{accepted_runs, refused_stays}
use Rattle.step_laws.specs.Reason.{reason_place, Limits}
use Rattle.step_laws.specs.Reason as laws
use Rattle.step_laws.proofs.Brake.{brake_laws}
use Rattle.step_laws.proofs.Reason.{reason_laws}
use Rattle.step_laws.proofs.Speed.{speed_laws}
use Rattle.laws.specs.Unanswered.{top_of}
use Rattle.session.specs.declared.Why.{Why}
use Rattle.session.specs.declared.Asked.{Asked}
use Rattle.session.specs.Why.{named_in, why_now, explained_of, asked_of}
use Rattle.demands.specs.Demand1.{Exactly, refusal_by}
use Rattle.demands.specs.Why.{Reasons, WhyMet, AskedAs}
use Rattle.demands.specs.Why as paper
use Rattle.demands.proofs.Answered.{exactly, samples_exactly}
use Rattle.demands.proofs.Standing.{answered-refused, answer_is}

-- ---- a place is a reason's

abbrev reason_at : ℕ → Reason
reason_at zero = reason.None
reason_at (suc zero) = reason.Vmax
reason_at (suc (suc zero)) = reason.Train
reason_at (suc (suc (suc zero))) = reason.Bts
reason_at (suc (suc (suc (suc zero)))) = reason.Main
reason_at (suc (suc (suc (suc (suc zero))))) = reason.Alongside
reason_at (suc (suc (suc (suc (suc (suc zero)))))) = reason.Crossing
reason_at (suc (suc (suc (suc (suc (suc (suc zero))))))) = reason.Limit
reason_at (suc (suc (suc (suc (suc (suc (suc (suc n)))))))) = reason.Paired

at_place : (r : Reason) → reason_at (reason_place r) ≡ r
at_place reason.None = refl
at_place reason.Vmax = refl
at_place reason.Train = refl
at_place reason.Bts = refl
at_place reason.Main = refl
at_place reason.Alongside = refl
at_place reason.Crossing = refl
at_place reason.Limit = refl
at_place reason.Paired = refl

same_reason : (r q : Reason) → reason_place r ≡ reason_place q → r ≡ q
same_reason r q e = sym (at_place r) ∙ ap reason_at e ∙ at_place q

-- ---- one answer has one reason

same_why : (v w : Why) → v.reason ≡ w.reason → v.speed ≡ w.speed → v.age ≡ w.age → v.cause ≡ w.cause → v.since ≡ w.since → v ≡ w
same_why v w a b c d e =
    ap (λ (r : Reason). record { reason = r; speed = v.speed; age = v.age; cause = v.cause; since = v.since }) a
    ∙ ap (λ (n : ℕ). record { reason = w.reason; speed = n; age = v.age; cause = v.cause; since = v.since }) b
    ∙ ap (λ (n : ℕ). record { reason = w.reason; speed = w.speed; age = n; cause = v.cause; since = v.since }) c
    ∙ ap (λ (n : ℕ). record { reason = w.reason; speed = w.speed; age = w.age; cause = n; since = v.since }) d
    ∙ ap (λ (n : ℕ). record { reason = w.reason; speed = w.speed; age = w.age; cause = w.cause; since = n }) e

one_why : (t : Session) (a : Answered) (v w : Why) → WhyMet t a v → WhyMet t a w → v ≡ w
one_why t a v w g h =
    let one = (reason_laws t.card.settings (top_of t) t.desk).only_one a.speed _ _ _ _ g.true_one h.true_one in
    same_why v w (same_reason v.reason w.reason one.0) (g.value ∙ sym h.value) one.1 (g.cause ∙ sym h.cause) (g.since ∙ sym h.since)

-- ---- a sample that is run

module _ (s : Session) (x : Sample) where
  abbrev next : Session
  next = with_desk (stepped s (carried s x)).desk s

  abbrev answer : Answered
  answer = (stepped s (carried s x)).answer

  ran_met : WhyMet next answer (why_now next)
  unfolding why_now
  ran_met =
      let laws = reason_laws s.card.settings (top_of s) next.desk in
      let same : answer.speed ≡ supervised_of s.card.settings (top_of s) next.desk = (speed_laws s.card (top_of s)).speed_answered (carried s x) s.desk in
      record {
        value = laws.value ∙ sym same;
        true_one = subst (λ (v : ℕ). Reasons next v (reason_place (named_in next).reason) (named_in next).age) (sym same) laws.true_one;
        cause = sym (brake_laws s.card (top_of s) (carried s x) s.desk).cause_told;
        since = refl;
      }

  -- so in whatever session and with whatever answer the sample is given back
  met : (t : Session) (a : Answered) → sample_of s x ≡ record { session = t; outcome = Ok a } → WhyMet t a (why_now t)
  unfolding ran_of
  met t a e = cases (accepted s x) refl
    where
      cases : (b : Bool) → accepted s x ≡ b → WhyMet t a (why_now t)
      cases true g =
          let same = sym (accepted_runs s x g) ∙ e in
          let session : next ≡ t = ap (λ (r : Sampled). r.session) same in
          let told : answer ≡ a = answer_is (ap (λ (r : Sampled). r.outcome) same) in
          subst (λ (b : Answered). WhyMet t b (why_now t)) told (subst (λ (u : Session). WhyMet u answer (why_now u)) session ran_met)
      cases false g = absurd (answered-refused (sym (ap (λ (r : Sampled). r.outcome) e) ∙ ap (λ (r : Sampled). r.outcome) (refused_stays s x g)))

  abbrev explained : Sampled → Asked
  explained r = explained_of r.session r.outcome

  asked_is : AskedAs s x (asked_of s x)
  unfolding asked_of ran_of
  asked_is = cases (accepted s x) refl
    where
      cases : (b : Bool) → accepted s x ≡ b → AskedAs s x (asked_of s x)
      cases true g =
          let e = accepted_runs s x g in
          subst (λ (r : Sampled). AskedAs s x (explained r)) (sym e)
          (paper.AskedAs.reasoned next answer (why_now next) ((samples_exactly s x (record { session = next; outcome = Ok answer })).0 e) ran_met)
      cases false g =
          let e = refused_stays s x g in
          subst (λ (r : Sampled). AskedAs s x (explained r)) (sym e) (paper.AskedAs.refused_with (refused_by s x) ((samples_exactly s x (refusal_by (refused_by s x) s)).0 e))

  asked_only : (a : Asked) → AskedAs s x a → asked_of s x ≡ a
  unfolding asked_of
  asked_only _ (paper.AskedAs.refused_with n h) = ap explained ((samples_exactly s x (refusal_by n s)).1 h)
  asked_only _ (paper.AskedAs.reasoned t a w h m) =
      let e = (samples_exactly s x (record { session = t; outcome = Ok a })).1 h in
      ap explained e ∙ ap (λ (v : Why). record { session = t; told = Ok (record { answer = a; why = v }) }) (one_why t a (why_now t) w (met t a e) m)

  pub asked_exactly : Exactly (asked_of s x) (AskedAs s x)
  asked_exactly = exactly (AskedAs s x) asked_is asked_only

-- ---- the numbers

pub numbered : (t : Session) (speed age : ℕ) (why : Reason) → Reasons t speed (reason_place why) age → (1 ≤ reason_number why) × (reason_number why ≤ 7)
numbered t speed age why h = of why (some h.stands)
  where
    -- no limit has place 0
    some : {n v a : ℕ} → Limits t.card.settings (top_of t) t.desk n v a → 1 ≤ n
    some laws.Limits.vmax = lit≤ tt
    some laws.Limits.train = lit≤ tt
    some (laws.Limits.bts on) = lit≤ tt
    some (laws.Limits.main on) = lit≤ tt
    some (laws.Limits.alongside on) = lit≤ tt
    some (laws.Limits.crossing on) = lit≤ tt
    some (laws.Limits.limit on) = lit≤ tt
    some (laws.Limits.paired speed m on) = lit≤ tt

    of : (r : Reason) → 1 ≤ reason_place r → (1 ≤ reason_number r) × (reason_number r ≤ 7)
    of reason.None low = absurd (omega arith)
    of reason.Vmax low = (lit≤ tt, lit≤ tt)
    of reason.Train low = (lit≤ tt, lit≤ tt)
    of reason.Bts low = (lit≤ tt, lit≤ tt)
    of reason.Main low = (lit≤ tt, lit≤ tt)
    of reason.Alongside low = (lit≤ tt, lit≤ tt)
    of reason.Crossing low = (lit≤ tt, lit≤ tt)
    of reason.Limit low = (lit≤ tt, lit≤ tt)
    of reason.Paired low = (lit≤ tt, lit≤ tt)
