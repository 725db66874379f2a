-- The lazy receivers pass where only the whole recording is asked after, and not where each sample and each byte is.
use Prim.Native.Nat.{ℕ, ◌+◌, ◌%◌, ◌<◌}
use native.Mathlib.Omega.{arith}
use mathlib.Core.List.{List, [], ◌∷◌, ◌++◌}
use mathlib.Core.Path.{◌≡◌, refl, sym, ap, ◌∙◌}
use lib.Dec.{lit≤, lit<}
use lib.ListN.{length}
use lib.Seq.{take_all}
use Rattle.leaf.specs.Answers.{Answer, given, refused}
use Rattle.leaf.specs.Bytes.{long}
use Rattle.step.specs.declared.Answer.{Answer as Told}
use Rattle.rides.specs.Recording.{samples_in, place_of}
use Rattle.rides.proofs.Recordings.{good_met}
use Rattle.receiver.specs.Receiver.{between_samples}
use Rattle.receiver.specs.declared.Receiver.{Receiver}
use Rattle.receiver.specs.declared.Status.TheVariants.{Refused}
use Rattle.demands.specs.Examples.{card_of_a}
use Rattle.demands.specs.Pieces.{after_bytes, shown_bytes, AllBytes, one}
use Rattle.demands.specs.Lazy.{ShowsWhole, ShowsAtOnce, RefusesAtOnce, ours, collects, waits, LinesOut}
use Rattle.demands.proofs.Line.{due_between}
use Rattle.demands.proofs.Certain.{received_due, shown_due, parts}
use Rattle.demands.proofs.Whole.{answers_as_whole, shown_inside, shown_complete, at_once}
use Rattle.demands.proofs.LineExamples.{whole, unfit, computed}

-- ---- ours

ours_at_once : ShowsAtOnce ours
ours_at_once s bytes k j u n few going opens =
    let a = at_once s bytes k j n few going in
    let same : given a.opened ≡ given u = sym a.opens ∙ opens in
    let it : a.opened ≡ u = cc in
    rw (← it) a.answers

ours_refuses : RefusesAtOnce ours
ours_refuses s before part due few real nine =
    let at = between_samples (after_bytes s before).session (long before 0) (length before) in
    let there = ap (λ (r : Receiver). r.status) (sym (received_due s before due part)) ∙ (parts s before part due few real (Refused 9)).1 nine in
    let small : length before % 6 + length part < 6 = omega (arith, (due_between s before due).3) in
    shown_due s before due part ∙ ap (λ (l : List (Answer Told)). shown_bytes s before ++ l) (shown_inside at part refl small ∙ rw there)

-- ---- one that collects everything

-- card A, type 6, a ride of one sample, and of it six bytes
collects_out : ShowsAtOnce collects → ⊥
collects_out x =
    let c = computed in
    let none = x card_of_a whole 1 0 c.opened refl (lit< tt) c.going c.opens in
    let z : ◌≡◌ {A = ℕ} 0 1 = ap length none ∙ c.one_answer in
    omega arith

-- ---- one that waits for the sixth byte

waits_whole : ShowsWhole waits
waits_whole s recording good =
    let m = good_met recording good in
    let w = m.whole in
    rw (take_all (place_of (samples_in recording)) recording (omega arith)) (answers_as_whole s recording good)

waits_at_once : ShowsAtOnce waits
waits_at_once s bytes k j u n few going opens =
    let count : samples_in bytes ≡ k = omega arith in
    rw count (sym (shown_complete s bytes k j n few going)) ∙ ours_at_once s bytes k j u n few going opens

-- `0000000C0106 FFFF 0B 08`: 9 is certain at its last byte
waits_out : RefusesAtOnce waits → ⊥
waits_out x =
    let c = computed in
    let real : AllBytes unfit = (lit< tt, (lit< tt, (lit< tt, (lit< tt, tt)))) in
    let nine = (parts card_of_a (one []) unfit c.due (lit≤ tt) real (Refused 9)).0 c.refused_9 in
    let told = x card_of_a (one []) unfit c.due (lit≤ tt) real nine in
    let z : ◌≡◌ {A = ℕ} 0 1 = sym (ap length c.waits_on) ∙ ap length told ∙ ap (λ (l : List (Answer Told)). length (l ++ refused 9 ∷ [])) c.waits_before in
    omega arith

pub lines_out : LinesOut
lines_out =
    record {
      ours_passes = (answers_as_whole, ours_at_once, ours_refuses);
      collects_passes = λ s recording good. refl;
      collects_out = collects_out;
      waits_passes = (waits_whole, waits_at_once);
      waits_out = waits_out;
    }
