-- Six bytes of a sample, come to a receiver between two samples.
use Prim.Native.Nat.{ℕ, ◌+◌, ◌*◌, ◌/◌, ◌%◌, ◌<◌, ◌≤◌}
use native.Mathlib.Omega.{arith}
use mathlib.Core.Path.{◌≡◌, refl, sym, ap, ◌∙◌}
use mathlib.Core.Bool.{Bool, true, false}
use mathlib.Core.List.{List, [], ◌∷◌, ◌++◌, append-nil}
use lib.Dec.{eqb, leb}
use borrow.Author.Tests.{leb-false, lt-leb}
use Rattle.leaf.specs.Choosing.{pick}
use Rattle.leaf.specs.Numbers.{code_top, buttons_top}
use Rattle.leaf.specs.Checks.{or_fault}
use Rattle.leaf.specs.Answers.{Answer, refused, numbered_refusal}
use Rattle.step.specs.declared.Answer.{Answer as Told}
use Rattle.session.specs.declared.Sample.{Sample}
use Rattle.session.specs.declared.Session.{Session}
use Rattle.session.specs.Session.{inside_of, refused_by, sample_of, answer_to}
use Rattle.rides.specs.Ride.{fresh_ride, told_of, turn_of, shown_of, turn_shows}
use Rattle.receiver.specs.Receiver.{with_status, with_session, with_part, counted_in, no_part, quietly, refused_with, part_fits, part_with, completed_by, sample_takes, take_of, received_all, shown_all, between_samples, sample_from, SampleTaken}
use Rattle.receiver.specs.declared.Receiver.{Receiver}
use Rattle.receiver.specs.declared.Status.TheVariants.{Open, Refused}
use Rattle.receiver.specs.declared.Received.{Received}
use Rattle.rides.specs.declared.ride.Turned.{Turned}
use Rattle.rides.proofs.Runs.{turn_paper}
use Rattle.receiver.proofs.Receivers.{refused_stays, sample_takes_lem}

-- ---- a byte at a time

-- the receiver after the bytes, and what they show
abbrev pub both : Receiver → List ℕ → Receiver × List (Answer Told)
both r l = (received_all r l, shown_all r l)

-- a byte that shows nothing
pub silent : (r next : Receiver) (b : ℕ) (l : List ℕ) → take_of r b ≡ quietly next → both r (b ∷ l) ≡ both next l
unfolding received_all shown_all
silent r next b l e = rw e

-- a byte that is refused: what follows is not looked at
pub fault : (r : Receiver) (n b : ℕ) (l : List ℕ) → take_of r b ≡ refused_with n r → both r (b ∷ l) ≡ (with_status (Refused n) r, refused n ∷ [])
unfolding received_all shown_all refused_with
fault r n b l e =
    let rest = refused_stays (with_status (Refused n) r) n l refl in
    rw (e, rest.0, rest.1)

-- ---- a sample's bytes

module _ (s : Session) (stated : ℕ) where
  -- open, of a sample this much in
  abbrev pub held : ℕ → Sample → Receiver
  held taken x = record { session = s; stated = stated; taken = taken; part = x; status = Open }

  pub kept : (t place b : ℕ) (x : Sample) → 6 ≤ t → t < stated → t % 6 ≡ place → part_fits place b ≡ true → eqb place 5 ≡ false
      → take_of (held t x) b ≡ quietly (held (t + 1) (part_with x place b))
  unfolding sample_takes
  kept t place b x h p e f n = rw (sample_takes_lem (held t x) b refl h p, e, f, n)

  pub unfit : (t place b : ℕ) (x : Sample) → 6 ≤ t → t < stated → t % 6 ≡ place → part_fits place b ≡ false → take_of (held t x) b ≡ refused_with 9 (held t x)
  unfolding sample_takes
  unfit t place b x h p e f = rw (sample_takes_lem (held t x) b refl h p, e, f)

  -- the last byte: the sample is run
  ran : (t f : ℕ) (x : Sample) → 6 ≤ t → t < stated → t % 6 ≡ 5
      → take_of (held t x) f ≡ completed_by (held t x) (turn_of (fresh_ride s) (record { pulses = x.pulses; beacon = x.beacon; buttons = x.buttons; mode = f }))
  unfolding sample_takes part_fits part_with
  ran t f x h p e = rw (sample_takes_lem (held t x) f refl h p, e)

  -- the pulses
  two : (t a b : ℕ) (l : List ℕ) → 6 ≤ t → t + 2 ≤ stated → t % 6 ≡ 0
      → both (held t no_part) (a ∷ b ∷ l) ≡ both (held (t + 2) (record { pulses = a * 256 + b; beacon = 0; buttons = 0; mode = 0 })) l
  unfolding part_fits part_with
  two t a b l h p e =
      let e1 : (t + 1) % 6 ≡ 1 = omega arith in
      let whole : a * 256 / 256 * 256 + b ≡ a * 256 + b = omega arith in
      let sum : t + 1 + 1 ≡ t + 2 = omega arith in
      silent (held t no_part) _ a (b ∷ l) (kept t 0 a no_part h (omega arith) e refl refl)
      ∙ silent (held (t + 1) (part_with no_part 0 a)) _ b l (kept (t + 1) 1 b (part_with no_part 0 a) (omega arith) (omega arith) e1 refl refl)
      ∙ rw (whole, sum)

  -- the beacon, where it may stand
  third : (t c : ℕ) (x : Sample) (l : List ℕ) → 6 ≤ t → t < stated → t % 6 ≡ 2 → leb c code_top ≡ true
      → both (held t x) (c ∷ l) ≡ both (held (t + 1) (record { pulses = x.pulses; beacon = c; buttons = x.buttons; mode = x.mode })) l
  unfolding part_fits part_with
  third t c x l h p e f = silent (held t x) _ c l (kept t 2 c x h p e f refl)

  -- the buttons, where they may stand
  fourth : (t d e : ℕ) (x : Sample) (l : List ℕ) → 6 ≤ t → t + 2 ≤ stated → t % 6 ≡ 3 → leb d (buttons_top / 256) ≡ true
      → both (held t x) (d ∷ e ∷ l) ≡ both (held (t + 2) (record { pulses = x.pulses; beacon = x.beacon; buttons = d * 256 + e; mode = x.mode })) l
  unfolding part_fits part_with
  fourth t d e x l h p m f =
      let m1 : (t + 1) % 6 ≡ 4 = omega arith in
      let whole : d * 256 / 256 * 256 + e ≡ d * 256 + e = omega arith in
      let sum : t + 1 + 1 ≡ t + 2 = omega arith in
      silent (held t x) _ d (e ∷ l) (kept t 3 d x h (omega arith) m f refl)
      ∙ silent (held (t + 1) (part_with x 3 d)) _ e l (kept (t + 1) 4 e (part_with x 3 d) (omega arith) (omega arith) m1 refl refl)
      ∙ rw (whole, sum)

-- ---- 9 before the sample is complete: whatever follows, the sample is refused 9

module _ (s : Session) (x : Sample) (inside : inside_of s ≡ true) where
  nine_beacon : leb x.beacon code_top ≡ false → refused_by s x ≡ 9
  unfolding refused_by or_fault
  nine_beacon e = rw (inside, e)

  nine_buttons : leb x.buttons buttons_top ≡ false → refused_by s x ≡ 9
  unfolding refused_by or_fault
  nine_buttons e = cases (leb x.beacon code_top) refl
    where
      cases : (t : Bool) → leb x.beacon code_top ≡ t → refused_by s x ≡ 9
      cases true f = rw (inside, f, e)
      cases false f = rw (inside, f)

-- a sample that is refused
turn_nine : (s : Session) (x : Sample) → refused_by s x ≡ 9
    → (turn_shows (fresh_ride s) x ≡ refused 9 ∷ []) × ((turn_of (fresh_ride s) x).ride.ended ≡ 9)
unfolding turn_shows turn_of told_of sample_of answer_to numbered_refusal
turn_nine s x e = (rw e, rw e)

-- the last byte: the sample is run
final : (r : Receiver) (f : ℕ) (t : Turned) → take_of r f ≡ completed_by r t → both r (f ∷ []) ≡ ((completed_by r t).receiver, shown_of t.shown)
unfolding received_all shown_all completed_by
final r f t e =
    let after : received_all r (f ∷ []) ≡ (completed_by r t).receiver = ap (λ (z : Received). z.receiver) e in
    let told : shown_all r (f ∷ []) ≡ shown_of t.shown = ap (λ (z : Received). shown_of z.shown ++ []) e ∙ append-nil (shown_of t.shown) in
    rw (after, told)

ran_on : (r : Receiver) (t : Turned) → eqb t.ride.ended 0 ≡ true → (completed_by r t).receiver ≡ counted_in (with_part no_part (with_session t.ride.session r))
unfolding completed_by
ran_on r t e = rw e

ran_out : (r : Receiver) (t : Turned) → eqb t.ride.ended 0 ≡ false → (completed_by r t).receiver ≡ with_status (Refused t.ride.ended) r
unfolding completed_by
ran_out r t e = rw e

-- ---- six bytes

module _ (s : Session) (stated t a b c d e f : ℕ) (inside : inside_of s ≡ true) (h : 6 ≤ t) (p : t + 6 ≤ stated) (m : t % 6 ≡ 0) where
  abbrev x : Sample
  x = sample_from a b c d e f

  abbrev bytes : List ℕ
  bytes = a ∷ b ∷ c ∷ d ∷ e ∷ f ∷ []

  -- refused 9 at once
  at_once : (k : ℕ) (y : Sample) → refused_by s x ≡ 9 → both (between_samples s stated t) bytes ≡ (with_status (Refused 9) (held s stated k y), refused 9 ∷ [])
      → SampleTaken s stated t x bytes
  at_once k y nine same =
      let n = turn_nine s x nine in
      let after = ap (λ (q : Receiver × List (Answer Told)). q.0) same in
      record {
        shows = ap (λ (q : Receiver × List (Answer Told)). q.1) same ∙ sym n.0;
        goes_on = λ g. absurd (never (sym (ap (λ (k : ℕ). eqb k 0) n.1) ∙ g));
        stops = λ g. (rw (after, n.1), rw after);
      }
    where
      never : false ≡ true → ⊥
      never e = let z : ◌≡◌ {A = ℕ} 0 1 = ap (λ (k : Bool). pick k 1 0) e in omega arith

  m2 : (t + 2) % 6 ≡ 2
  m2 = omega arith

  pub six_taken : SampleTaken s stated t x bytes
  unfolding part_fits
  six_taken = beacon (leb c code_top) refl
    where
      y2 : Sample
      y2 = record { pulses = a * 256 + b; beacon = 0; buttons = 0; mode = 0 }

      y3 : Sample
      y3 = record { pulses = a * 256 + b; beacon = c; buttons = 0; mode = 0 }

      y5 : Sample
      y5 = record { pulses = a * 256 + b; beacon = c; buttons = d * 256 + e; mode = 0 }

      after_two : both (between_samples s stated t) bytes ≡ both (held s stated (t + 2) y2) (c ∷ d ∷ e ∷ f ∷ [])
      after_two = two s stated t a b (c ∷ d ∷ e ∷ f ∷ []) h (omega arith) m

      complete : leb c code_top ≡ true → leb d (buttons_top / 256) ≡ true → SampleTaken s stated t x bytes
      complete g k =
          let sum : t + 2 + 1 ≡ t + 3 = omega arith in
          let sum5 : t + 3 + 2 ≡ t + 5 = omega arith in
          let sum6 : t + 5 + 1 ≡ t + 6 = omega arith in
          let m3 : (t + 3) % 6 ≡ 3 = omega arith in
          let m5 : (t + 5) % 6 ≡ 5 = omega arith in
          let turned = turn_of (fresh_ride s) x in
          let all : both (between_samples s stated t) bytes ≡ ((completed_by (held s stated (t + 5) y5) turned).receiver, shown_of turned.shown) =
          after_two ∙ rw sum at (third s stated (t + 2) c y2 (d ∷ e ∷ f ∷ []) (omega arith) (omega arith) m2 g)
          ∙ rw sum5 at (fourth s stated (t + 3) d e y3 (f ∷ []) (omega arith) (omega arith) m3 k)
          ∙ final (held s stated (t + 5) y5) f turned (ran s stated (t + 5) f y5 (omega arith) (omega arith) m5) in
          record {
            shows = ap (λ (q : Receiver × List (Answer Told)). q.1) all ∙ turn_paper (fresh_ride s) x;
            goes_on = λ g. ap (λ (q : Receiver × List (Answer Told)). q.0) all ∙ rw sum6 at (ran_on (held s stated (t + 5) y5) turned g);
            stops = λ g. let after = ap (λ (q : Receiver × List (Answer Told)). q.0) all ∙ ran_out (held s stated (t + 5) y5) turned g in (rw after, rw after);
          }

      buttons : (k : Bool) → leb d (buttons_top / 256) ≡ k → leb c code_top ≡ true → SampleTaken s stated t x bytes
      buttons true k g = complete g k
      buttons false k g =
          let sum : t + 2 + 1 ≡ t + 3 = omega arith in
          let m3 : (t + 3) % 6 ≡ 3 = omega arith in
          let over : buttons_top / 256 < d = leb-false _ _ k in
          let out : buttons_top < d * 256 + e = omega arith in
          at_once (t + 3) y3 (nine_buttons s x inside (lt-leb _ _ out))
          (after_two ∙ rw sum at (third s stated (t + 2) c y2 (d ∷ e ∷ f ∷ []) (omega arith) (omega arith) m2 g)
          ∙ fault (held s stated (t + 3) y3) 9 d (e ∷ f ∷ []) (unfit s stated (t + 3) 3 d y3 (omega arith) (omega arith) m3 k))

      beacon : (g : Bool) → leb c code_top ≡ g → SampleTaken s stated t x bytes
      beacon true g = buttons (leb d (buttons_top / 256)) refl g
      beacon false g =
          at_once (t + 2) y2 (nine_beacon s x inside g) (after_two ∙ fault (held s stated (t + 2) y2) 9 c (d ∷ e ∷ f ∷ []) (unfit s stated (t + 2) 2 c y2 (omega arith) (omega arith) m2 g))
