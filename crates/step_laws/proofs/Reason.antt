-- The reason is the true one: the first of a list that stands at a speed, by its place; the limits by their places, in plain facts; both together.
use Prim.Native.Nat.{ℕ, zero, suc, ◌*◌, ◌<◌, min}
use lib.ListN.{length}
use native.Mathlib.Omega.{arith}
use mathlib.Core.Path.{◌≡◌, refl, sym, ap, subst, ◌∙◌}
use mathlib.Core.Bool.{Bool, true, false, false≢true}
use mathlib.Core.List.{List, [], ◌∷◌, Memᴰ}
use lib.Dec.{eqb}
use borrow.Author.Tests.{eqb-true, eqb-false}
use Rattle.card.specs.declared.Settings.{Settings}
use Rattle.curve.specs.Curve.{row_speed}
use Rattle.signals.specs.declared.control.MainKind.{MainKind}
use Rattle.signals.specs.declared.control.MainKind.TheVariants.{Clear, Start, ConditionalClear, Announcement, Preannouncement, Caution, BeforeStop, Stop, Zone}
use Rattle.signals.specs.declared.stop.Alongside.{Alongside}
use Rattle.signals.specs.MainControl.{limits_of}
use Rattle.signals.specs.Stop.{stop_speed}
use Rattle.sides.specs.declared.crossing.CrossingKind.{CrossingKind}
use Rattle.sides.specs.declared.crossing.CrossingKind.TheVariants.{Absent, Protected, Unprotected}
use Rattle.sides.specs.declared.crossing.Crossing.{Crossing}
use Rattle.sides.specs.declared.limit.Limit.{Limit}
use Rattle.sides.specs.Crossing.{stands, crossing_speed}
use Rattle.sides.specs.Limit.{limit_speed}
use Rattle.sides.specs.declared.pairs.FourLimits.{FourLimits}
use Rattle.sides.specs.Pairs.{paired_speed, paired_at, pair_speeds}
use Rattle.desk.specs.declared.state.Desk.{Desk}
use Rattle.step.specs.declared.speed.Reason.{Reason}
use Rattle.step.specs.declared.speed.Reason.TheVariants as reason
use Rattle.step.specs.declared.speed.Standing.{Standing}
use Rattle.step.specs.Speed.{none, standing, main_speed, bts_limit, main_limit, alongside_limit, crossing_limit, limit_limit, paired_limit, limits, supervised_of}
use Rattle.step.specs.Reason.{first_at, reason_of}
use Rattle.step.proofs.Least.{passed, found}
use Rattle.step_laws.specs.Reason.{reason_place, Limits, Names, ReasonLaws}
use Rattle.step_laws.proofs.Speed.{speed_among}

-- ---- the first of a list, by its place

-- what stands at a place of a list, of which the first is 0
abbrev placed : ℕ → List Standing → Standing
placed k [] = none
placed zero (l ∷ rest) = l
placed (suc k) (l ∷ rest) = placed k rest

abbrev pub Sets : ℕ → Standing → Type 0
Sets speed l = (l.stands ≡ true) × (l.speed ≡ speed)

record FirstPlace (speed : ℕ) (ls : List Standing) : Type 0 where
  place : ℕ
  named : first_at speed ls ≡ placed place ls
  sets : Sets speed (placed place ls)
  none_before : (k : ℕ) → k < place → Sets speed (placed k ls) → ⊥

here : (speed : ℕ) (x : Standing) (rest : List Standing) → Sets speed x → FirstPlace speed (x ∷ rest)
here speed x rest h = record { place = 0; named = found x rest speed h.0 h.1; sets = h; none_before = λ k less. absurd (omega arith) }

further : (speed : ℕ) (x : Standing) (rest : List Standing) → (Sets speed x → ⊥) → FirstPlace speed rest → FirstPlace speed (x ∷ rest)
further speed x rest not_here p =
    record {
      place = suc p.place;
      named = passed x rest speed (λ on same. not_here (on, same)) ∙ p.named;
      sets = p.sets;
      none_before = before;
    }
  where
    before : (k : ℕ) → k < suc p.place → Sets speed (placed k (x ∷ rest)) → ⊥
    before zero less h = not_here h
    before (suc k) less h = p.none_before k (omega arith) h

-- a list in which one stands at the speed has a first
first_place : (speed : ℕ) (l : Standing) {ls : List Standing} → Memᴰ l ls → Sets speed l → FirstPlace speed ls
first_place speed l (Memᴰ.head {x = x} {xs = rest} e) h = here speed x rest (ap (λ (y : Standing). y.stands) (sym e) ∙ h.0, ap (λ (y : Standing). y.speed) (sym e) ∙ h.1)
first_place speed l (Memᴰ.tail {x = x} {xs = rest} m) h = cases x.stands refl (eqb x.speed speed) refl (first_place speed l m h)
  where
    cases : (p : Bool) → x.stands ≡ p → (t : Bool) → eqb x.speed speed ≡ t → FirstPlace speed rest → FirstPlace speed (x ∷ rest)
    cases true e true g next = here speed x rest (e, eqb-true x.speed speed g)
    cases true e false g next = further speed x rest (λ s. eqb-false x.speed speed g s.1) next
    cases false e t g next = further speed x rest (λ s. false≢true (sym e ∙ s.0)) next

placed_member : (k : ℕ) (ls : List Standing) → (placed k ls).stands ≡ true → Memᴰ (placed k ls) ls
placed_member k [] h = absurd (false≢true h)
placed_member zero (l ∷ rest) h = Memᴰ.head refl
placed_member (suc k) (l ∷ rest) h = Memᴰ.tail (placed_member k rest h)

member_placed : {l : Standing} {ls : List Standing} → Memᴰ l ls → (k : ℕ) × (placed k ls ≡ l)
member_placed (Memᴰ.head e) = (0, sym e)
member_placed (Memᴰ.tail m) = let p = member_placed m in (suc p.0, p.1)

-- the same of a list of numbers
abbrev nth : ℕ → List ℕ → ℕ
nth k [] = 0
nth zero (n ∷ rest) = n
nth (suc k) (n ∷ rest) = nth k rest

member_nth : {n : ℕ} {ns : List ℕ} → Memᴰ n ns → (k : ℕ) × ((nth k ns ≡ n) × (k < length ns))
member_nth (Memᴰ.head e) = (0, (sym e, omega arith))
member_nth (Memᴰ.tail m) = let p = member_nth m in let less = p.1.1 in (suc p.0, (p.1.0, omega arith))

-- ---- the limits, by their places

not_clear : (kind : MainKind) → limits_of kind ≡ true → kind ≡ Clear → ⊥
not_clear kind h e = false≢true (sym (ap limits_of e) ∙ h)

clear_not : (kind : MainKind) → (kind ≡ Clear → ⊥) → limits_of kind ≡ true
clear_not Clear n = absurd (n refl)
clear_not Start n = refl
clear_not ConditionalClear n = refl
clear_not Announcement n = refl
clear_not Preannouncement n = refl
clear_not Caution n = refl
clear_not BeforeStop n = refl
clear_not Stop n = refl
clear_not Zone n = refl

not_absent : (kind : CrossingKind) → stands kind ≡ true → kind ≡ Absent → ⊥
not_absent kind h e = false≢true (sym (ap stands e) ∙ h)

absent_not : (kind : CrossingKind) → (kind ≡ Absent → ⊥) → stands kind ≡ true
absent_not Absent n = absurd (n refl)
absent_not Protected n = refl
absent_not Unprotected n = refl

module _ (s : Settings) (top : ℕ) (d : Desk) where
  abbrev at : ℕ → Standing
  at k = placed k (limits s top d)

  abbrev four : FourLimits
  four = d.beside.paired.limits

  -- a limit's place in the order, by its place in the list: the paired ones have one
  abbrev rank : ℕ → ℕ
  rank k = min (suc k) 8

  -- what a limit of the list is in plain facts, and its place in the order
  abbrev Plain : ℕ → Standing → Type 0
  Plain k l = (reason_place l.reason ≡ rank k) × Limits s top d (rank k) l.speed l.age

  as_plain : (k : ℕ) (why : Reason) (on : Bool) (speed age : ℕ) → reason_place why ≡ rank k → (on ≡ true → Limits s top d (rank k) speed age)
      → (standing why on speed age).stands ≡ true → Plain k (standing why on speed age)
  as_plain k why true speed age number facts h = (number, facts refl)
  as_plain k why false speed age number facts h = absurd (false≢true h)

  paired_plain : (k speed : ℕ) → 8 ≡ rank k → Memᴰ speed pair_speeds → (paired_limit top four speed).stands ≡ true → Plain k (paired_limit top four speed)
  unfolding paired_limit
  paired_plain k speed n m h =
      let l = paired_at speed four in
      as_plain k reason.Paired l.on (paired_speed top speed) l.age n
      (λ on. subst (λ (r : ℕ). Limits s top d r (paired_speed top speed) l.age) n (Limits.paired speed m on)) h

  plain : (k : ℕ) → (at k).stands ≡ true → Plain k (at k)
  unfolding bts_limit main_limit alongside_limit crossing_limit limit_limit
  plain zero h = (refl, Limits.vmax)
  plain (suc zero) h = (refl, Limits.train)
  plain (suc (suc zero)) h = as_plain 2 reason.Bts d.bts (s.bts * 100) 0 refl Limits.bts h
  plain (suc (suc (suc zero))) h =
      as_plain 3 reason.Main (limits_of d.main.kind) (main_speed d.main.kind d.main s top) d.main.age refl (λ on. Limits.main (not_clear d.main.kind on)) h
  plain (suc (suc (suc (suc zero)))) h =
      let a : Alongside = d.beside.alongside in
      as_plain 4 reason.Alongside a.on (stop_speed a.increased top) a.age refl Limits.alongside h
  plain (suc (suc (suc (suc (suc zero))))) h =
      let c : Crossing = d.beside.crossing in
      as_plain 5 reason.Crossing (stands c.kind) (crossing_speed c.kind (row_speed s.crossing c.age) top) c.age refl
      (λ on. Limits.crossing (not_absent c.kind on)) h
  plain (suc (suc (suc (suc (suc (suc zero)))))) h =
      let l : Limit = d.beside.limit in
      as_plain 6 reason.Limit l.on (limit_speed (row_speed s.limit l.age) s.limit.last top l) l.age refl Limits.limit h
  plain (suc (suc (suc (suc (suc (suc (suc zero))))))) h = paired_plain 7 30 refl (Memᴰ.head refl) h
  plain (suc (suc (suc (suc (suc (suc (suc (suc zero)))))))) h = paired_plain 8 40 refl (Memᴰ.tail (Memᴰ.head refl)) h
  plain (suc (suc (suc (suc (suc (suc (suc (suc (suc zero))))))))) h = paired_plain 9 50 refl (Memᴰ.tail (Memᴰ.tail (Memᴰ.head refl))) h
  plain (suc (suc (suc (suc (suc (suc (suc (suc (suc (suc zero)))))))))) h =
      paired_plain 10 70 refl (Memᴰ.tail (Memᴰ.tail (Memᴰ.tail (Memᴰ.head refl)))) h
  plain (suc (suc (suc (suc (suc (suc (suc (suc (suc (suc (suc k))))))))))) h = absurd (false≢true h)

  -- a limit that stands in plain facts has its place in the list
  record Listed (number speed age : ℕ) : Type 0 where
    place : ℕ
    numbered : number ≡ rank place
    listed : at place ≡ standing (at place).reason true speed age

  as_listed : (number k : ℕ) (why : Reason) (on : Bool) (speed age : ℕ) → number ≡ rank k → at k ≡ standing why on speed age → on ≡ true → Listed number speed age
  as_listed number k why on speed age n e on_true =
      let same : at k ≡ standing why true speed age = e ∙ ap (λ (t : Bool). standing why t speed age) on_true in
      record { place = k; numbered = n; listed = same ∙ ap (λ (w : Reason). standing w true speed age) (sym (ap (λ (l : Standing). l.reason) same)) }

  paired_at_lem : (k : ℕ) → k < 4 → (paired_at (nth k pair_speeds) four).on ≡ true → Listed 8 (paired_speed top (nth k pair_speeds)) (paired_at (nth k pair_speeds) four).age
  unfolding paired_limit
  paired_at_lem zero less on = as_listed 8 7 reason.Paired four.thirty.on _ _ refl refl on
  paired_at_lem (suc zero) less on = as_listed 8 8 reason.Paired four.forty.on _ _ refl refl on
  paired_at_lem (suc (suc zero)) less on = as_listed 8 9 reason.Paired four.fifty.on _ _ refl refl on
  paired_at_lem (suc (suc (suc zero))) less on = as_listed 8 10 reason.Paired four.seventy.on _ _ refl refl on
  paired_at_lem (suc (suc (suc (suc k)))) less on = absurd (omega arith)

  paired_listed : (v : ℕ) → Memᴰ v pair_speeds → (paired_at v four).on ≡ true → Listed 8 (paired_speed top v) (paired_at v four).age
  paired_listed v m =
      let p = member_nth m in
      subst (λ (u : ℕ). (paired_at u four).on ≡ true → Listed 8 (paired_speed top u) (paired_at u four).age) p.1.0 (paired_at_lem p.0 p.1.1)

  listed_at : {n v a : ℕ} → Limits s top d n v a → Listed n v a
  unfolding bts_limit main_limit alongside_limit crossing_limit limit_limit
  listed_at Limits.vmax = as_listed 1 0 reason.Vmax true _ 0 refl refl refl
  listed_at Limits.train = as_listed 2 1 reason.Train true _ 0 refl refl refl
  listed_at (Limits.bts on) = as_listed 3 2 reason.Bts d.bts _ 0 refl refl on
  listed_at (Limits.main not) = as_listed 4 3 reason.Main (limits_of d.main.kind) _ _ refl refl (clear_not d.main.kind not)
  listed_at (Limits.alongside on) = as_listed 5 4 reason.Alongside d.beside.alongside.on _ _ refl refl on
  listed_at (Limits.crossing not) = as_listed 6 5 reason.Crossing (stands d.beside.crossing.kind) _ _ refl refl (absent_not d.beside.crossing.kind not)
  listed_at (Limits.limit on) = as_listed 7 6 reason.Limit d.beside.limit.on _ _ refl refl on
  listed_at (Limits.paired v m on) = paired_listed v m on

  -- ---- and by their membership

  -- what stands in plain facts is one of the list
  pub limits_member : {n v a : ℕ} → Limits s top d n v a → (l : Standing) × (Memᴰ l (limits s top d) × Sets v l)
  limits_member h =
      let e = listed_at h in
      let stands : (at e.place).stands ≡ true = ap (λ (l : Standing). l.stands) e.listed in
      (at e.place, (placed_member e.place (limits s top d) stands, (stands, ap (λ (l : Standing). l.speed) e.listed)))

  -- and one of the list that stands is one in plain facts
  pub member_limits : (l : Standing) → Memᴰ l (limits s top d) → l.stands ≡ true → Limits s top d (reason_place l.reason) l.speed l.age
  member_limits l m h =
      let p = member_placed m in
      let facts = plain p.0 (ap (λ (x : Standing). x.stands) p.1 ∙ h) in
      subst (λ (x : Standing). Limits s top d (reason_place x.reason) x.speed x.age) p.1
      (subst (λ (n : ℕ). Limits s top d n (at p.0).speed (at p.0).age) (sym facts.0) facts.1)

  -- ---- the reason

  abbrev speed : ℕ
  speed = supervised_of s top d

  first : FirstPlace speed (limits s top d)
  first = let one = speed_among s top d in first_place speed one.limit one.listed (one.stands, one.same)

  named : reason_of s top d ≡ at first.place
  unfolding reason_of
  named = first.named

  true_one : Names s top d speed (reason_place (reason_of s top d).reason) (reason_of s top d).age
  true_one =
      let p = plain first.place first.sets.0 in
      let same = first.sets.1 in
      rw (named, p.0)
      (record { stands = subst (λ (v : ℕ). Limits s top d (rank first.place) v (at first.place).age) same p.1; no_earlier = no_earlier })
    where
      no_earlier : (n a : ℕ) → n < rank first.place → Limits s top d n speed a → ⊥
      no_earlier n a less l =
          let e = listed_at l in
          let number = e.numbered in
          first.none_before e.place (omega arith) (ap (λ (x : Standing). x.stands) e.listed, ap (λ (x : Standing). x.speed) e.listed)

  -- two paired limits of one speed are one, unless that is T
  record AsPaired (v a : ℕ) : Type 0 where
    speed_of : ℕ
    value : paired_speed top speed_of ≡ v
    aged : (paired_at speed_of four).age ≡ a

  as_paired : {n v a : ℕ} → Limits s top d n v a → n ≡ 8 → AsPaired v a
  as_paired Limits.vmax e = absurd (omega arith)
  as_paired Limits.train e = absurd (omega arith)
  as_paired (Limits.bts on) e = absurd (omega arith)
  as_paired (Limits.main not) e = absurd (omega arith)
  as_paired (Limits.alongside on) e = absurd (omega arith)
  as_paired (Limits.crossing not) e = absurd (omega arith)
  as_paired (Limits.limit on) e = absurd (omega arith)
  as_paired (Limits.paired w m on) e = record { speed_of = w; value = refl; aged = refl }

  paired_only : (v a b : ℕ) → AsPaired v a → AsPaired v b → (top ≡ v → ⊥) → a ≡ b
  paired_only v a b p q below =
      let one = p.value in
      let other = q.value in
      let same : p.speed_of ≡ q.speed_of = speeds_one p.speed_of q.speed_of one other in
      sym p.aged ∙ ap (λ (w : ℕ). (paired_at w four).age) same ∙ q.aged
    where
      speeds_one : (w u : ℕ) → min top (w * 100) ≡ v → min top (u * 100) ≡ v → w ≡ u
      speeds_one w u e f = cases (eqb top v) refl
        where
          cases : (t : Bool) → eqb top v ≡ t → w ≡ u
          cases true g = absurd (below (eqb-true top v g))
          cases false g = let other = eqb-false top v g in omega arith

  only_one : (v n a m b : ℕ) → Names s top d v n a → Names s top d v m b → (n ≡ m) × (a ≡ b)
  only_one v n a m b h g = (same, cases (eqb n 8) refl)
    where
      neither : (n m : ℕ) → (n < m → ⊥) → (m < n → ⊥) → n ≡ m
      neither n m p q = omega arith

      same : n ≡ m
      same = neither n m (λ less. g.no_earlier n a less h.stands) (λ less. h.no_earlier m b less g.stands)

      cases : (t : Bool) → eqb n 8 ≡ t → a ≡ b
      cases true t =
          let eight = eqb-true n 8 t in
          let less : 2 < n = omega arith in
          paired_only v a b (as_paired h.stands eight) (as_paired g.stands (sym same ∙ eight))
          (λ is. h.no_earlier 2 0 less (subst (λ (w : ℕ). Limits s top d 2 w 0) is Limits.train))
      cases false t =
          let other = eqb-false n 8 t in
          let e = listed_at h.stands in
          let f = listed_at g.stands in
          let number = e.numbered in
          let number_2 = f.numbered in
          let one = same in
          let place : e.place ≡ f.place = omega arith in
          ap (λ (x : Standing). x.age) (sym e.listed ∙ ap at place ∙ f.listed)

  pub reason_laws : ReasonLaws s top d
  reason_laws = record { value = ap (λ (l : Standing). l.speed) named ∙ first.sets.1; true_one = true_one; only_one = only_one }
