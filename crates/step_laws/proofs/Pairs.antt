-- The laws of pairs, of every sample of every desk.
use Prim.Native.Nat.{ℕ, ◌+◌, ◌*◌, ◌≤◌, ◌<◌, min}
use native.Mathlib.Omega.{arith}
use mathlib.Core.Path.{◌≡◌, refl, sym, ap, subst, ◌∙◌}
use mathlib.Core.Bool.{Bool, true, false, ◌&&◌, ◌||◌, not, false≢true}
use mathlib.Core.Logic.{◌⊎◌, inl, inr}
use lib.Dec.{leb, ltb}
use borrow.Author.Tests.{eqb-true, eqb-false, eq-eqb, ne_eqb, le-leb, leb-true, lt-ltb, ltb-true, ltb-false, not-true}
use Rattle.leaf.specs.Choosing.{pick, and_split}
use Rattle.leaf.specs.Numbers.{aged_of, further_of, bit_of}
use Rattle.leaf.specs.Buttons.{crossing_button, limit_button, increase_button, hide_button}
use Rattle.card.specs.declared.Row.{Row}
use Rattle.card.specs.declared.Card.{Card}
use Rattle.card.specs.declared.Pairs.{Pairs}
use Rattle.card.specs.Card.{protects, zones, reminds}
use Rattle.curve.specs.Curve.{row_speed}
use Rattle.signals.specs.MainControl.{may_increase}
use Rattle.sides.specs.declared.limit.Limit.{Limit}
use Rattle.sides.specs.declared.pairs.FirstKind.TheVariants.{Absent, Ten, Eleven}
use Rattle.sides.specs.declared.pairs.Paired.{Paired}
use Rattle.sides.specs.Limit.{no_limit, limit_set, may_step, stepped, hidden, removable, highest}
use Rattle.sides.specs.Pairs.{no_first, is_first, first_read, first_older, reach_of, is_second, no_paired, paired_now, paired_older, none_of_four, paired_at, four_with, lowest_to_go, all_older}
use Rattle.desk.specs.declared.beside.Beside.{Beside}
use Rattle.desk.specs.declared.state.Desk.{Desk}
use Rattle.desk.specs.State.{with_code, mode_changed}
use Rattle.desk.specs.Clock.{same_mode}
use Rattle.buttons.specs.Buttons.{pressed, free_for, limit_removed, lowest_removed, limit_pressed, increase_pressed, hide_pressed, all_presses}
use Rattle.beacons.specs.Beacons.{speed_of_pair, drops_single, reading_first, reading_second, reading_paired, reading_limit, reading_of, read_if, beacon_taken}
use Rattle.step.specs.declared.Input.{Input}
use Rattle.step.specs.Speed.{crossing_turned}
use Rattle.step.specs.Brake.{braked}
use Rattle.step.specs.Step.{has_pairs, moved_of, judged_of, step_of}
use Rattle.step_laws.specs.Walk.{reads_at, is_limit}
use Rattle.step_laws.specs.Pairs.{first_of, four_of, single_of, IsSpeed, PairOf, at_buttons, at_limit, after_limit, at_increase, after_increase, before, after, ReadOnThree, Near, MakesPair, IsFirst, Goes, SingleGoes, final_of, LowestPaired, LowestSingle, Steps, PairLaws}
use Rattle.step_laws.proofs.Choosing.{not_so}
use Rattle.step_laws.proofs.Four.{not_zero, with_at, with_other, at_older, goes, goes_as, goes_is, lowest_found, Found, NoneGoes, found_goes}
use Rattle.step_laws.proofs.Second.{pair_speed, pair_of, there_is, is_there, limit_is, is_limit_lem}
use Rattle.step_laws.proofs.LimitPresses.{free_facts, single_as, single_is, paired_goes_off, single-goes_off, none_goes_off, increase_single, one_more, set_by}
use Rattle.step_laws.proofs.Kept.{all_presses_lem, pressed_keeps, to_limit, from_limit, begun_same, begun_changed, removed_first, reading_keeps, limit_acts, single_keeps, single_sets, first-paired, first_single, second_paired, second_single}

-- ---- of every sample

module _ (card : Card) (top : ℕ) (x : Input) (d : Desk) where
  abbrev row : Row
  row = card.settings.limit

  abbrev pairs : Pairs
  pairs = card.settings.pairs

  -- the desk where the beacon is looked at, by the buttons' turns
  abbrev was : Desk
  was = before card top x d

  abbrev e6 : Desk
  e6 = at_limit card top x d

  abbrev e8 : Desk
  e8 = at_increase card top x d

  was_as : was ≡ hide_pressed (bit_of x.buttons hide_button) (after_increase card top x d)
  unfolding all_presses
  was_as = all_presses_lem x.buttons x.m (has_pairs card.version) row top (at_buttons card top x d)

  -- ---- the beacon

  abbrev here : Desk
  here = with_code x.beacon was

  abbrev now : Desk
  now = after card top x d

  abbrev acts : Desk
  acts = read_if (reads_at card x was) x.beacon (protects card.settings.functions) (zones card.settings.functions) (has_pairs card.version) pairs here

  now-paired : now.beside.paired ≡ acts.beside.paired
  unfolding step_of judged_of crossing_turned braked moved_of beacon_taken
  now-paired = refl

  now_single : now.beside.limit ≡ acts.beside.limit
  unfolding step_of judged_of crossing_turned braked moved_of beacon_taken
  now_single = refl

  -- no 10 or 11 is read on a card with pairs
  no_pair : (ReadOnThree card top x d → ⊥) → now.beside.paired ≡ was.beside.paired
  unfolding read_if reading_limit
  no_pair n = now-paired ∙ cases (reads_at card x was) refl
    where
      limit : reads_at card x was ≡ true → (x.beacon ≡ 10) ⊎ (x.beacon ≡ 11) → (t : Bool) → has_pairs card.version ≡ t
          → (reading_limit x.beacon t pairs here).beside.paired ≡ was.beside.paired
      limit r c true v = absurd (n (record { version = eqb-true card.version 3 v; code = c; read = r }))
      limit r c false v = single_keeps here

      coded : reads_at card x was ≡ true → (t : Bool) → is_limit x.beacon ≡ t
          → (reading_of x.beacon (protects card.settings.functions) (zones card.settings.functions) (has_pairs card.version) pairs here).beside.paired ≡ was.beside.paired
      coded r true i = let c = limit_is x.beacon i in rw (limit_acts x.beacon (protects card.settings.functions) (zones card.settings.functions) (has_pairs card.version) pairs here c) (limit r c _ refl)
      coded r false i =
          (reading_keeps was.beside.paired was.beside.limit x.beacon _ _ _ (protects card.settings.functions) (zones card.settings.functions) (has_pairs card.version) pairs here r
          (λ h. false≢true (sym i ∙ h)) (refl, refl)).0

      cases : (t : Bool) → reads_at card x was ≡ t
          → (read_if t x.beacon (protects card.settings.functions) (zones card.settings.functions) (has_pairs card.version) pairs here).beside.paired ≡ was.beside.paired
      cases true r = coded r _ refl
      cases false r = refl

  -- one is
  on_three : ReadOnThree card top x d → acts ≡ reading_paired x.beacon pairs here
  unfolding read_if reading_limit
  on_three h =
      rw (h.read, limit_acts x.beacon (protects card.settings.functions) (zones card.settings.functions) (has_pairs card.version) pairs here h.code, eq-eqb card.version 3 h.version)

  near_is : Near card top x d → is_second pairs.distance (first_of was) ≡ true
  unfolding is_second
  near_is h = rw (there_is (first_of was).kind h.there, le-leb (first_of was).distance (reach_of pairs.distance) h.near)

  is_near : is_second pairs.distance (first_of was) ≡ true → Near card top x d
  unfolding is_second
  is_near h =
      let t = and_split (is_first (first_of was).kind) (leb (first_of was).distance (reach_of pairs.distance)) h in
      record { there = is_there (first_of was).kind t.0; near = leb-true (first_of was).distance (reach_of pairs.distance) t.1 }

  abbrev speed_now : ℕ
  speed_now = speed_of_pair pairs (first_of was) x.beacon

  second : ReadOnThree card top x d → Near card top x d → acts ≡ reading_second speed_now here
  unfolding reading_paired
  second r h = on_three r ∙ rw (near_is h)

  first : IsFirst card top x d → acts ≡ reading_first x.beacon here
  unfolding reading_paired
  first h = on_three h.reading ∙ rw (not_so (is_second pairs.distance (first_of was)) (λ s. h.far (is_near s)))

  paired_by : ReadOnThree card top x d → Near card top x d → now.beside.paired ≡ record { first = no_first; limits = four_with speed_now paired_now (four_of was) }
  paired_by r h = now-paired ∙ ap (λ (e : Desk). e.beside.paired) (second r h) ∙ second_paired speed_now here

  single_by : ReadOnThree card top x d → Near card top x d → single_of now ≡ pick (drops_single (first_of was) (single_of was)) no_limit (single_of was)
  single_by r h = now_single ∙ ap (λ (e : Desk). e.beside.limit) (second r h) ∙ second_single speed_now here

  first_by : IsFirst card top x d → now.beside.paired ≡ record { first = first_read x.beacon (not (single_of was).on); limits = four_of was }
  first_by h = now-paired ∙ ap (λ (e : Desk). e.beside.paired) (first h) ∙ first-paired x.beacon here

  -- ---- setting

  set : (speed : ℕ) → IsSpeed speed → MakesPair card top x d speed → paired_at speed (four_of now) ≡ paired_now
  set speed is h =
      let same = pair_speed h.kind (first_of was) refl in
      ap (λ (p : Paired). paired_at speed p.limits) (paired_by h.reading h.near) ∙ rw same (with_at paired_now (four_of was) speed is)

  abbrev SameAt : ℕ → Type 0
  SameAt speed = paired_at speed (four_of now) ≡ paired_at speed (four_of was)

  not_set : (speed : ℕ) → IsSpeed speed → (MakesPair card top x d speed → ⊥) → paired_at speed (four_of now) ≡ paired_at speed (four_of was)
  not_set speed is n = cases (is_limit x.beacon) refl (reads_at card x was) refl (has_pairs card.version) refl
    where
      unread : (ReadOnThree card top x d → ⊥) → SameAt speed
      unread u = ap (λ (p : Paired). paired_at speed p.limits) (no_pair u)

      near : ReadOnThree card top x d → (t : Bool) → is_second pairs.distance (first_of was) ≡ t → SameAt speed
      near r true s =
          let h = is_near s in
          ap (λ (p : Paired). paired_at speed p.limits) (paired_by r h) ∙ with_other paired_now (four_of was) speed_now speed is (λ e. n (record { reading = r; near = h; kind = subst (λ (v : ℕ). PairOf pairs (first_of was).kind x.beacon v) (sym e) (pair_of pairs (first_of was) (first_of was).kind refl h.there x.beacon r.code) }))
      near r false s = ap (λ (p : Paired). paired_at speed p.limits) (first_by (record { reading = r; far = λ h. false≢true (sym s ∙ near_is h) }))

      cases : (a : Bool) → is_limit x.beacon ≡ a → (b : Bool) → reads_at card x was ≡ b → (c : Bool) → has_pairs card.version ≡ c → SameAt speed
      cases true a true b true c = near (record { version = eqb-true card.version 3 c; code = limit_is x.beacon a; read = b }) _ refl
      cases true a true b false c = unread (λ r. eqb-false card.version 3 c r.version)
      cases true a false b v c = unread (λ r. false≢true (sym b ∙ r.read))
      cases false a t b v c = unread (λ r. false≢true (sym a ∙ is_limit_lem x.beacon r.code))

  -- ---- ages, and the mode

  same_paired : same_mode d.bts x.bts ≡ true → (at_buttons card top x d).beside.paired ≡ all_older x.m d.beside.paired
  same_paired s = begun_same x.bts x.m _ card.settings.x card.settings.y d s

  older : (speed : ℕ) → same_mode d.bts x.bts ≡ true → paired_at speed (four_of (at_buttons card top x d)) ≡ paired_older (paired_at speed (four_of d))
  unfolding all_older
  older speed s = ap (λ (p : Paired). paired_at speed p.limits) (same_paired s) ∙ at_older speed (four_of d)

  ages : (speed : ℕ) → same_mode d.bts x.bts ≡ true → (paired_at speed (four_of d)).on ≡ true
      → paired_at speed (four_of (at_buttons card top x d)) ≡ record { on = true; age = aged_of (paired_at speed (four_of d)).age }
  unfolding paired_older
  ages speed s on = older speed s ∙ rw on

  absent : (speed : ℕ) → same_mode d.bts x.bts ≡ true → (paired_at speed (four_of d)).on ≡ false
      → paired_at speed (four_of (at_buttons card top x d)) ≡ paired_at speed (four_of d)
  unfolding paired_older
  absent speed s off = older speed s ∙ rw off

  parted : same_mode d.bts x.bts ≡ false → (first_of (at_buttons card top x d) ≡ no_first) × (four_of (at_buttons card top x d) ≡ none_of_four)
  unfolding mode_changed
  parted s =
      let dropped = begun_changed x.bts x.m (reminds card.settings.functions) card.settings.x card.settings.y d s in
      (ap first_of dropped, ap four_of dropped)

  first_travels : same_mode d.bts x.bts ≡ true → ((first_of d).kind ≡ Absent → ⊥)
      → first_of (at_buttons card top x d) ≡ record { kind = (first_of d).kind; distance = further_of (first_of d).distance x.m; own = (first_of d).own }
  unfolding all_older first_older
  first_travels s there = ap (λ (p : Paired). p.first) (same_paired s) ∙ rw (there_is (first_of d).kind there)

  first_absent : same_mode d.bts x.bts ≡ true → (first_of d).kind ≡ Absent → first_of (at_buttons card top x d) ≡ first_of d
  unfolding all_older first_older
  first_absent s none = ap (λ (p : Paired). p.first) (same_paired s) ∙ rw (ap is_first none)

  -- ---- button 6

  abbrev free : Bool
  free = free_for (bit_of x.buttons limit_button) limit_button e6

  freed : free ≡ true → after_limit card top x d ≡ lowest_removed true x.m row top e6
  unfolding limit_pressed
  freed f = rw (f, free_facts (bit_of x.buttons limit_button) limit_button e6 f)

  may_go : (speed : ℕ) → Goes card top x d e6 speed → goes x.m top (four_of e6) speed ≡ true
  may_go speed h = goes_as x.m top (four_of e6) speed h.0 h.1

  paired_off : (speed : ℕ) → free ≡ true → LowestPaired card top x d e6 speed
      → (paired_at speed (four_of (after_limit card top x d)) ≡ no_paired)
      × (((other : ℕ) → IsSpeed other → (other ≡ speed → ⊥) → paired_at other (four_of (after_limit card top x d)) ≡ paired_at other (four_of e6))
      × (single_of (after_limit card top x d) ≡ single_of e6))
  paired_off speed f h =
      let found = lowest_found x.m top (four_of e6) speed h.is_speed (may_go speed h.goes) (λ other is g. h.lowest other is (goes_is x.m top (four_of e6) other g)) in
      let beside = ap (λ (e : Desk). e.beside) (freed f) ∙ paired_goes_off x.m row top e6 speed found (not_zero speed h.is_speed) h.not_above_single in
      let four = ap (λ (b : Beside). b.paired.limits) beside in (
        ap (paired_at speed) four ∙ with_at no_paired (four_of e6) speed h.is_speed,
        (λ other is n. ap (paired_at other) four ∙ with_other no_paired (four_of e6) speed other is n, ap (λ (b : Beside). b.limit) beside),
      )

  single_off : free ≡ true → LowestSingle card top x d e6 → (single_of (after_limit card top x d) ≡ no_limit) × (four_of (after_limit card top x d) ≡ four_of e6)
  unfolding limit_removed
  single_off f h =
      let gone = freed f ∙ single-goes_off x.m row top e6 h.goes (λ v is g. h.below_paired v is (goes_is x.m top (four_of e6) v g)) in
      (ap single_of gone, ap four_of gone)

  none_off : free ≡ true → ((speed : ℕ) → IsSpeed speed → Goes card top x d e6 speed → ⊥) → (SingleGoes card top x d e6 → ⊥) → after_limit card top x d ≡ e6
  none_off f none n = freed f ∙ none_goes_off x.m row top e6 n (λ v is g. none v is (goes_is x.m top (four_of e6) v g))

  abbrev NoneOff : Type 0
  NoneOff = ((speed : ℕ) → IsSpeed speed → Goes card top x d e6 speed → ⊥) × (SingleGoes card top x d e6 → ⊥)

  which_goes : ((speed : ℕ) × LowestPaired card top x d e6 speed) ⊎ (LowestSingle card top x d e6 ⊎ NoneOff)
  which_goes = cases (found_goes x.m top (four_of e6)) (removable x.m row.last top (single_of e6)) refl
    where
      speed : ℕ
      speed = lowest_to_go x.m top (four_of e6)

      higher : (v w : ℕ) → v ≤ w → final_of card top x d e6 < min top (v * 100) → final_of card top x d e6 < min top (w * 100)
      higher v w low less = omega arith

      paired : Found x.m top (four_of e6) speed → (SingleGoes card top x d e6 → min top (speed * 100) ≤ final_of card top x d e6) → LowestPaired card top x d e6 speed
      paired f n = record { is_speed = f.is_speed; goes = goes_is x.m top (four_of e6) speed f.may_go; lowest = λ other is g. f.lowest other is (may_go other g); not_above_single = n }

      both : Found x.m top (four_of e6) speed → SingleGoes card top x d e6 → (t : Bool) → ltb (final_of card top x d e6) (min top (speed * 100)) ≡ t
          → ((v : ℕ) × LowestPaired card top x d e6 v) ⊎ (LowestSingle card top x d e6 ⊎ NoneOff)
      both f s true less =
          inr (inl (record { goes = s; below_paired = λ other is g. higher speed other (f.lowest other is (may_go other g)) (ltb-true (final_of card top x d e6) (min top (speed * 100)) less) }))
      both f s false less = inl (speed, paired f (λ h. ltb-false (final_of card top x d e6) (min top (speed * 100)) less))

      cases : NoneGoes x.m top (four_of e6) speed ⊎ Found x.m top (four_of e6) speed → (t : Bool) → removable x.m row.last top (single_of e6) ≡ t
          → ((v : ℕ) × LowestPaired card top x d e6 v) ⊎ (LowestSingle card top x d e6 ⊎ NoneOff)
      cases (inl z) true r = inr (inl (record { goes = single_is x.m row top e6 r; below_paired = λ other is g. absurd (z.none other is (may_go other g)) }))
      cases (inl z) false r = inr (inr (λ other is g. z.none other is (may_go other g), λ h. false≢true (sym r ∙ single_as x.m row top e6 h)))
      cases (inr f) true r = both f (single_is x.m row top e6 r) _ refl
      cases (inr f) false r = inl (speed, paired f (λ h. absurd (false≢true (sym r ∙ single_as x.m row top e6 h))))

  not_free : free ≡ false → four_of (after_limit card top x d) ≡ four_of e6
  unfolding limit_pressed lowest_removed
  not_free f = rw f (ap (λ (p : Paired). p.limits) (pressed_keeps e6.beside.paired (bit_of x.buttons limit_button) limit_button e6 refl))

  buttons_leave : (four_of e6 ≡ four_of (at_buttons card top x d))
      × ((four_of was ≡ four_of (after_limit card top x d)) × (first_of was ≡ first_of (at_buttons card top x d)))
  unfolding limit_pressed
  buttons_leave =
      let at6 = to_limit (at_buttons card top x d).beside.paired x.buttons (bit_of x.buttons crossing_button) (at_buttons card top x d) refl in
      let at = ap (λ (e : Desk). e.beside.paired) was_as ∙ from_limit (after_limit card top x d).beside.paired _ _ _ (has_pairs card.version) row top (after_limit card top x d) refl in
      let by6 = removed_first free x.m row top (pressed (bit_of x.buttons limit_button) limit_button e6) ∙ ap (λ (p : Paired). p.first) (pressed_keeps e6.beside.paired (bit_of x.buttons limit_button) limit_button e6 refl) in
      (ap (λ (p : Paired). p.limits) at6, (ap (λ (p : Paired). p.limits) at, ap (λ (p : Paired). p.first) at ∙ by6 ∙ ap (λ (p : Paired). p.first) at6))

  -- ---- the first, and its single limit

  first_read_lem : IsFirst card top x d
      → ((first_of now).distance ≡ 0) × (((first_of now).own ≡ not (single_of was).on) × (single_of now ≡ limit_set false 0 (single_of was)))
  unfolding first_read
  first_read_lem h =
      let p = first_by h in (
        ap (λ (p : Paired). p.first.distance) p,
        (ap (λ (p : Paired). p.first.own) p, now_single ∙ ap (λ (e : Desk). e.beside.limit) (first h) ∙ first_single x.beacon here),
      )

  single_read : (card.version ≡ 3 → ⊥) → (x.beacon ≡ 10) ⊎ (x.beacon ≡ 11) → reads_at card x was ≡ true → single_of now ≡ limit_set false 0 (single_of was)
  unfolding read_if reading_limit
  single_read n c r =
      now_single
      ∙ rw (r, limit_acts x.beacon (protects card.settings.functions) (zones card.settings.functions) (has_pairs card.version) pairs here c)
      (unpaired (has_pairs card.version) (ne_eqb card.version 3 n))
    where
      unpaired : (t : Bool) → t ≡ false → (reading_limit x.beacon t pairs here).beside.limit ≡ limit_set false 0 (single_of was)
      unpaired true f = absurd (false≢true (sym f))
      unpaired false f = single_sets here

  first_kind : IsFirst card top x d → ((x.beacon ≡ 10 → (first_of now).kind ≡ Ten) × (x.beacon ≡ 11 → (first_of now).kind ≡ Eleven))
  unfolding first_read
  first_kind h =
      let k = ap (λ (p : Paired). p.first.kind) (first_by h) in
      (λ e. k ∙ rw e, λ e. k ∙ rw e)

  pair_ends : ReadOnThree card top x d → Near card top x d → first_of now ≡ no_first
  pair_ends r h = ap (λ (p : Paired). p.first) (paired_by r h)

  first_stays : (ReadOnThree card top x d → ⊥) → first_of now ≡ first_of was
  first_stays n = ap (λ (p : Paired). p.first) (no_pair n)

  dropped : ReadOnThree card top x d → Near card top x d → (first_of was).own ≡ true → (single_of was).answered ≡ false → single_of now ≡ no_limit
  dropped r h own unanswered = single_by r h ∙ rw (own, unanswered)

  kept : ReadOnThree card top x d → Near card top x d → ((first_of was).own ≡ true → (single_of was).answered ≡ false → ⊥) → single_of now ≡ single_of was
  kept r h n = single_by r h ∙ rw (not_so (drops_single (first_of was) (single_of was)) drops)
    where
      drops : drops_single (first_of was) (single_of was) ≡ true → ⊥
      drops t = let u = and_split (first_of was).own (not (single_of was).answered) t in n u.0 (not-true (single_of was).answered u.1)

  -- ---- steps

  abbrev may_step_now : Bool
  may_step_now = may_step (has_pairs card.version) (row_speed row (single_of e8).age) row.last top (single_of e8)

  abbrev test : Bool
  test = bit_of x.buttons increase_button && not (may_increase e8.main) && may_step_now

  by_test : single_of (after_increase card top x d) ≡ pick test (stepped (single_of e8)) (single_of e8)
  unfolding increase_pressed
  by_test = increase_single test (bit_of x.buttons increase_button && may_increase e8.main) e8

  steps_as : Steps card top x d → test ≡ true
  unfolding may_step
  steps_as h =
      rw (
        h.press,
        h.no_use_for_stop,
        set_by card.version (single_of e8).answered h.last_set,
        h.stands,
        le-leb (row_speed row (single_of e8).age) (row.last * 100) h.at_final,
        lt-ltb (final_of card top x d e8) (min top 16000) h.below,
      )

  as_steps : test ≡ true → Steps card top x d
  unfolding may_step
  as_steps h =
      let l : Limit = single_of e8 in
      let set : Bool = not (has_pairs card.version) || l.answered in
      let final : Bool = leb (row_speed row l.age) (row.last * 100) in
      let h1 = and_split (bit_of x.buttons increase_button && not (may_increase e8.main)) may_step_now h in
      let h2 = and_split (bit_of x.buttons increase_button) (not (may_increase e8.main)) h1.0 in
      let h3 = and_split (set && l.on && final) (ltb (final_of card top x d e8) (highest top)) h1.1 in
      let h4 = and_split (set && l.on) final h3.0 in
      let h5 = and_split set l.on h4.0 in
      record {
        press = h2.0;
        no_use_for_stop = not-true (may_increase e8.main) h2.1;
        stands = h5.1;
        at_final = leb-true (row_speed row l.age) (row.last * 100) h4.1;
        below = ltb-true (final_of card top x d e8) (min top 16000) h3.1;
        last_set = λ v. rw (eq-eqb card.version 3 v) at h5.0;
      }

  steps : Steps card top x d
      → single_of (after_increase card top x d)
      ≡ record { on = true; age = (single_of e8).age; steps = (single_of e8).steps + 1; answered = (single_of e8).answered }
  steps h = by_test ∙ rw (steps_as h, h.stands, one_more row.last (single_of e8).steps top h.below)

  no_step : (Steps card top x d → ⊥) → single_of (after_increase card top x d) ≡ single_of e8
  no_step n = by_test ∙ rw (not_so test (λ t. n (as_steps t)))

  then_hide : single_of was ≡ pick (bit_of x.buttons hide_button) (hidden (single_of (after_increase card top x d))) (single_of (after_increase card top x d))
  unfolding hide_pressed
  then_hide = ap single_of was_as ∙ cases (bit_of x.buttons hide_button) (after_increase card top x d)
    where
      cases : (t : Bool) (e : Desk) → single_of (hide_pressed t e) ≡ pick t (hidden (single_of e)) (single_of e)
      cases true e = refl
      cases false e = refl

  pub pair_laws : PairLaws card top x d
  pair_laws =
      record {
        set = set;
        not_set = not_set;
        ages = ages;
        absent = absent;
        parted = parted;
        paired_off = paired_off;
        single_off = single_off;
        none_off = none_off;
        which_goes = which_goes;
        not_free = not_free;
        buttons_leave = buttons_leave;
        first_read_lem = first_read_lem;
        single_read = single_read;
        first_kind = first_kind;
        pair_ends = pair_ends;
        first_stays = first_stays;
        first_travels = first_travels;
        first_absent = first_absent;
        dropped = dropped;
        kept = kept;
        steps = steps;
        no_step = no_step;
        then_hide = then_hide;
      }
