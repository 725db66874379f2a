-- The range that is printed beside a setting is that of the card's check, neither wider nor narrower (specs/Told.antt): of every setting
-- of a card, and where the reader refuses one.
use Prim.Native.Nat.{ℕ, ◌+◌, ◌-◌, ◌/◌, ◌%◌, ◌≤◌, ◌<◌}
use native.Mathlib.Omega.{arith}
use mathlib.Core.Path.{◌≡◌, refl}
use mathlib.Core.Bool.{Bool, true, false, ◌||◌}
use mathlib.Core.List.{List}
use mathlib.Core.Logic.{◌↔◌, ◌⊎◌, inl, inr, ⊎_elim}
use lib.Dec.{eqb, lit≤}
use lib.ListN.{length}
use borrow.Author.Tests.{eqb-true, eqb-false, ne_eqb}
use Rattle.leaf.specs.Choosing.{pick}
use Rattle.leaf.specs.Bytes.{byte, word}
use Rattle.leaf.specs.Answers.{refused_at}
use Rattle.card.specs.Card.{base_kind, row_at, reminds, Same}
use Rattle.card.specs.Reading.{kept, functions_from, settings_from, settings_of, read_card}
use Rattle.card.specs.Plain.{Within, OneOfFour, Setting, vmax_setting, tick_setting, bts_setting, initial_setting, last_setting, drop_setting, functions_setting, x_setting, y_setting, pair_speed_setting, pair_distance_setting, OfCard, place, SettingMet, FirstOut, Known, HeaderMet, ReadAs, out_of_range}
use Rattle.card.proofs.Listed.{from_at}
use Rattle.card.proofs.Area.{one_or_later, card_version, speed_3, distance_3, speed_none, pairs_none}
use Rattle.card.proofs.Exactly.{read_exactly}
use Rattle.refused_card.specs.Refused.{low_end, row_high_end, tail_high_end, high_end, value_at}
use Rattle.refused_card.specs.Told.{IsBytes, Printed, LookedAt, RangeExact, RangeTold}

-- ---- every setting of a card

-- X, or Y, is looked at where bit 2 is on, and else 0
kept_when : (on : Bool) (f lo hi x : ℕ) → reminds f ≡ on → (f / 4 % 2 ≡ 1 → Within lo hi x)
    → (f / 4 % 2 ≡ 1 → Within lo hi (kept on x)) × (f / 4 % 2 ≡ 0 → kept on x ≡ 0)
kept_when true f lo hi x e m = (m, λ nought. absurd (omega (arith, eqb-true (f / 4 % 2) 1 e)))
kept_when false f lo hi x e m = (λ one. absurd (eqb-false (f / 4 % 2) 1 e one), λ nought. refl)

kept_only : (on : Bool) (f lo hi x : ℕ) → reminds f ≡ on → (f / 4 % 2 ≡ 1 → Within lo hi (kept on x)) → f / 4 % 2 ≡ 1 → Within lo hi x
kept_only true f lo hi x e m one = m one
kept_only false f lo hi x e m one = absurd (eqb-false (f / 4 % 2) 1 e one)

-- of a row: what is printed is document 01's range, and of a drop, "drop ≥ 1", besides that a byte is at most 255; from what is printed to
-- the range, and back
alike : {A B C D : Type 0} → (A → A) × (B → B) × (C × D → C)
alike = (λ m. m, λ m. m, λ m. m.0)

alike_only : {A B C D : Type 0} → (A → A) × (B → B) × (D → C → C × D)
alike_only = (λ m. m, λ m. m, λ d m. (m, d))

itself : {A : Type 0} → A ↔ A
itself = (λ m. m, λ m. m)

module _ (area : List ℕ) where
  abbrev Met : Setting → Type 0
  Met setting = SettingMet base_kind (byte area 2) (settings_of area) setting

  abbrev PrintedAt : Setting → Type 0
  PrintedAt setting = Printed area (place base_kind setting) (value_at area (place base_kind setting))

  -- a setting that is within what is printed is in range
  abbrev When : Setting → Type 0
  When setting = (LookedAt area setting → PrintedAt setting) → Met setting

  -- and one in range that is looked at is within what is printed
  abbrev Only : Setting → Type 0
  Only setting = Met setting → LookedAt area setting → PrintedAt setting

  abbrev RowWhen : ℕ → Type 0
  RowWhen row =
      (PrintedAt (initial_setting row) → Met (initial_setting row)) × (PrintedAt (last_setting row) → Met (last_setting row)) × (PrintedAt (drop_setting row) → Met (drop_setting row))

  row_when : (row : ℕ) → row < 8 → RowWhen row
  unfolding low_end high_end row_high_end value_at settings_from row_at
  row_when row of =
      from_at RowWhen 0 8 (alike, (alike, (alike, (alike, (alike, (alike, (alike, (alike, tt)))))))) row (omega arith) of

  abbrev RowOnly : ℕ → Type 0
  RowOnly row =
      (Met (initial_setting row) → PrintedAt (initial_setting row)) × (Met (last_setting row) → PrintedAt (last_setting row))
      × (byte area (place base_kind (drop_setting row)) ≤ 255 → Met (drop_setting row) → PrintedAt (drop_setting row))

  row_only : (row : ℕ) → row < 8 → RowOnly row
  unfolding low_end high_end row_high_end value_at settings_from row_at
  row_only row of =
      from_at RowOnly 0 8 (alike_only, (alike_only, (alike_only, (alike_only, (alike_only, (alike_only, (alike_only, (alike_only, tt)))))))) row (omega arith) of

  -- the functions of the area's settings
  abbrev functions : ℕ
  functions = functions_from base_kind (byte area 2) area

  functions_2 : 2 ≤ byte area 2 → functions ≡ byte area 39
  unfolding functions_from
  functions_2 later = rw (ne_eqb (byte area 2) 1 (λ one. omega arith))

  functions_1 : byte area 2 ≡ 1 → functions ≡ 0
  unfolding functions_from
  functions_1 one = rw one

  looked_on : Known (byte area 2) → functions / 4 % 2 ≡ 1 → LookedAt area x_setting
  looked_on known on =
      ⊎_elim (λ one. absurd (omega (arith, functions_1 one))) (λ later. (later, rw (functions_2 later) at on)) (one_or_later known)

  on_looked : LookedAt area x_setting → functions / 4 % 2 ≡ 1
  on_looked looked = rw (functions_2 looked.0) looked.1

  functions-when : Known (byte area 2) → When functions_setting
  unfolding low_end high_end tail_high_end value_at settings_from
  functions-when known m =
      ⊎_elim (λ one. (λ _. functions_1 one, rw (functions_1 one) (lit≤ tt)))
      (λ later. (λ one. absurd (omega arith), rw (functions_2 later) (m later).1)) (one_or_later known)

  functions-only : Only functions_setting
  unfolding low_end high_end tail_high_end value_at settings_from
  functions-only m later =
      let low : 0 ≤ byte area 39 = omega arith in
      (low, rw (functions_2 later) at m.1)

  -- of a pair's speed what is printed is 02 g's "each one of those four"
  abbrev SpeedPrinted : ℕ → Type 0
  SpeedPrinted pair = PrintedAt (pair_speed_setting pair) ↔ OneOfFour (byte area (place base_kind (pair_speed_setting pair)))

  speed_printed : (pair : ℕ) → pair < 4 → SpeedPrinted pair
  unfolding value_at
  speed_printed pair of = from_at SpeedPrinted 0 4 (itself, (itself, (itself, (itself, tt)))) pair (omega arith) of

  met_when : Known (byte area 2) → (setting : Setting) → OfCard setting → When setting
  unfolding low_end high_end tail_high_end value_at settings_from
  met_when known vmax_setting of m = m tt
  met_when known tick_setting of m = m tt
  met_when known bts_setting of m = m tt
  met_when known (initial_setting row) of m = (row_when row of).0 (m tt)
  met_when known (last_setting row) of m = (row_when row of).1 (m tt)
  met_when known (drop_setting row) of m = (row_when row of).2 (m tt)
  met_when known functions_setting of m = functions-when known m
  met_when known x_setting of m = kept_when _ functions 2 6000 (word area 40) refl (λ on. m (looked_on known on))
  met_when known y_setting of m = kept_when _ functions 1 5000 (word area 42) refl (λ on. m (looked_on known on))
  met_when known (pair_speed_setting pair) of m = (
    λ three. rw (speed_3 base_kind (byte area 2) area three pair of) ((speed_printed pair of).0 (m three)),
    λ other. speed_none base_kind (byte area 2) area other pair of,
  )
  met_when known pair_distance_setting of m =
      (λ three. rw (distance_3 base_kind (byte area 2) area three) (m three), λ other. rw (pairs_none base_kind (byte area 2) area other))

  met_only : (setting : Setting) → OfCard setting → byte area (place base_kind setting) ≤ 255 → Only setting
  unfolding low_end high_end tail_high_end value_at settings_from
  met_only vmax_setting of small m looked = m
  met_only tick_setting of small m looked = m
  met_only bts_setting of small m looked = m
  met_only (initial_setting row) of small m looked = (row_only row of).0 m
  met_only (last_setting row) of small m looked = (row_only row of).1 m
  met_only (drop_setting row) of small m looked = (row_only row of).2 small m
  met_only functions_setting of small m looked = functions-only m looked
  met_only x_setting of small m looked = kept_only _ functions 2 6000 (word area 40) refl m.0 (on_looked looked)
  met_only y_setting of small m looked = kept_only _ functions 1 5000 (word area 42) refl m.0 (on_looked looked)
  met_only (pair_speed_setting pair) of small m three =
      (speed_printed pair of).1 (rw (speed_3 base_kind (byte area 2) area three pair of) at (m.0 three))
  met_only pair_distance_setting of small m three = rw (distance_3 base_kind (byte area 2) area three) at (m.0 three)

  -- "3 vmax 80..200 km/h, .."
  pub range_exact : RangeExact area
  range_exact bytes known setting of = (met_only setting of (bytes _), met_when known setting of)

  -- is it looked at
  by_bit : Known (byte area 2) → (on : Bool) → reminds functions ≡ on → LookedAt area x_setting ⊎ (LookedAt area x_setting → ⊥)
  by_bit known true e = inl (looked_on known (eqb-true _ _ e))
  by_bit known false e = inr (λ looked. eqb-false (functions / 4 % 2) 1 e (on_looked looked))

  three_or_not : (t : Bool) → eqb (byte area 2) 3 ≡ t → (byte area 2 ≡ 3) ⊎ (byte area 2 ≡ 3 → ⊥)
  three_or_not true e = inl (eqb-true _ _ e)
  three_or_not false e = inr (eqb-false _ _ e)

  looked_or_not : Known (byte area 2) → (setting : Setting) → LookedAt area setting ⊎ (LookedAt area setting → ⊥)
  looked_or_not known vmax_setting = inl tt
  looked_or_not known tick_setting = inl tt
  looked_or_not known bts_setting = inl tt
  looked_or_not known (initial_setting row) = inl tt
  looked_or_not known (last_setting row) = inl tt
  looked_or_not known (drop_setting row) = inl tt
  looked_or_not known functions_setting = ⊎_elim (λ one. inr (λ two. omega arith)) (λ later. inl later) (one_or_later known)
  looked_or_not known x_setting = by_bit known (eqb (functions / 4 % 2) 1) refl
  looked_or_not known y_setting = by_bit known (eqb (functions / 4 % 2) 1) refl
  looked_or_not known (pair_speed_setting pair) = three_or_not (eqb (byte area 2) 3) refl
  looked_or_not known pair_distance_setting = three_or_not (eqb (byte area 2) 3) refl

  -- what is out of range is looked at
  out_looked : Known (byte area 2) → (setting : Setting) → OfCard setting → (Met setting → ⊥) → LookedAt area setting
  out_looked known setting of out =
      ⊎_elim (λ looked. looked) (λ not. absurd (out (met_when known setting of (λ looked. absurd (not looked))))) (looked_or_not known setting)

  -- "5 | setting out of range, with place of the first": what stands there is not within what is printed
  out_printed : (highest n at : ℕ) → ReadAs area highest (refused_at n at) → Printed area at (value_at area at) → ⊥
  out_printed highest n at (out_of_range header place first) =
      rw (← first.stands) (λ m. first.out (met_when (card_version area highest header) first.setting first.of_card (λ _. m)))

  pub outside : (highest n at : ℕ) → read_card area highest ≡ refused_at n at → Printed area at (value_at area at) → ⊥
  outside highest n at e = out_printed highest n at ((read_exactly area highest (refused_at n at)).0 e)

-- ---- two areas with the same bytes before a place

-- no setting begins behind the first byte of a word
apart : (setting : Setting) → OfCard setting
    → (place base_kind setting ≡ 5 → ⊥) × (place base_kind setting ≡ 41 → ⊥) × (place base_kind setting ≡ 43 → ⊥)
apart vmax_setting of = (λ e. omega arith, λ e. omega arith, λ e. omega arith)
apart tick_setting of = (λ e. omega arith, λ e. omega arith, λ e. omega arith)
apart bts_setting of = (λ e. omega arith, λ e. omega arith, λ e. omega arith)
apart (initial_setting row) of = (λ e. omega arith, λ e. omega arith, λ e. omega arith)
apart (last_setting row) of = (λ e. omega arith, λ e. omega arith, λ e. omega arith)
apart (drop_setting row) of = (λ e. omega arith, λ e. omega arith, λ e. omega arith)
apart functions_setting of = (λ e. omega arith, λ e. omega arith, λ e. omega arith)
apart x_setting of = (λ e. omega arith, λ e. omega arith, λ e. omega arith)
apart y_setting of = (λ e. omega arith, λ e. omega arith, λ e. omega arith)
apart (pair_speed_setting pair) of = (λ e. omega arith, λ e. omega arith, λ e. omega arith)
apart pair_distance_setting of = (λ e. omega arith, λ e. omega arith, λ e. omega arith)

-- so a word before a setting is before it whole
whole_before : (p at : ℕ) → p < at → (at ≡ 5 → ⊥) × (at ≡ 41 → ⊥) × (at ≡ 43 → ⊥)
    → (eqb p 4 || eqb p 40 || eqb p 42) ≡ true → p + 1 < at
whole_before p at before not e = cases (eqb p 4) refl (eqb p 40) refl (eqb p 42) refl e
  where
    behind : (k : ℕ) → p ≡ k → (at ≡ k + 1 → ⊥) → p + 1 < at
    behind k e n = omega arith

    cases : (a : Bool) → eqb p 4 ≡ a → (b : Bool) → eqb p 40 ≡ b → (c : Bool) → eqb p 42 ≡ c → (a || b || c) ≡ true → p + 1 < at
    cases true ea b eb c ec e = behind 4 (eqb-true p 4 ea) not.0
    cases false ea true eb c ec e = behind 40 (eqb-true p 40 eb) not.1
    cases false ea false eb true ec e = behind 42 (eqb-true p 42 ec) not.2
    cases false ea false eb false ec e = absurd (let z : ◌≡◌ {A = ℕ} 0 1 = cc e in omega arith)

module _ (area other : List ℕ) (at : ℕ) (same : Same area other 0 at) where
  same_word : (p : ℕ) → p + 1 < at → word area p ≡ word other p
  unfolding word
  same_word p before = rw (same p (omega arith) (omega arith), same (p + 1) (omega arith) before)

  same_value : (p : ℕ) → p < at → ((eqb p 4 || eqb p 40 || eqb p 42) ≡ true → p + 1 < at) → value_at area p ≡ value_at other p
  unfolding value_at
  same_value p before whole = cases (eqb p 4 || eqb p 40 || eqb p 42) refl
    where
      cases : (t : Bool) → (eqb p 4 || eqb p 40 || eqb p 42) ≡ t → pick t (word area p) (byte area p) ≡ pick t (word other p) (byte other p)
      cases true e = same_word p (whole e)
      cases false e = same p (omega arith) before

  -- "final 1..initial": the byte before it
  same_high : (p : ℕ) → 1 ≤ p → p ≤ at → high_end area p ≡ high_end other p
  unfolding high_end row_high_end
  same_high p some before = rw (same (p - 1) (omega arith) (omega arith))

  same_looked : (setting : Setting) → place base_kind setting ≤ at → LookedAt area setting ↔ LookedAt other setting
  same_looked vmax_setting before = (λ l. l, λ l. l)
  same_looked tick_setting before = (λ l. l, λ l. l)
  same_looked bts_setting before = (λ l. l, λ l. l)
  same_looked (initial_setting row) before = (λ l. l, λ l. l)
  same_looked (last_setting row) before = (λ l. l, λ l. l)
  same_looked (drop_setting row) before = (λ l. l, λ l. l)
  same_looked functions_setting before = rw (same 2 (omega arith) (omega arith)) (λ l. l, λ l. l)
  same_looked x_setting before = rw (same 2 (omega arith) (omega arith), same 39 (omega arith) (omega arith)) (λ l. l, λ l. l)
  same_looked y_setting before = rw (same 2 (omega arith) (omega arith), same 39 (omega arith) (omega arith)) (λ l. l, λ l. l)
  same_looked (pair_speed_setting pair) before = rw (same 2 (omega arith) (omega arith)) (λ l. l, λ l. l)
  same_looked pair_distance_setting before = rw (same 2 (omega arith) (omega arith)) (λ l. l, λ l. l)

  same_header : (highest : ℕ) → 3 ≤ at → length other ≡ length area → HeaderMet area highest → HeaderMet other highest
  same_header highest some long m =
      let version = same 2 (omega arith) (omega arith) in
      let field = same_word 0 (omega arith) in
      record {
        known = m.known;
        version = rw (← version) m.version;
        stated = rw (← version, ← field) m.stated;
        whole = rw (← field, long) m.whole;
      }

-- every place is behind the header
behind_header : (setting : Setting) → 3 ≤ place base_kind setting
behind_header setting = omega arith

module _ (area other : List ℕ) (bytes : IsBytes other) where
  -- with the first setting out of range at a place, and other bytes from there on, those before are in range
  earlier_met : Known (byte other 2) → (at : ℕ) → Same area other 0 at → FirstOut base_kind (byte area 2) (settings_of area) at
      → (setting : Setting) → OfCard setting → place base_kind setting < at → SettingMet base_kind (byte other 2) (settings_of other) setting
  earlier_met known at same first setting of before =
      met_when other known setting of (λ looked.
      let p = place base_kind setting in
      let low = behind_header setting in
      let here = same p (omega arith) before in
      let high = same_high area other at same p (omega arith) (omega arith) in
      let value = same_value area other at same p before (whole_before p at before (rw first.stands at (apart first.setting first.of_card))) in
      let small : byte area p ≤ 255 = rw here (bytes p) in
      rw (← high, ← value) (met_only area setting of small (first.earlier setting of before) ((same_looked area other at same setting (omega arith)).1 looked)))

  -- what stands at that place being out of what was printed, it is the first
  still_out : Known (byte other 2) → (at : ℕ) → Same area other 0 at → FirstOut base_kind (byte area 2) (settings_of area) at
      → (Printed area at (value_at other at) → ⊥) → FirstOut base_kind (byte other 2) (settings_of other) at
  still_out known at same first out =
      let setting = first.setting in
      let stands = first.stands in
      let low = behind_header setting in
      let looked = (same_looked area other at same setting (omega arith)).0 (out_looked area (rw (← same 2 (omega arith) (omega arith)) at known) setting first.of_card first.out) in
      let high = same_high area other at same at (omega arith) (omega arith) in
      record {
        setting = setting;
        of_card = first.of_card;
        stands = stands;
        out = λ m. out (rw (high, ← stands) (met_only other setting first.of_card (bytes _) m looked));
        earlier = earlier_met known at same first;
      }

module _ (area : List ℕ) (highest : ℕ) where
  printed_told : (n at : ℕ) → ReadAs area highest (refused_at n at) → RangeTold area highest n at
  printed_told n at (out_of_range header place first) other bytes long same =
      let low : 3 ≤ at = rw first.stands at (behind_header first.setting) in
      let there = same_header area other at same highest low long header in (
        λ e m. outside other highest n at e (rw (← same_high area other at same at (omega arith) (omega arith)) m),
        λ out. (read_exactly other highest (refused_at n at)).1
            (out_of_range there at (still_out area other bytes (card_version other highest there) at same first out)),
      )

  -- "5 | setting out of range, with place of the first"
  pub range_told : (n at : ℕ) → read_card area highest ≡ refused_at n at → RangeTold area highest n at
  range_told n at e = printed_told n at ((read_exactly area highest (refused_at n at)).0 e)
