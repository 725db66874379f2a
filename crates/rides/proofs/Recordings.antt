-- A recording is accepted exactly when it is as long as it states, of 6 + 6n bytes with n ≤ 10,000, and of version 1; and its samples
-- are then its bytes in order.
use Prim.Native.Nat.{ℕ, zero, suc, ◌+◌, ◌*◌, ◌≤◌}
use native.Mathlib.Omega.{arith}
use mathlib.Core.Path.{◌≡◌, refl, ◌∙◌}
use mathlib.Core.Bool.{true}
use mathlib.Core.List.{List, [], ◌∷◌, ◌++◌}
use lib.ListN.{length, take, drop}
use lib.Seq.{drop-cons, take-add, take_all}
use borrow.Author.Tests.{leb-true, le-leb, eqb-true, eq-eqb}
use Rattle.leaf.specs.Choosing.{and_split}
use Rattle.leaf.specs.Bytes.{byte, word}
use Rattle.rides.specs.Recording.{samples_in, most_samples, good_recording, RecordingMet, place_of, sample_at}

pub good_met : (recording : List ℕ) → good_recording recording ≡ true → RecordingMet recording (samples_in recording)
unfolding good_recording
good_met recording h =
    let p = and_split _ _ h in
    let q = and_split _ _ p.0 in
    let r = and_split _ _ q.0 in
    record {
      stated = eqb-true _ _ r.0;
      whole = let e : 6 + 6 * samples_in recording ≡ length recording = eqb-true _ _ r.1 in omega arith;
      few = leb-true _ _ q.1;
      version = eqb-true _ _ p.1;
    }

pub met_good : (recording : List ℕ) (n : ℕ) → RecordingMet recording n → (good_recording recording ≡ true) × (samples_in recording ≡ n)
unfolding good_recording
met_good recording n m =
    let w = m.whole in
    let e : samples_in recording ≡ n = omega arith in
    let whole : 6 + 6 * samples_in recording ≡ length recording = omega arith in
    let few : samples_in recording ≤ most_samples = omega arith in
    (rw (eq-eqb _ _ m.stated, eq-eqb _ _ whole, le-leb _ _ few, eq-eqb _ _ m.version), e)

-- ---- in order

-- the bytes of the sample that k samples stand before
abbrev pub six : List ℕ → ℕ → List ℕ
six recording k =
    byte recording (place_of k) ∷ byte recording (place_of k + 1) ∷ byte recording (place_of k + 2) ∷ byte recording (place_of k + 3)
    ∷ byte recording (place_of k + 4) ∷ byte recording (place_of k + 5) ∷ []

-- they are its fields: pulses 2, beacon, buttons 2, mode
pub six_fields : (recording : List ℕ) (k : ℕ)
    → ((sample_at recording k).pulses ≡ byte recording (place_of k) * 256 + byte recording (place_of k + 1)) × ((sample_at recording k).beacon ≡ byte recording (place_of k + 2))
    × ((sample_at recording k).buttons ≡ byte recording (place_of k + 3) * 256 + byte recording (place_of k + 4)) × ((sample_at recording k).mode ≡ byte recording (place_of k + 5))
unfolding word
six_fields recording k =
    let e : place_of k + 3 + 1 ≡ place_of k + 4 = omega arith in
    (refl, refl, rw e, refl)

-- the first six bytes, and then those of the first k samples
abbrev pub up_to : List ℕ → ℕ → List ℕ
up_to recording zero = take 6 recording
up_to recording (suc k) = up_to recording k ++ six recording k

pub next_six : (l : List ℕ) (p : ℕ) → p + 6 ≤ length l
    → take 6 (drop p l) ≡ byte l p ∷ byte l (p + 1) ∷ byte l (p + 2) ∷ byte l (p + 3) ∷ byte l (p + 4) ∷ byte l (p + 5) ∷ []
unfolding byte
next_six l p h =
    let e1 : p + 1 ≡ suc p = omega arith in
    let e2 : p + 2 ≡ suc (suc p) = omega arith in
    let e3 : p + 3 ≡ suc (suc (suc p)) = omega arith in
    let e4 : p + 4 ≡ suc (suc (suc (suc p))) = omega arith in
    let e5 : p + 5 ≡ suc (suc (suc (suc (suc p)))) = omega arith in
    rw (e1, e2, e3, e4, e5, drop-cons l p 0 (omega arith), drop-cons l (suc p) 0 (omega arith), drop-cons l (suc (suc p)) 0 (omega arith), drop-cons l (suc (suc (suc p))) 0 (omega arith), drop-cons l (suc (suc (suc (suc p)))) 0 (omega arith), drop-cons l (suc (suc (suc (suc (suc p))))) 0 (omega arith))

up_to_lem : (recording : List ℕ) (n k : ℕ) → length recording ≡ 6 + 6 * n → k ≤ n → up_to recording k ≡ take (place_of k) recording
up_to_lem recording n zero w h = refl
up_to_lem recording n (suc k) w h =
    let e : place_of (suc k) ≡ place_of k + 6 = omega arith in
    rw (up_to_lem recording n k w (omega arith), e, take-add (place_of k) 6 recording, next_six recording (place_of k) (omega arith))

-- a good recording is its first six bytes and its samples' bytes in order, and nothing else
pub in_order : (recording : List ℕ) → good_recording recording ≡ true → up_to recording (samples_in recording) ≡ recording
in_order recording h =
    let m = good_met recording h in
    let w = m.whole in
    up_to_lem recording (samples_in recording) (samples_in recording) w (omega arith) ∙ take_all (place_of (samples_in recording)) recording (omega arith)
