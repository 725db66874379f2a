-- Document 01, "A ride, whole": "Recording: length (4 bytes), version 1, train type, then six bytes a sample (pulses 2, beacon,
-- buttons 2, mode)." Numbers are big-endian.
use Rattle.std.specs.Prelude.{ℕ, zero, suc, ◌+◌, ◌*◌, ◌-◌, ◌/◌, ◌≤◌, ◌≡◌, Bool, ◌&&◌, List, [], ◌∷◌, ◌++◌, leb, eqb, length}
use Rattle.leaf.specs.Bytes.{byte, word, long}
use Rattle.session.specs.declared.Sample.{Sample}

-- whole samples behind the first six bytes
abbrev pub samples_in : List ℕ → ℕ
samples_in recording = (length recording - 6) / 6

-- "n ≤ 10,000"
abbrev pub most_samples : ℕ
most_samples = 10000

-- "14 | recording not exactly as long as stated, length not 6 + 6n with n ≤ 10,000, or version not 1"
unfoldable pub good_recording : List ℕ → Bool
good_recording recording =
    eqb (long recording 0) (length recording) && eqb (6 + 6 * samples_in recording) (length recording)
    && leb (samples_in recording) most_samples && eqb (byte recording 4) 1

-- the same in plain facts, of a recording of n samples
pub record RecordingMet (recording : List ℕ) (n : ℕ) : Type 0 where
  pub stated : long recording 0 ≡ length recording
  pub whole : length recording ≡ 6 + 6 * n
  pub few : n ≤ most_samples
  pub version : byte recording 4 ≡ 1

-- the train type
abbrev pub train_of : List ℕ → ℕ
train_of recording = byte recording 5

-- ---- its samples

-- where the sample that k samples stand before begins
abbrev pub place_of : ℕ → ℕ
place_of k = 6 + 6 * k

-- "six bytes a sample (pulses 2, beacon, buttons 2, mode)": the sample that k samples stand before
abbrev pub sample_at : List ℕ → ℕ → Sample
sample_at recording k =
    record {
      pulses = word recording (place_of k);
      beacon = byte recording (place_of k + 2);
      buttons = word recording (place_of k + 3);
      mode = byte recording (place_of k + 5);
    }

-- k samples in order, the first of them the one that `place` samples stand before
unfoldable pub samples_from : List ℕ → ℕ → ℕ → List Sample
samples_from recording place zero = []
samples_from recording place (suc k) = samples_from recording place k ++ sample_at recording (place + k) ∷ []

-- the first k samples
abbrev pub first_samples : List ℕ → ℕ → List Sample
first_samples recording k = samples_from recording 0 k

-- all of them
abbrev pub samples_of : List ℕ → List Sample
samples_of recording = first_samples recording (samples_in recording)
