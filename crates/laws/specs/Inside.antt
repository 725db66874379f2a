-- Document 01, "The sample": "every session we make is inside."
use Rattle.std.specs.Prelude.{ℕ, ◌≡◌, true, List}
use Rattle.leaf.specs.Answers.{given}
use Rattle.card.specs.declared.Card.{Card}
use Rattle.session.specs.declared.Sample.{Sample}
use Rattle.session.specs.declared.Session.{Session}
use Rattle.session.specs.Session.{open_session, inside_of, refused_by, sample_of}
use Rattle.session.specs.Runs.{after}

pub record InsideLaws : Type 0 where
  -- every session that opening gives is inside
  pub opened_inside : (card : Card) (train : ℕ) (s : Session) → open_session card train ≡ given s → inside_of s ≡ true
  -- every session that a sample hands back is inside, where the one handed in is; a refused sample hands that one back
  pub sample_inside : (s : Session) (x : Sample) → inside_of s ≡ true → inside_of (sample_of s x).session ≡ true
  pub after_inside : (s : Session) (xs : List Sample) → inside_of s ≡ true → inside_of (after s xs) ≡ true
  -- "every session we make is inside": from opening on, after any samples
  pub always_inside :
      (card : Card) (train : ℕ) (s : Session) (xs : List Sample) → open_session card train ≡ given s → inside_of (after s xs) ≡ true
  -- so no session that we make is refused with 8
  pub never_8 :
      (card : Card) (train : ℕ) (s : Session) (xs : List Sample) (x : Sample)
      → open_session card train ≡ given s → refused_by (after s xs) x ≡ 8 → ⊥
