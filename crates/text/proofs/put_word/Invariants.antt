use Rattle.std.proofs.Common.{◌≡◌, drop}
use Rattle.text.specs.Typing.{typed}
use Rattle.text.specs.Words.{word_of}
use Rattle.text.proofs.put_word.Given as goal

abbrev pub invariant-loop-letter : goal.invariant-loop-letter
invariant-loop-letter l =
    typed (word_of (drop l.letter-index l.words) l.left) (l.out, l.place) ≡ typed (word_of l.words l.initial.left) (l.initial.out, l.initial.place)
