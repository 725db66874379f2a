-- Request a: what is said of pieces holds.
use Rattle.demands.specs.Pieces.{Pieces}
use Rattle.demands.proofs.Once.{starts, cuts, faults, refused_for_good, ended_for_good, no_more}
use Rattle.demands.proofs.Certain.{heads, parts, samples}
use Rattle.demands.proofs.Whole.{answers_as_whole, ends_as_whole, at_once, head_shows_none, inside, past, ends}
use Rattle.demands.proofs.WholeText.{prints_as_whole}
use Rattle.demands.proofs.SilentLine.{silent_bytes, versions_silent, functions_silent}
use Rattle.demands.proofs.PrintedLine.{silent_print, versions_print, functions_print}

pub pieces : Pieces
pieces =
    record {
      starts = starts;
      cuts = cuts;
      answers_as_whole = answers_as_whole;
      ends_as_whole = ends_as_whole;
      prints_as_whole = prints_as_whole;
      at_once = at_once;
      head_shows_none = head_shows_none;
      faults = faults;
      heads = heads;
      inside = inside;
      parts = parts;
      samples = λ card before six due. samples card before due six;
      refused_for_good = refused_for_good;
      past = past;
      ends = ends;
      ended_for_good = ended_for_good;
      silent_bytes = silent_bytes;
      versions_silent = versions_silent;
      functions_silent = functions_silent;
      silent_print = silent_print;
      versions_print = versions_print;
      functions_print = functions_print;
      no_more = no_more;
    }
