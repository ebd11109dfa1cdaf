use Rattle.letters.proofs.Round.{entry-cut-short}
use Rattle.letters.proofs.laws.entry_cut_short.Goals as goal

pub returns : goal.returns
returns c = entry-cut-short
