use Rattle.letters.proofs.Round.{entry_out_of_range_lem}
use Rattle.letters.proofs.laws.entry_out_of_range.Goals as goal

pub returns : goal.returns
returns c = entry_out_of_range_lem
