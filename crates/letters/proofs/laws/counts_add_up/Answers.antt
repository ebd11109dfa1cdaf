use Rattle.letters.proofs.Counting.{counts_add_up}
use Rattle.letters.proofs.laws.counts_add_up.Goals as goal

pub returns : goal.returns
returns c = counts_add_up
