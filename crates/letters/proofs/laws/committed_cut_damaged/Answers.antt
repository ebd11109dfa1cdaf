use Rattle.letters.proofs.Torn.{committed_cut_damaged_lem}
use Rattle.letters.proofs.laws.committed_cut_damaged.Goals as goal

pub returns : goal.returns
returns c = committed_cut_damaged_lem
