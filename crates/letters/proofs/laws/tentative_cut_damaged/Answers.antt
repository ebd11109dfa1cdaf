use Rattle.letters.proofs.Torn.{tentative_cut_damaged_lem}
use Rattle.letters.proofs.laws.tentative_cut_damaged.Goals as goal

pub returns : goal.returns
returns c = tentative_cut_damaged_lem
