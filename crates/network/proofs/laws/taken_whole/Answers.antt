use Rattle.network.proofs.Whole.{taken-whole}
use Rattle.network.proofs.laws.taken_whole.Goals as goal

pub returns : goal.returns
returns c = taken-whole
