use Rattle.network.proofs.Fair.{fair_agree}
use Rattle.network.proofs.laws.fair_agree.Goals as goal

pub returns : goal.returns
returns c = fair_agree
