use Rattle.network.proofs.Agree.{can_agree}
use Rattle.network.proofs.laws.can_agree.Goals as goal

pub returns : goal.returns
returns c = can_agree
