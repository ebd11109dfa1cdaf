use Rattle.network.proofs.Safety.{stood_says}
use Rattle.network.proofs.laws.stood_says.Goals as goal

pub returns : goal.returns
returns c = stood_says
