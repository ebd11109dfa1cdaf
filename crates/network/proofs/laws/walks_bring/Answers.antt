use Rattle.network.proofs.WalksBring.{walks_bring}
use Rattle.network.proofs.laws.walks_bring.Goals as goal

pub returns : goal.returns
returns c = walks_bring
