use Rattle.network.proofs.Safety.{one_primary}
use Rattle.network.proofs.laws.one_primary.Goals as goal

pub returns : goal.returns
returns c = one_primary
