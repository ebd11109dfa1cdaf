use Rattle.network.proofs.Safety.{once_each}
use Rattle.network.proofs.laws.once_each.Goals as goal

pub returns : goal.returns
returns c = once_each
