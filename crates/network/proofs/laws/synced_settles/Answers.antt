use Rattle.network.proofs.Settling.{synced_settles}
use Rattle.network.proofs.laws.synced_settles.Goals as goal

pub returns : goal.returns
returns c = synced_settles
