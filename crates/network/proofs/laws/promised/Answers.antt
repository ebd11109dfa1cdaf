use Rattle.network.proofs.Promises.{promised}
use Rattle.network.proofs.laws.promised.Goals as goal

pub returns : goal.returns
returns c = promised
