use Rattle.network.proofs.Mailed.{mailed}
use Rattle.network.proofs.laws.mailed.Goals as goal

pub returns : goal.returns
returns c = mailed
