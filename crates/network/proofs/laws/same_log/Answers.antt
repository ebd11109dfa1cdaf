use Rattle.network.proofs.Same.{same_log}
use Rattle.network.proofs.laws.same_log.Goals as goal

pub returns : goal.returns
returns c = same_log
