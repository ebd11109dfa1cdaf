use Rattle.network.proofs.Shown.{committed_outcome}
use Rattle.network.proofs.laws.committed_outcome.Goals as goal

pub returns : goal.returns
returns c = committed_outcome
