use Rattle.network.proofs.Safety.{behind_known}
use Rattle.network.proofs.laws.behind_known.Goals as goal

pub returns : goal.returns
returns c = behind_known
