use Rattle.network.proofs.Slipping.{behind_covered}
use Rattle.network.proofs.laws.behind_covered.Goals as goal

pub returns : goal.returns
returns c = behind_covered
