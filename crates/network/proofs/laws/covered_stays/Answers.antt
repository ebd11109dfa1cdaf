use Rattle.network.proofs.Slipping.{covered_stays}
use Rattle.network.proofs.laws.covered_stays.Goals as goal

pub returns : goal.returns
returns c = covered_stays
