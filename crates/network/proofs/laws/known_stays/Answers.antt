use Rattle.network.proofs.Safety.{known_stays}
use Rattle.network.proofs.laws.known_stays.Goals as goal

pub returns : goal.returns
returns c = known_stays
