use Rattle.network.proofs.Shown.{found_stays}
use Rattle.network.proofs.laws.found_stays.Goals as goal

pub returns : goal.returns
returns c = found_stays
