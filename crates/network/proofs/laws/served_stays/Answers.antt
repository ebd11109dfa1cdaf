use Rattle.network.proofs.Slipping.{served_stays}
use Rattle.network.proofs.laws.served_stays.Goals as goal

pub returns : goal.returns
returns c = served_stays
