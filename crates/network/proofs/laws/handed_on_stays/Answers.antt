use Rattle.network.proofs.Handed.{handed_on_stays}
use Rattle.network.proofs.laws.handed_on_stays.Goals as goal

pub returns : goal.returns
returns c = handed_on_stays
