use Rattle.network.proofs.Safety.{guests_keep}
use Rattle.network.proofs.laws.guests_keep.Goals as goal

pub returns : goal.returns
returns c = guests_keep
