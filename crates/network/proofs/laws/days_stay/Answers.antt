use Rattle.network.proofs.Leaving.{days_stay}
use Rattle.network.proofs.laws.days_stay.Goals as goal

pub returns : goal.returns
returns c = days_stay
