use Rattle.network.proofs.Offering.{offers-what-lacks}
use Rattle.network.proofs.laws.offers_what_lacks.Goals as goal

pub returns : goal.returns
returns c = offers-what-lacks
