use Rattle.network.proofs.AbstractReached.{abstract_same}
use Rattle.network.proofs.laws.abstract_same.Goals as goal

pub returns : goal.returns
returns c = abstract_same
