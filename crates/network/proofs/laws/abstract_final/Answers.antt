use Rattle.network.proofs.AbstractReached.{abstract_final}
use Rattle.network.proofs.laws.abstract_final.Goals as goal

pub returns : goal.returns
returns c = abstract_final
