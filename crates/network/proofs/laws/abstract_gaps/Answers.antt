use Rattle.network.proofs.AbstractReached.{abstract_gaps}
use Rattle.network.proofs.laws.abstract_gaps.Goals as goal

pub returns : goal.returns
returns c = abstract_gaps
