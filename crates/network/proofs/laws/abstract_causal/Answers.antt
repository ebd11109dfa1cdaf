use Rattle.network.proofs.AbstractReached.{abstract_causal}
use Rattle.network.proofs.laws.abstract_causal.Goals as goal

pub returns : goal.returns
returns c = abstract_causal
