use Rattle.network.proofs.AbstractLogs.{abstract_prefix}
use Rattle.network.proofs.laws.abstract_prefix.Goals as goal

pub returns : goal.returns
returns c = abstract_prefix
