use Rattle.network.proofs.Safety.{no_gaps}
use Rattle.network.proofs.laws.no_gaps.Goals as goal

pub returns : goal.returns
returns c = no_gaps
