use Rattle.network.proofs.Refining.{refines}
use Rattle.network.proofs.laws.refines.Goals as goal

pub returns : goal.returns
returns c = refines
