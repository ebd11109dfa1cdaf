use Rattle.network.proofs.Safety.{final}
use Rattle.network.proofs.laws.final_stays.Goals as goal

pub returns : goal.returns
returns c = final
