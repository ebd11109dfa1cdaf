use Rattle.network.proofs.Outcomes.{outcome_stays}
use Rattle.network.proofs.laws.outcome_stays.Goals as goal

pub returns : goal.returns
returns c = outcome_stays
