use Rattle.network.proofs.KeptOut.{outcomes_add_up}
use Rattle.network.proofs.laws.outcomes_add_up.Goals as goal

pub returns : goal.returns
returns c = outcomes_add_up
