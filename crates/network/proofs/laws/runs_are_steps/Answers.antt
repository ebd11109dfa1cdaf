use Rattle.network.proofs.Refining.{runs_are_steps}
use Rattle.network.proofs.laws.runs_are_steps.Goals as goal

pub returns : goal.returns
returns c = runs_are_steps
