use Rattle.network.proofs.FairRuns.{fair_run_settles}
use Rattle.network.proofs.laws.fair_run_settles.Goals as goal

pub returns : goal.returns
returns c = fair_run_settles
