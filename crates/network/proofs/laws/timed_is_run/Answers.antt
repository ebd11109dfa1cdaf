use Rattle.network.proofs.Leaving.{timed_is_run}
use Rattle.network.proofs.laws.timed_is_run.Goals as goal

pub returns : goal.returns
returns c = timed_is_run
