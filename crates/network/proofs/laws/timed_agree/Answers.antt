use Rattle.network.proofs.Leaving.{timed_agree}
use Rattle.network.proofs.laws.timed_agree.Goals as goal

pub returns : goal.returns
returns c = timed_agree
