use Rattle.network.proofs.Serving.{served_again}
use Rattle.network.proofs.laws.served_again.Goals as goal

pub returns : goal.returns
returns c = served_again
