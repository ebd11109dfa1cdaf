use Rattle.network.proofs.Slipping.{serves_again}
use Rattle.network.proofs.laws.serves_again.Goals as goal

pub returns : goal.returns
returns c = serves_again
