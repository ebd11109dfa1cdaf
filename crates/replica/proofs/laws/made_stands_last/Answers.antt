use Rattle.replica.proofs.Orders.{made_stands_last_lem}
use Rattle.replica.proofs.laws.made_stands_last.Goals as goal

pub returns : goal.returns
returns c = made_stands_last_lem
