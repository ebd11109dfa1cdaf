use Rattle.network.proofs.Safety.{one_order}
use Rattle.network.proofs.laws.one_order.Goals as goal

pub returns : goal.returns
returns c = one_order
