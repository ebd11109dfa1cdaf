use Rattle.replica.proofs.Orders.{commit_keeps_order_lem}
use Rattle.replica.proofs.laws.commit_keeps_order.Goals as goal

pub returns : goal.returns
returns c = commit_keeps_order_lem
