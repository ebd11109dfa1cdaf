use Rattle.replica.proofs.Orders.{ascends-sorted}
use Rattle.replica.proofs.Taking.{log_once}
use Rattle.replica.proofs.replica.Replica.entries.Goals as goal

pub returns-clause-sorted : goal.returns-clause-sorted
returns-clause-sorted c = ascends-sorted _ c.args.self.now.log.sorted

pub returns-clause-once : goal.returns-clause-once
returns-clause-once c = log_once c.args.self.now.log
