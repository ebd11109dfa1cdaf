use Rattle.network.proofs.ToldChange.{told_may_change}
use Rattle.network.proofs.laws.told_may_change.Goals as goal

pub returns : goal.returns
returns c = told_may_change
