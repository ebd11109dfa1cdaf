use Rattle.network.proofs.Safety.{named_before}
use Rattle.network.proofs.laws.named_before.Goals as goal

pub returns : goal.returns
returns c = named_before
