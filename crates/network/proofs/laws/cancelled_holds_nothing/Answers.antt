use Rattle.network.proofs.Safety.{cancelled-holds-nothing}
use Rattle.network.proofs.laws.cancelled_holds_nothing.Goals as goal

pub returns : goal.returns
returns c = cancelled-holds-nothing
