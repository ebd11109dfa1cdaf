use Rattle.network.proofs.Safety.{known_when_written}
use Rattle.network.proofs.laws.known_when_written.Goals as goal

pub returns : goal.returns
returns c = known_when_written
