use Rattle.network.proofs.Rounds.{rounds_bring}
use Rattle.network.proofs.laws.rounds_bring.Goals as goal

pub returns : goal.returns
returns c = rounds_bring
