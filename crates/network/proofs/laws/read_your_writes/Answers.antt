use Rattle.network.proofs.Sessions.{read_your_writes}
use Rattle.network.proofs.laws.read_your_writes.Goals as goal

pub returns : goal.returns
returns c = read_your_writes
