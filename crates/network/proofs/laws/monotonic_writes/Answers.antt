use Rattle.network.proofs.Sessions.{monotonic_writes}
use Rattle.network.proofs.laws.monotonic_writes.Goals as goal

pub returns : goal.returns
returns c = monotonic_writes
