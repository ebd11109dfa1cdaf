use Rattle.network.proofs.Sessions.{monotonic_reads}
use Rattle.network.proofs.laws.monotonic_reads.Goals as goal

pub returns : goal.returns
returns c = monotonic_reads
