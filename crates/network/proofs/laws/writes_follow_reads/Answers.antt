use Rattle.network.proofs.Sessions.{writes_follow_reads}
use Rattle.network.proofs.laws.writes_follow_reads.Goals as goal

pub returns : goal.returns
returns c = writes_follow_reads
