use Rattle.journal.proofs.Finding.{opens_after_stop_lem}
use Rattle.journal.proofs.laws.opens_after_stop.Goals as goal

pub returns : goal.returns
returns c = opens_after_stop_lem
