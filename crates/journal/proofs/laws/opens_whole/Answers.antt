use Rattle.journal.proofs.Opening.{tells_whole}
use Rattle.journal.proofs.laws.opens_whole.Goals as goal

pub returns : goal.returns
returns c = tells_whole
