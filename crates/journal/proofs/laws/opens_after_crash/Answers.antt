use Rattle.journal.proofs.Opening.{opens_after_crash_lem}
use Rattle.journal.proofs.laws.opens_after_crash.Goals as goal

pub returns : goal.returns
returns c = opens_after_crash_lem
