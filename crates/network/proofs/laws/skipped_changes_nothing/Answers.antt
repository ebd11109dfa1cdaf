use Rattle.network.proofs.KeptOut.{skipped-changes-nothing}
use Rattle.network.proofs.laws.skipped_changes_nothing.Goals as goal

pub returns : goal.returns
returns c = skipped-changes-nothing
