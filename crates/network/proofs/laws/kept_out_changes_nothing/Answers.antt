use Rattle.network.proofs.KeptOut.{kept_out-changes-nothing}
use Rattle.network.proofs.laws.kept_out_changes_nothing.Goals as goal

pub returns : goal.returns
returns c = kept_out-changes-nothing
