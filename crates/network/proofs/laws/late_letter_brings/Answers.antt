use Rattle.network.proofs.LateRuns.{late_letter_brings}
use Rattle.network.proofs.laws.late_letter_brings.Goals as goal

pub returns : goal.returns
returns c = late_letter_brings
