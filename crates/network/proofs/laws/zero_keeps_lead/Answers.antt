use Rattle.network.proofs.Fair.{zero_keeps_lead}
use Rattle.network.proofs.laws.zero_keeps_lead.Goals as goal

pub returns : goal.returns
returns c = zero_keeps_lead
