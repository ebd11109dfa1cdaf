use Rattle.network.proofs.Safety.{primary_leads}
use Rattle.network.proofs.laws.primary_leads.Goals as goal

pub returns : goal.returns
returns c = primary_leads
