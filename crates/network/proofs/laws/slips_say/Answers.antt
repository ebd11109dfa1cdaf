use Rattle.network.proofs.Safety.{slips_say}
use Rattle.network.proofs.laws.slips_say.Goals as goal

pub returns : goal.returns
returns c = slips_say
