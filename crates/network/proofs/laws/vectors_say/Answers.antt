use Rattle.network.proofs.Safety.{vectors_say}
use Rattle.network.proofs.laws.vectors_say.Goals as goal

pub returns : goal.returns
returns c = vectors_say
