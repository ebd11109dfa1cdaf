use Rattle.network.proofs.Lasting.{lasting_known}
use Rattle.network.proofs.laws.lasting_known.Goals as goal

pub returns : goal.returns
returns c = lasting_known
