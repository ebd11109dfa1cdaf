use Rattle.network.proofs.Mailed.{all_stand}
use Rattle.network.proofs.laws.all_stand.Goals as goal

pub returns : goal.returns
returns c = all_stand
