use Rattle.std.proofs.Common.{refl}
use Rattle.replica.specs.Model.{leader}
use Rattle.replica.proofs.replica.Replica.leads.Goals as goal

pub returns : goal.returns
unfolding leader
returns c = refl
