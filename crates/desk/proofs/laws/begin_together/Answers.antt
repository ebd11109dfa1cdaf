use Rattle.desk.proofs.Together.{begin_together}
use Rattle.desk.proofs.laws.begin_together.Goals as goal

pub returns : goal.returns
returns g c = begin_together g.D.Desk.keeps g.D.Desk.finds
