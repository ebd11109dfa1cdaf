use Rattle.desk.proofs.Together.{stay_together}
use Rattle.desk.proofs.laws.stay_together.Goals as goal

pub returns : goal.returns
returns g c = stay_together g.D.Desk.keeps g.D.Desk.finds
