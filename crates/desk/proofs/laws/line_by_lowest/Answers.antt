use Rattle.desk.proofs.Lawful.{line_by_lowest}
use Rattle.desk.proofs.laws.line_by_lowest.Goals as goal

pub returns : goal.returns
returns c = line_by_lowest
