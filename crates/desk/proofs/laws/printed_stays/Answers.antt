use Rattle.desk.proofs.Lawful.{printed_stays}
use Rattle.desk.proofs.laws.printed_stays.Goals as goal

pub returns : goal.returns
returns c = printed_stays
