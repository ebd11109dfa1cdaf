use Rattle.desk.proofs.Lawful.{printed_counts_add_up}
use Rattle.desk.proofs.laws.printed_counts_add_up.Goals as goal

pub returns : goal.returns
returns c = printed_counts_add_up
