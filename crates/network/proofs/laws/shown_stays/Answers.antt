use Rattle.network.proofs.Shown.{shown_stays}
use Rattle.network.proofs.laws.shown_stays.Goals as goal

pub returns : goal.returns
returns c = shown_stays
