use Rattle.network.proofs.PageGives.{page_gives}
use Rattle.network.proofs.laws.page_gives.Goals as goal

pub returns : goal.returns
returns c = page_gives
