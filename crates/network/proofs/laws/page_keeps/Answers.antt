use Rattle.network.proofs.PageGives.{page_keeps}
use Rattle.network.proofs.laws.page_keeps.Goals as goal

pub returns : goal.returns
returns c = page_keeps
