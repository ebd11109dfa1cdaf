use Rattle.network.proofs.Exchange.{letters_needed}
use Rattle.network.proofs.laws.letters_needed.Goals as goal

pub returns : goal.returns
returns c = letters_needed
