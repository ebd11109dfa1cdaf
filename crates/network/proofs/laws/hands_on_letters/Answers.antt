use Rattle.network.proofs.Lawful.{hands_on_letters}
use Rattle.network.proofs.laws.hands_on_letters.Goals as goal

pub returns : goal.returns
returns c = hands_on_letters
