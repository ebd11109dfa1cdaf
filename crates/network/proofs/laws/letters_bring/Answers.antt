use Rattle.network.proofs.Whole.{letters_bring}
use Rattle.network.proofs.laws.letters_bring.Goals as goal

pub returns : goal.returns
returns c = letters_bring
