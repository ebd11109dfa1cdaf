use Rattle.letters.proofs.Lawful.{cut-damaged}
use Rattle.letters.proofs.laws.cut_damaged.Goals as goal

pub returns : goal.returns
returns c = cut-damaged
