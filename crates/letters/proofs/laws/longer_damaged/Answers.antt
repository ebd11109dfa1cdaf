use Rattle.letters.proofs.Lawful.{longer_damaged_lem}
use Rattle.letters.proofs.laws.longer_damaged.Goals as goal

pub returns : goal.returns
returns c = longer_damaged_lem
