use Rattle.letters.proofs.Lawful.{unsigned_damaged_lem}
use Rattle.letters.proofs.laws.unsigned_damaged.Goals as goal

pub returns : goal.returns
returns c = unsigned_damaged_lem
