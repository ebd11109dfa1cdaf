use Rattle.letters.proofs.Sizes.{entry_small_lem}
use Rattle.letters.proofs.laws.entry_small.Goals as goal

pub returns : goal.returns
returns c = entry_small_lem
