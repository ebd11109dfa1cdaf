use Rattle.letters.proofs.Round.{entry-prefix-free}
use Rattle.letters.proofs.laws.entry_prefix_free.Goals as goal

pub returns : goal.returns
returns c = entry-prefix-free
