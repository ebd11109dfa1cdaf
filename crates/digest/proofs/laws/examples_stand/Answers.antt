use Rattle.digest.proofs.Examples.{published}
use Rattle.digest.proofs.laws.examples_stand.Goals as goal

pub returns : goal.returns
returns c = published
