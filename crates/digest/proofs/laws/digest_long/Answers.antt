use Rattle.digest.proofs.Lengths.{digest_long_lem}
use Rattle.digest.proofs.laws.digest_long.Goals as goal

pub returns : goal.returns
returns c = digest_long_lem
