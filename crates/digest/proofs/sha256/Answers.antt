use Rattle.std.proofs.Common.{arith}
use Rattle.digest.specs.Sha256.{initial}
use Rattle.digest.proofs.sha256.Goals as goal

pub returns : goal.returns
unfolding initial
returns c = c.finished.ensures c.args.message.now c.absorb.ensures (omega arith)
