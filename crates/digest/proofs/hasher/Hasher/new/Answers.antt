use Rattle.std.proofs.Common.{refl}
use Rattle.digest.specs.Sha256.{initial}
use Rattle.digest.proofs.BlockByBlock.{cut_none}
use Rattle.digest.proofs.hasher.Hasher.new.Goals as goal

pub returns : goal.returns
unfolding initial
returns c = record { cut = cut_none _ _; counted = refl }
