use Rattle.std.proofs.Common.{refl}
use Rattle.entry_log.specs.Vectors.{no_stamps}
use Rattle.entry_log.proofs.vector.Vector.zero.Goals as goal

pub returns : goal.returns
unfolding no_stamps
returns c = refl
