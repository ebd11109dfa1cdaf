use Rattle.digest.proofs.Parts.{laid_is}
use Rattle.digest.proofs.hasher.methods.laid.Goals as goal

pub returns : goal.returns
returns c = laid_is c.args.block c.copy_from_slice.new.self c.args.part.now c.args.at c.copy_from_slice.ensures.after
