use Rattle.digest.proofs.Padding.{end_marked_is}
use Rattle.digest.proofs.blocks.Tail.end_marked.Goals as goal

pub returns : goal.returns
returns c = end_marked_is c.args.self.rest.now c.copy_from_slice.new.self c.args.self.short c.copy_from_slice.ensures.after
