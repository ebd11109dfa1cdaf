use Rattle.std.proofs.Common.{◌∙◌, arith}
use Rattle.digest.proofs.Padding.{one_last_block, two_last_blocks}
use Rattle.digest.proofs.blocks.Tail.last_blocks.Goals as goal

pub returns-then-fits : goal.returns-then-fits
returns-then-fits c =
    rw (c.with_length.ensures, c.end_marked-block.ensures) at c.compress.ensures ∙ one_last_block _ _ _ (omega arith)

pub returns-else-fits : goal.returns-else-fits
returns-else-fits c =
    rw (c.with_length-else-fits.ensures, c.compress-else-fits.ensures, c.end_marked-block.ensures) at c.compress-else-fits-2.ensures
    ∙ two_last_blocks _ _ _ (omega arith) c.args.self.short
