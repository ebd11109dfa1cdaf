use Rattle.std.proofs.Common.{◌∙◌, arith}
use Rattle.digest.specs.Sha256.{bytes8}
use Rattle.digest.proofs.Padding.{with_length_is}
use Rattle.digest.proofs.blocks.with_length.Goals as goal

pub returns : goal.returns
unfolding bytes8
returns c = with_length_is _ _ (bytes8 c.args.bits) (omega arith) (c.copy_from_slice.ensures.after ∙ c.to_be_bytes.ensures)
