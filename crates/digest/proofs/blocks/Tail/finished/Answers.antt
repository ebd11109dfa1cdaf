use Rattle.std.proofs.Common.{ap, ◌∙◌, arith}
use Rattle.std.specs.List.{flat_map}
use Rattle.digest.specs.Sha256.{bytes4}
use Rattle.digest.proofs.Padding.{cut_digest}
use Rattle.digest.proofs.blocks.Tail.finished.Goals as goal

pub returns : goal.returns
returns c = λ m cut h. c.to_bytes.ensures ∙ ap (flat_map bytes4) c.last_blocks.ensures ∙ cut_digest m _ _ _ cut (omega arith)
