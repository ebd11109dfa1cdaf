use Rattle.std.proofs.Common.{◌/◌, length, ap, ◌∙◌, rules}
use Rattle.std.specs.List.{fold}
use Rattle.std.proofs.lemmas.Iterator.{YieldsList-from_slice}
use Rattle.std.proofs.lemmas.Iterator.Consumers.{fold_from_yields_List}
use Rattle.digest.specs.Sha256.{compress_of}
use Rattle.digest.proofs.BlockByBlock.{hashed_folded, cut_all}
use Rattle.digest.proofs.blocks.absorb.Goals as goal

pub returns : goal.returns
returns c =
    let bytes = c.args.bytes.now in
    let folded = fold_from_yields_List _ compress_of c.args.state _ c.fold-state.ensures.ran (YieldsList-from_slice c.as_chunks.result.0.now (search rules)) (λ a x b q called. search rules) in
    cut_all c.args.state bytes _ _ (folded ∙ ap (fold compress_of c.args.state) c.as_chunks.ensures.front ∙ hashed_folded (length bytes / 64) c.args.state bytes) c.as_chunks.ensures.back
