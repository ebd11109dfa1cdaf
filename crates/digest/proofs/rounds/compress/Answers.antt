use Rattle.std.proofs.Common.{ap, ◌∙◌, arith}
use Rattle.digest.specs.Sha256.{sums, rounds}
use Rattle.digest.proofs.RoundByRound.{along_none, along_all}
use Rattle.digest.proofs.rounds.compress.Goals as goal

pub returns : goal.returns
returns c =
    let s = c.args.state in
    let block = c.args.block.now in
    let along = c.early_rounds-early.ensures block (along_none block s _ c.block_words-w.ensures) in
    let all = along_all block s _ _ (omega arith) along in
    c.added.ensures ∙ ap (λ x. sums x s) (c.late_rounds.ensures s all.0 ∙ ap (rounds 64 s) all.1)
