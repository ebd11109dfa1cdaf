use Rattle.std.proofs.Common.{◌+◌, arith}
use Rattle.digest.specs.Sha256.{constants}
use Rattle.digest.proofs.RoundByRound.{along_more}
use Rattle.digest.proofs.rounds.four_early.Goals as goal

pub returns : goal.returns
unfolding constants
returns c = λ block s h.
    let t = c.args.t in
    let one = along_more block s t (t + 1) (t + 16) _ _ (omega arith) (omega arith) (omega arith) c.told-w c.round-one.ensures c.store_next.ensures h in
    let two = along_more block s (t + 1) (t + 2) (t + 17) _ _ (omega arith) (omega arith) (omega arith) (omega arith) c.round-two.ensures c.store_next-2.ensures one in
    let three = along_more block s (t + 2) (t + 3) (t + 18) _ _ (omega arith) (omega arith) (omega arith) (omega arith) c.round-three.ensures c.store_next-3.ensures two in
    along_more block s (t + 3) (t + 4) (t + 19) _ _ (omega arith) (omega arith) (omega arith) (omega arith) c.round-four.ensures c.store_next-4.ensures three
