use Rattle.std.proofs.Common.{◌+◌, arith}
use Rattle.digest.specs.Sha256.{constants}
use Rattle.digest.proofs.RoundByRound.{round_more}
use Rattle.digest.proofs.rounds.four_late.Goals as goal

pub returns : goal.returns
unfolding constants
returns c = λ s h.
    let t = c.args.t in
    let w = c.args.w.now in
    let one = round_more s w t (t + 1) (omega arith) h c.round-one.ensures in
    let two = round_more s w (t + 1) (t + 2) (omega arith) one c.round-two.ensures in
    let three = round_more s w (t + 2) (t + 3) (omega arith) two c.round-three.ensures in
    round_more s w (t + 3) (t + 4) (omega arith) three c.round.ensures
