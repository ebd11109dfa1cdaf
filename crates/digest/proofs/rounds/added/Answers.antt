use Rattle.std.proofs.Common.{arith, rules}
use Rattle.digest.proofs.RoundByRound.{sums_is}
use Rattle.digest.proofs.rounds.added.Goals as goal

pub returns : goal.returns
returns c = sums_is _ _ _ (search (rules, c.from_fn.ensures.items.long)) (omega arith) (λ k h. let one = c.from_fn.ensures.items.at k 0 (search rules) in let called = one.1.1 in search (rules, called))
