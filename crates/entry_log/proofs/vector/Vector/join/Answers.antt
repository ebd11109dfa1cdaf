use Rattle.std.proofs.Common.{arith, rules}
use Rattle.entry_log.proofs.Covering.{joined_is}
use Rattle.entry_log.proofs.vector.Vector.join.Goals as goal

pub returns : goal.returns
returns c =
    joined_is _ _ _ (search (rules, c.from_fn-self.ensures.items.long)) (omega arith)
    (λ h in-huts. let one = c.from_fn-self.ensures.items.at h 0 (search rules) in let called = one.1.1 in search (rules, called))
