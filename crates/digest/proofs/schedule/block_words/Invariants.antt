use Rattle.std.proofs.Common.{◌≡◌, ◌-◌, ◌++◌, replicate}
use Rattle.digest.specs.Sha256.{words}
use Rattle.digest.proofs.schedule.block_words.Given as goal

abbrev pub invariant-loop-t : goal.invariant-loop-t
invariant-loop-t l = l.w ≡ words l.t l.block ++ replicate (64 - l.t) 0
