use Rattle.std.proofs.Common.{rules}
use Rattle.std.proofs.Output.{has_written_append, has_written_of_eq}
use Rattle.entry_log.proofs.Texts.{behind_none, behind_more}
use Rattle.entry_log.proofs.vector.shows.VectorDisplay.fmt.Goals as goal

pub loop-stamp-init : goal.loop-stamp-init
loop-stamp-init g c = λ plain. has_written_of_eq _ _ _ _ _ (behind_none _) (search rules)

pub loop-stamp-preserved : goal.loop-stamp-preserved
loop-stamp-preserved g c = λ plain.
    has_written_of_eq _ _ _ _ _ (behind_more _ _ c.loop-stamp.stamp-index c.loop-stamp-test.true)
    (has_written_append _ _ _ _ _ _ (c.loop-stamp.invariant plain) (search rules))
