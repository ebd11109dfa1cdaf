use Rattle.std.proofs.Common.{length}
use Rattle.replica.specs.Views.{state_of}
use Rattle.journal.proofs.Replaying.{Replaying}
use Rattle.journal.proofs.open.replay_all.Given as goal

abbrev pub invariant-loop-record : goal.invariant-loop-record
invariant-loop-record l = Replaying (state_of l.initial.replica).hut l.bytes l.reader.rest.now l.whole (state_of l.replica)

abbrev pub decreases-loop-record : goal.decreases-loop-record
decreases-loop-record l = length l.reader.rest.now
