use Rattle.std.proofs.Common.{◌≡◌, map, take}
use Rattle.bookings.specs.Plain.{plain}
use Rattle.entry_log.specs.Vectors.{vector_of}
use Rattle.replica.proofs.parcel.fills.vector_of.Given as goal

abbrev pub invariant-loop-entry : goal.invariant-loop-entry
invariant-loop-entry l = l.vector.stamps ≡ vector_of (map plain (take l.entry-index l.entries))
