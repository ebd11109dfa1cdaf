use Rattle.std.proofs.Common.{◌≡◌, ◌-◌, ◌++◌, map, length, take, drop, vec_items, vec_capacity}
use Rattle.bookings.specs.Plain.{plain}
use Rattle.entry_log.specs.Vectors.{vector_of}
use Rattle.replica.specs.Parcels.{missing}
use Rattle.entry_log.specs.Waits.{plain_waiting}
use Rattle.replica.proofs.parcel.fills.gather_tentative.Given as goal

-- what is there and what is left give the answer
abbrev pub invariant-loop-entry : goal.invariant-loop-entry
invariant-loop-entry l =
    (map plain_waiting (vec_items l.out) ++ take (l.room - length (map plain_waiting (vec_items l.out))) (missing l.has.stamps (map plain l.before ++ take l.entry-index (map plain l.entries)) (drop l.entry-index (map plain l.entries)))
    ≡ take l.room (missing l.has.stamps (map plain l.before) (map plain l.entries)))
    × (l.stood.stamps ≡ vector_of (map plain l.before ++ take l.entry-index (map plain l.entries)))
    × (vec_capacity l.out ≡ vec_capacity l.initial.out)
