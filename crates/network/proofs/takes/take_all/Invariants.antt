use Rattle.std.proofs.Common.{◌≡◌, ◌+◌, ◌≤◌, map, length, vec_items, vec_len, vec_capacity}
use Rattle.journal.specs.History.{Kept}
use Rattle.journal.specs.Keeping.{InStep}
use Rattle.letters.specs.Items.{left}
use Rattle.network.specs.Taking.{plain_outcome}
use Rattle.network.proofs.TakingOn.{Midway}
use Rattle.network.proofs.takes.take_all.Given as goal

abbrev pub invariant-loop-item : goal.invariant-loop-item
invariant-loop-item g l =
    ((k : Kept) → InStep g.J.Journal.keeps l.initial.keeper k → Midway (InStep g.J.Journal.keeps l.keeper) (left l.fn.letter) (left l.item-iterator) (map plain_outcome (vec_items l.outcomes)) k)
    × (g.J.Journal.room l.initial.keeper.journal ≤ g.J.Journal.room l.keeper.journal)
    × (vec_len l.outcomes + length (left l.item-iterator) ≤ vec_capacity l.outcomes)
    × (vec_capacity l.outcomes ≡ vec_capacity l.initial.outcomes)

abbrev pub decreases-loop-item : goal.decreases-loop-item
decreases-loop-item g l = length (left l.item-iterator)
