use Rattle.std.proofs.Common.{◌≡◌, ℕ, ◌<◌, ◌≤◌, map, get_or, take, vec_items, vec_len, vec_capacity}
use Rattle.bookings.specs.declared.limits.TheConstants.{HUTS, MAX_REHEARSAL_HUTS}
use Rattle.journal.specs.History.{empty}
use Rattle.journal.specs.Keeping.{InStep, InMemory, most_bytes, state_by}
use Rattle.replica.specs.Model.{fresh}
use Rattle.network.specs.Stages.{Hut}
use Rattle.network.proofs.rehearsal.Rehearsal.new.Given as goal

abbrev pub invariant-loop-hut : goal.invariant-loop-hut
invariant-loop-hut l =
    (map (λ (q : Hut). state_by q) (vec_items l.keepers) ≡ map fresh (take l.hut-index l.huts))
    × (vec_len l.keepers ≡ l.hut-index)
    × (MAX_REHEARSAL_HUTS ≤ vec_capacity l.keepers)
    × ((i : ℕ) → i < l.hut-index → get_or l.huts i 0 < HUTS)
    × ((i j : ℕ) → i < j → j < l.hut-index → get_or l.huts i 0 ≡ get_or l.huts j 0 → ⊥)
    × ((i : ℕ) (q : Hut) → i < l.hut-index → InStep InMemory (get_or (vec_items l.keepers) i q) (empty (state_by (get_or (vec_items l.keepers) i q)).hut))
    × ((i : ℕ) (q : Hut) → i < l.hut-index → most_bytes < vec_capacity (get_or (vec_items l.keepers) i q).journal.medium.held)
