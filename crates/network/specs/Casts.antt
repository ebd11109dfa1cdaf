-- The huts of a rehearsal.
use Rattle.std.specs.Prelude.{◌≡◌, ℕ, ◌<◌, ◌≤◌, List, map, length, ◌≢◌, slice_index}
use Rattle.bookings.specs.declared.limits.TheConstants.{HUTS, MAX_REHEARSAL_HUTS}
use Rattle.journal.specs.Keeping.{state_by}
use Rattle.replica.specs.Model.{fresh}
use Rattle.network.specs.Stages.{Hut, hut_at}

-- one to four huts, no two the same
abbrev pub CastOk : List ℕ → Type 0
CastOk hs =
    (0 < length hs) × (length hs ≤ MAX_REHEARSAL_HUTS) × ((i : ℕ) → i < length hs → slice_index hs i < HUTS)
    × ((i j : ℕ) → i < j → j < length hs → slice_index hs i ≢ slice_index hs j)

-- none of the replicas is the hut's
abbrev pub Absent : ℕ → List Hut → Type 0
Absent hut qs = (i : ℕ) → i < length qs → hut_at qs i ≢ hut

-- the replicas of these huts, in this order, none of which has an entry
abbrev pub Opens : List ℕ → List Hut → Type 0
Opens hs qs = map (λ q. state_by q) qs ≡ map fresh hs
