-- What bookings hold on a night.
use Rattle.std.specs.Prelude.{◌≡◌, ℕ, ◌+◌, ◌<◌, ◌≤◌, cond, List, [], ◌∷◌, slice_index, slice_index_or}
use Rattle.bookings.specs.Nights.{first, inside}
use Rattle.bookings.specs.Plain.{PlainChoice}
use Rattle.bookings.specs.Outcomes.{PlainGrant, PlainOutcome, holds, nothing, cancelled, changed, freed, resized}
use Rattle.bookings.specs.declared.limits.TheConstants.{MAX_HUT_BEDS}

-- the beds of a choice at a place
abbrev pub share : ℕ → PlainChoice → ℕ
share k c = cond (inside (first c.stay) c.stay.nights k) c.beds 0

-- the beds that a booking holds there
abbrev pub held_at : ℕ → PlainOutcome → ℕ
held_at k (holds g) = share k g.choice
held_at k nothing = 0
held_at k (cancelled g) = 0
held_at k (changed g m) = 0
held_at k (freed p) = 0
held_at k (resized s were) = 0

-- the beds that all bookings hold there
abbrev pub held_on : ℕ → List PlainOutcome → ℕ
held_on k [] = 0
held_on k (o ∷ os) = held_at k o + held_on k os

-- each booking's beds are among those that are booked
abbrev pub Covered : List ℕ → List PlainOutcome → Type 0
Covered booked os =
    (p : ℕ) (g : PlainGrant) → slice_index_or os p nothing ≡ holds g → (k : ℕ) → k < g.choice.stay.nights
    → g.choice.beds ≤ slice_index booked (first g.choice.stay + k)

-- no night has more booked than a hut can have beds
abbrev pub Few : List ℕ → Type 0
Few booked = (k : ℕ) → slice_index booked k ≤ MAX_HUT_BEDS
