-- Slips of four kinds: when each is looked at, when it grows, and what is promised with it.
use Rattle.std.specs.Prelude.{◌≡◌, ℕ, ◌<◌, ◌≤◌, Bool, true, false, not, ◌||◌, cond, List, [], ◌∷◌, ◌++◌, length, get_or, None}
use mathlib.Core.List.{Memᴰ}
use Rattle.bookings.specs.Plain.{PlainKind, PlainEntry}
use Rattle.entry_log.specs.Vectors.{joined_with, vector_of}
use Rattle.journal.specs.History.{Kept, state_in}
use Rattle.replica.specs.Model.{entry_made, make_refusal, serves, slip_after}
use Rattle.network.specs.Net.{Event, Makes, Syncs, after, huts, run, step}
use Rattle.network.specs.Replicas.{entries_in, vector_in}

-- what a guest wants of a slip: to find what it had made, or what it saw; that what it makes stands behind what it saw, or behind what it had made
pub data Purpose : Type 0 where
  made : Purpose
  saw : Purpose
  behind_saw : Purpose
  behind_made : Purpose

-- a slip of the first two kinds is looked at when a guest is shown a log, one of the last two when an entry is made for it
abbrev pub asked_to_show : Purpose → Bool
asked_to_show made = true
asked_to_show saw = true
asked_to_show behind_saw = false
asked_to_show behind_made = false

-- it grows by what the guest is shown, or by what it has made
abbrev pub grows_when_shown : Purpose → Bool
grows_when_shown made = false
grows_when_shown saw = true
grows_when_shown behind_saw = true
grows_when_shown behind_made = false

abbrev pub may_show : Purpose → List ℕ → Kept → Bool
may_show p slip k = not (asked_to_show p) || serves slip (state_in k)

abbrev pub may_make : Purpose → List ℕ → Kept → Bool
may_make p slip k = asked_to_show p || serves slip (state_in k)

abbrev pub slip_shown : Purpose → List ℕ → Kept → List ℕ
slip_shown p slip k = cond (grows_when_shown p) (joined_with slip (vector_in k)) slip

abbrev pub slip_made : Purpose → List ℕ → PlainEntry → List ℕ
slip_made p slip e = cond (grows_when_shown p) slip (joined_with slip (vector_of (e ∷ [])))

-- a slip covers an entry
abbrev pub Covered : List ℕ → PlainEntry → Type 0
Covered slip k = k.mark.stamp ≤ get_or slip k.mark.hut 0

-- LAW: a replica that serves with a slip, and syncs, has all that the slip covers of what anybody knows, then and ever after, whatever comes.
abbrev pub CoveredStays : List Event → Type 0
CoveredStays es =
    (i : ℕ) (slip : List ℕ) → i < huts → serves slip (state_in ((after es).hut i)) ≡ true
    → (later : List Event) (j : ℕ) (k : PlainEntry) → Memᴰ k (entries_in ((run later (step (Syncs i) (after es))).hut j)) → Covered slip k
    → Memᴰ k (entries_in ((run later (step (Syncs i) (after es))).hut i))

-- LAW: it serves with that slip ever after: so what is made there later stands behind all that the slip covers, too.
abbrev pub ServedStays : List Event → Type 0
ServedStays es =
    (i : ℕ) (slip : List ℕ) → i < huts → serves slip (state_in ((after es).hut i)) ≡ true
    → (later : List Event) → serves slip (state_in ((run later (step (Syncs i) (after es))).hut i)) ≡ true

-- LAW: once it is synced, a replica that serves with a slip serves ever after with the slip that it answers, whatever comes: so a guest that has been shown
-- its log is served there again, and what it has made there is made for it.
abbrev pub ServesAgain : List Event → Type 0
ServesAgain es =
    (i : ℕ) (slip : List ℕ) → i < huts → length slip ≡ huts → serves slip (state_in ((after es).hut i)) ≡ true
    → (later : List Event) → serves (slip_after slip (state_in ((after es).hut i))) (state_in ((run later (step (Syncs i) (after es))).hut i)) ≡ true

-- LAW: an entry that is made where a slip is served stands, in every log that has it, behind all that the slip covers, of what anybody knows then.
abbrev pub BehindCovered : List Event → Type 0
BehindCovered es =
    (i : ℕ) (kind : PlainKind) (slip : List ℕ) → i < huts → serves slip (state_in ((after es).hut i)) ≡ true
    → make_refusal kind (state_in ((after es).hut i)) ≡ None
    → (later : List Event) (j h : ℕ) (front back : List PlainEntry)
    → entries_in ((run later (step (Syncs i) (step (Makes i kind) (after es)))).hut j) ≡ front ++ entry_made kind (state_in ((after es).hut i)) ∷ back
    → (k : PlainEntry) → Memᴰ k (entries_in ((run later (step (Syncs i) (step (Makes i kind) (after es)))).hut h)) → Covered slip k → Memᴰ k front
