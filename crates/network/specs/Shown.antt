-- What was shown to anybody as committed: where it stands later, and what comes of it.
use Rattle.std.specs.Prelude.{◌≡◌, ℕ, ◌<◌, ◌≤◌, ◌⊎◌, List, [], ◌∷◌, ◌++◌, length, take, drop, None, Some, slice_index_or}
use mathlib.Core.List.{Memᴰ}
use Rattle.bookings.specs.Books.{book_of, place_from}
use Rattle.bookings.specs.Outcomes.{PlainGrant, PlainOutcome, holds, nothing, cancelled, changed}
use Rattle.bookings.specs.Plain.{PlainMark, PlainChoice, PlainEntry, book, cancel, change}
use Rattle.journal.specs.History.{state_in}
use Rattle.replica.specs.Model.{State, marks_of}
use Rattle.network.specs.Cases.{Gets, asked, committed, five, got, mark}
use Rattle.network.specs.Net.{Net, Event, Makes, Commits, Syncs, after, huts, run, step}
use Rattle.network.specs.Promise.{StandsAt}
use Rattle.network.specs.Replicas.{committed_in, entries_in}

-- later than when a hut synced, as it does before it shows anything
abbrev pub later_than : List Event → ℕ → List Event → Net
later_than es i later = run later (step (Syncs i) (after es))

-- what a hut shows as committed, and what another has so later
abbrev pub shown_by : List Event → ℕ → List PlainEntry
shown_by es i = committed_in ((after es).hut i)

abbrev pub committed_later : List Event → ℕ → List Event → ℕ → List PlainEntry
committed_later es i later j = committed_in ((later_than es i later).hut j)

-- LAW: what a hut showed to anybody as committed at a place stands at that place, whatever comes,
-- in every replica that has that many committed.
abbrev pub ShownStays : List Event → Type 0
ShownStays es =
    (i place : ℕ) (d : PlainEntry) → i < huts → place < length (shown_by es i)
    → (later : List Event) → StandsAt (later_than es i later) place (slice_index_or (shown_by es i) place d)

-- the entry with a mark is found at a place, and is committed
abbrev pub CommittedAt : State → PlainMark → ℕ → Type 0
CommittedAt s m place =
    (place_from 0 m (marks_of s) ≡ Some place) × (place < length s.log.committed)

-- LAW: where a hut told that the entry with a mark is committed, it is found at the same place and
-- committed, whatever comes, in every replica that has that many committed.
abbrev pub FoundStays : List Event → Type 0
FoundStays es =
    (i place : ℕ) (m : PlainMark) → i < huts → CommittedAt (state_in ((after es).hut i)) m place
    → (later : List Event) (j : ℕ) → place < length (committed_later es i later j)
    → CommittedAt (state_in ((later_than es i later).hut j)) m place

-- WHAT COMES OF IT

-- what a list of entries makes of the one at a place
abbrev pub came_at : List PlainEntry → ℕ → PlainOutcome
came_at es place = slice_index_or (book_of es).outcomes place nothing

-- an entry ends a booking that holds a choice: it cancels it, or it is a change that was granted
abbrev pub Ends : PlainEntry → PlainMark → PlainGrant → PlainOutcome → Type 0
Ends c m g o =
    ((c.kind ≡ cancel m) × (o ≡ cancelled g))
    ⊎ ((cs : List PlainChoice) × (c.kind ≡ change m cs) × (o ≡ changed g c.mark))

-- what came of the entry at a place when a list has grown to another: the same, or an entry behind
-- the first list, which names it, has ended it
abbrev pub CameOn : (was is : List PlainEntry) → ℕ → Type 0
CameOn was is place =
    (d : PlainEntry)
    → (came_at is place ≡ came_at was place)
    ⊎ ((c : PlainEntry) × (g : PlainGrant) × Memᴰ c (drop (length was) is)
    × (came_at was place ≡ holds g)
    × Ends c (slice_index_or was place d).mark g (came_at is place))

-- LAW: what came of an entry changes only by a later one that names it.
abbrev pub OutcomeStays : Type 0
OutcomeStays =
    (front back : List PlainEntry) (place : ℕ) → place < length front
    → CameOn front (front ++ back) place

-- what comes of the entry at a place of one list of committed entries and of another, which has as
-- many, more or fewer
pub record StaysCommitted (was is : List PlainEntry) (place : ℕ) : Type 0 where
  pub as_many :
      (n : ℕ) → n ≤ length was → n ≤ length is → book_of (take n is) ≡ book_of (take n was)
  pub more : length was ≤ length is → CameOn was is place
  pub fewer : length is ≤ length was → CameOn is was place

-- LAW: what the committed entries alone make of an entry that was shown as committed is the same,
-- whatever comes, in every replica that has as many; with more of them it changes only by a
-- committed one that names it; and what a replica tells of it differs from that only by a tentative
-- one that names it.
abbrev pub CommittedOutcome : List Event → Type 0
CommittedOutcome es =
    (i place : ℕ) → i < huts → place < length (shown_by es i)
    → (later : List Event) (j : ℕ) → place < length (committed_later es i later j)
    → StaysCommitted (shown_by es i) (committed_later es i later j) place
    × CameOn (committed_later es i later j) (entries_in ((later_than es i later).hut j)) place

-- a booking of hut 0 is committed there; then hut 0 makes a cancellation of it, which nobody
-- commits
abbrev pub booked : List Event
booked = Makes 0 (book 1 (five ∷ [])) ∷ Commits 0 ∷ []

abbrev pub then_cancelled : List Event
then_cancelled = booked ++ Makes 0 (cancel (mark 1 0)) ∷ []

-- LAW: so what is told of a committed entry may change though no more is committed: this is the
-- shortest such run.
pub record ToldMayChange : Type 0 where
  pub before : asked (state_in ((after booked).hut 0)) [] (Gets (mark 1 0)) ≡ committed (got 0 five)
  pub later :
      asked (state_in ((after then_cancelled).hut 0)) [] (Gets (mark 1 0))
      ≡ committed (cancelled (record { number = 0; choice = five; replaces = None }))
  pub as_many : committed_in ((after then_cancelled).hut 0) ≡ committed_in ((after booked).hut 0)
