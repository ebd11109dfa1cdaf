-- Letters that go round while anything else goes on: makings, crashes, other letters, guests.
use Rattle.std.specs.Prelude.{◌≡◌, ◌≢◌, ℕ, zero, suc, ◌*◌, ◌<◌, ◌≤◌, true, List, [], ◌∷◌, ◌++◌, length}
use mathlib.Core.List.{Memᴰ}
use Rattle.bookings.specs.Plain.{PlainEntry}
use Rattle.entry_log.specs.declared.waiting.TheConstants.{MAX_LETTER_ENTRIES}
use Rattle.journal.specs.History.{state_in}
use Rattle.replica.specs.Model.{capacity, is_primary}
use Rattle.network.specs.Late.{before_letter, said_by}
use Rattle.network.specs.Net.{Net, Event, Commits, Syncs, Writes, Takes, after, huts, run}
use Rattle.network.specs.Promise.{makings}
use Rattle.network.specs.Replicas.{committed_in, committed_of, entries_of, vector_in}

-- one round: hut j syncs and says what it has; hut i writes a letter for that; hut j takes it, and
-- syncs. Other events come between.
abbrev pub round : Net → (between later : List Event) → (i j : ℕ) → List Event
round n between later i j =
    Syncs j
    ∷ (between
    ++ (Writes i (length (committed_in (said_by n j))) (vector_in (said_by n j))
    ∷ (later ++ (Takes j (length (before_letter n between j).sent) ∷ Syncs j ∷ []))))

-- among the events of a run from a net there are so many rounds from hut i to hut j, one after
-- another
abbrev pub Rounds : (count i j : ℕ) → Net → List Event → Type 0
Rounds zero i j n es = Unit
Rounds (suc count) i j n es =
    (before between later rest : List Event)
    × (es ≡ before ++ (round (run before n) between later i j ++ rest))
    × Rounds count i j (run (round (run before n) between later i j) (run before n)) rest

-- among the events of a run from a net a hut commits so many times, each time as the primary, and
-- syncs
abbrev pub SyncedCommits : (count c : ℕ) → Net → List Event → Type 0
SyncedCommits zero c n es = Unit
SyncedCommits (suc count) c n es =
    (before rest : List Event)
    × (es ≡ before ++ (Commits c ∷ Syncs c ∷ rest))
    × (is_primary (state_in ((run before n).hut c)) ≡ true)
    × SyncedCommits count c (run (Commits c ∷ Syncs c ∷ []) (run before n)) rest

-- LAW: enough rounds bring a hut all that another had synced when they began, whatever else comes.
abbrev pub RoundsBring : List Event → Type 0
RoundsBring es =
    (later : List Event) → makings (es ++ later) < capacity → (count : ℕ)
    → 2 * makings (es ++ later) < count * MAX_LETTER_ENTRIES
    → (i j : ℕ) → i < huts → j < huts → Rounds count i j (after es) later
    → (length (committed_of ((after es).hut i).durable)
    ≤ length (committed_of ((run later (after es)).hut j).durable))
    × ((k : PlainEntry) → Memᴰ k (entries_of ((after es).hut i).durable)
    → Memᴰ k (entries_of ((run later (after es)).hut j).durable))

-- LAW: what a hut had synced is committed for good in another after enough rounds to the primary,
-- as many commits there as entries were ever made, and enough rounds from there, whatever else
-- comes: makings and crashes of any hut, too.
abbrev pub SyncedSettles : List Event → Type 0
SyncedSettles es =
    (first second third : List Event) → makings (es ++ (first ++ (second ++ third))) < capacity
    → (count : ℕ) → 2 * makings (es ++ (first ++ (second ++ third))) < count * MAX_LETTER_ENTRIES
    → (i c j : ℕ) → i < huts → c < huts → j < huts
    → (i ≢ c → Rounds count i c (after es) first)
    → (commits : ℕ) → makings (es ++ (first ++ (second ++ third))) ≤ commits
    → SyncedCommits commits c (run first (after es)) second
    → (c ≢ j → Rounds count c j (run second (run first (after es))) third)
    → (k : PlainEntry) → Memᴰ k (entries_of ((after es).hut i).durable)
    → Memᴰ k (committed_of ((run third (run second (run first (after es)))).hut j).durable)
