-- Runs without end, in which letters go round, and the primary commits, again and again.
use Rattle.std.specs.Prelude.{◌≢◌, ℕ, zero, suc, ◌+◌, ◌<◌, List, [], ◌∷◌, ◌++◌}
use mathlib.Core.List.{Memᴰ}
use Rattle.bookings.specs.Plain.{PlainEntry}
use Rattle.replica.specs.Model.{capacity}
use Rattle.network.specs.Net.{Net, Event, after, huts, run}
use Rattle.network.specs.Promise.{makings}
use Rattle.network.specs.Replicas.{committed_of, entries_of}
use Rattle.network.specs.Rounds.{Rounds, SyncedCommits}

-- so many of a series, from a time on
abbrev pub segment : {A : Type 0} → (ℕ → A) → (time count : ℕ) → List A
segment s t zero = []
segment s t (suc count) = s t ∷ segment s (suc t) count

-- after every time there comes a round of letters from hut i to hut j
abbrev pub RoundsAgain : (i j : ℕ) → Net → (ℕ → Event) → Type 0
RoundsAgain i j n s = (t : ℕ) → (u : ℕ) × Rounds 1 i j (run (segment s 0 t) n) (segment s t u)

-- after every time hut c commits as the primary, and syncs
abbrev pub CommitsAgain : (c : ℕ) → Net → (ℕ → Event) → Type 0
CommitsAgain c n s = (t : ℕ) → (u : ℕ) × SyncedCommits 1 c (run (segment s 0 t) n) (segment s t u)

-- LAW: in every run without end in which letters go round between the primary and every hut, and
-- the primary commits, again and again, whatever else comes, all that any hut had synced is
-- committed for good in every hut from some time on.
abbrev pub FairRunSettles : List Event → Type 0
FairRunSettles es =
    (s : ℕ → Event) → ((t : ℕ) → makings (es ++ segment s 0 t) < capacity)
    → (c : ℕ) → c < huts → CommitsAgain c (after es) s
    → ((i : ℕ) → i < huts → i ≢ c → RoundsAgain i c (after es) s × RoundsAgain c i (after es) s)
    → (time : ℕ)
    × ((later i j : ℕ) → i < huts → j < huts → (k : PlainEntry)
    → Memᴰ k (entries_of ((after es).hut i).durable)
    → Memᴰ k (committed_of ((run (segment s 0 (time + later)) (after es)).hut j).durable))
