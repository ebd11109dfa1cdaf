-- Session guarantees: what one who goes from hut to hut finds, and where what is made for such a
-- one stands. Each is said of a guest of the model, and of every slip, whoever carries it, entry by
-- entry that it covers.
use Rattle.std.specs.Prelude.{◌≡◌, ℕ, ◌<◌, true, List, ◌∷◌, ◌++◌, None}
use mathlib.Core.List.{Memᴰ}
use Rattle.bookings.specs.Plain.{PlainKind, PlainEntry}
use Rattle.journal.specs.History.{state_in}
use Rattle.replica.specs.Model.{entry_made, make_refusal, serves}
use Rattle.network.specs.Net.{Net, Event, Makes, Syncs, MakesFor, after, huts, run, step, served}
use Rattle.network.specs.Replicas.{entries_in}
use Rattle.network.specs.Slips.{Covered}

-- a hut serves with a slip
abbrev pub Serves : Net → ℕ → List ℕ → Type 0
Serves n i slip = serves slip (state_in (n.hut i)) ≡ true

-- a hut may make an entry, and that entry
abbrev pub MayMake : Net → ℕ → PlainKind → Type 0
MayMake n i kind = (i < huts) × (make_refusal kind (state_in (n.hut i)) ≡ None)

abbrev pub made_at : Net → ℕ → PlainKind → PlainEntry
made_at n i kind = entry_made kind (state_in (n.hut i))

-- a hut syncs before it shows what it has, and when it has made an entry
abbrev pub showing : ℕ → Net → Net
showing i n = step (Syncs i) n

abbrev pub making : ℕ → PlainKind → Net → Net
making i kind n = step (Syncs i) (step (Makes i kind) n)

-- a hut knows an entry
abbrev pub Knows : Net → ℕ → PlainEntry → Type 0
Knows n i k = Memᴰ k (entries_in (n.hut i))

-- an entry stands behind another in every log that has it
abbrev pub StandsBehind : Net → PlainEntry → PlainEntry → Type 0
StandsBehind n e k =
    (j : ℕ) (front back : List PlainEntry) → entries_in (n.hut j) ≡ front ++ e ∷ back → Memᴰ k front

-- LAW: read your writes. A guest finds all that it had made, wherever it is served; and where a
-- slip covers an entry that was made, and the hut serves with the slip, that entry is known,
-- whatever came between.
abbrev pub ReadYourWrites : List Event → Type 0
ReadYourWrites es =
    ((g i : ℕ) → served ((after es).guest g) ((after es).hut i) ≡ true → (k : PlainEntry)
    → Memᴰ k ((after es).guest g).gave → Knows (after es) i k)
    × ((i : ℕ) (kind : PlainKind) → MayMake (after es) i kind
    → (later : List Event) (j : ℕ) (slip : List ℕ)
    → Covered slip (made_at (after es) i kind)
    → Serves (run later (making i kind (after es))) j slip
    → Knows (run later (making i kind (after es))) j (made_at (after es) i kind))

-- LAW: monotonic reads. A guest finds all that it was shown, wherever it is served; and where a
-- slip covers an entry that was shown, and the hut serves with the slip, that entry is known,
-- whatever came between.
abbrev pub MonotonicReads : List Event → Type 0
MonotonicReads es =
    ((g i : ℕ) → served ((after es).guest g) ((after es).hut i) ≡ true → (k : PlainEntry)
    → Memᴰ k ((after es).guest g).seen → Knows (after es) i k)
    × ((i : ℕ) → i < huts → (k : PlainEntry) → Knows (after es) i k
    → (later : List Event) (j : ℕ) (slip : List ℕ)
    → Covered slip k → Serves (run later (showing i (after es))) j slip
    → Knows (run later (showing i (after es))) j k)

-- LAW: writes follow reads. What is made for a guest stands, in every log that has it, behind all
-- that the guest was shown before; and what is made where a slip is served stands behind each entry
-- that was shown and that the slip covers.
abbrev pub WritesFollowReads : List Event → Type 0
WritesFollowReads es =
    ((g i : ℕ) (kind : PlainKind) → MayMake (after es) i kind
    → served ((after es).guest g) ((after es).hut i) ≡ true
    → (k : PlainEntry) → Memᴰ k ((after es).guest g).seen
    → (last : List Event)
    → StandsBehind (run last (step (MakesFor g i kind) (after es))) (made_at (after es) i kind) k)
    × ((i : ℕ) → i < huts → (k : PlainEntry) → Knows (after es) i k
    → (later : List Event) (j : ℕ) (slip : List ℕ) (kind : PlainKind)
    → Covered slip k → Serves (run later (showing i (after es))) j slip
    → MayMake (run later (showing i (after es))) j kind
    → (last : List Event)
    → StandsBehind (run last (making j kind (run later (showing i (after es)))))
    (made_at (run later (showing i (after es))) j kind) k)

-- LAW: monotonic writes. What is made for a guest stands, in every log that has it, behind all that
-- the guest had made before; and what is made where a slip is served stands behind each entry that
-- was made before and that the slip covers.
abbrev pub MonotonicWrites : List Event → Type 0
MonotonicWrites es =
    ((g i : ℕ) (kind : PlainKind) → MayMake (after es) i kind
    → served ((after es).guest g) ((after es).hut i) ≡ true
    → (k : PlainEntry) → Memᴰ k ((after es).guest g).gave
    → (last : List Event)
    → StandsBehind (run last (step (MakesFor g i kind) (after es))) (made_at (after es) i kind) k)
    × ((i : ℕ) (first : PlainKind) → MayMake (after es) i first
    → (later : List Event) (j : ℕ) (slip : List ℕ) (kind : PlainKind)
    → Covered slip (made_at (after es) i first)
    → Serves (run later (making i first (after es))) j slip
    → MayMake (run later (making i first (after es))) j kind
    → (last : List Event)
    → StandsBehind (run last (making j kind (run later (making i first (after es)))))
    (made_at (run later (making i first (after es))) j kind) (made_at (after es) i first))
