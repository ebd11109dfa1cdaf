-- Letters that come late: a hut says what it has, another writes a letter for that, and it comes.
use Rattle.std.specs.Prelude.{◌≡◌, ℕ, ◌<◌, List, ◌++◌, length, slice_index_or}
use mathlib.Core.List.{Memᴰ}
use Rattle.bookings.specs.Plain.{PlainEntry}
use Rattle.journal.specs.History.{Kept}
use Rattle.letters.specs.Items.{PlainItem, settled, waiting}
use Rattle.replica.specs.Model.{capacity}
use Rattle.network.specs.Items.{Letter, words_for}
use Rattle.network.specs.Net.{Net, Event, Syncs, Writes, Takes, after, huts, run, step}
use Rattle.network.specs.Promise.{makings}
use Rattle.network.specs.Replicas.{committed_in, entries_in, vector_in}

-- a replica has what an item says: the entry is committed at its place, or it is known
abbrev pub HasItem : Kept → PlainItem → Type 0
HasItem k (settled place e) =
    (place < length (committed_in k))
    × ((d : PlainEntry) → slice_index_or (committed_in k) place d ≡ e)
HasItem k (waiting w) = Memᴰ w.entry (entries_in k)

-- hut j syncs and says what it has; other events come; and hut i writes a letter for that
abbrev pub said_by : Net → ℕ → Kept
said_by n j = (step (Syncs j) n).hut j

abbrev pub before_letter : Net → (between : List Event) → (j : ℕ) → Net
before_letter n between j = run between (step (Syncs j) n)

abbrev pub late_letter : Net → (between : List Event) → (i j : ℕ) → Letter
late_letter n between i j =
    words_for (length (committed_in (said_by n j))) (vector_in (said_by n j))
    ((before_letter n between j).hut i)

abbrev pub letter_written : Net → (between : List Event) → (i j : ℕ) → Net
letter_written n between i j =
    step (Writes i (length (committed_in (said_by n j))) (vector_in (said_by n j)))
    (before_letter n between j)

-- other events come again, and hut j takes it
abbrev pub letter_taken : Net → (between later : List Event) → (i j : ℕ) → Net
letter_taken n between later i j =
    step (Takes j (length (before_letter n between j).sent))
    (run later (letter_written n between i j))

-- LAW: a letter that is written for what a hut said long ago, and comes late, brings all that is in
-- it, whatever comes between: crashes of any hut, other letters, makings, commits.
abbrev pub LateLetterBrings : List Event → Type 0
LateLetterBrings es =
    (between later : List Event) → makings (es ++ (between ++ later)) < capacity → (i j : ℕ)
    → i < huts → j < huts
    → (w : PlainItem) → Memᴰ w (late_letter (after es) between i j)
    → HasItem ((letter_taken (after es) between later i j).hut j) w
