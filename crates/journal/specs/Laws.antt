-- What holds of journals.
use Rattle.std.specs.Prelude.{◌≡◌, ℕ, ◌≤◌, List, length, take}
use Rattle.journal.specs.Finding.{FoundOf}
use Rattle.journal.specs.History.{PlainRecord, Kept, history_of, crashed}
use Rattle.journal.specs.Records.{bytes_of, history_in, Stands}

-- opening the whole bytes of a history that can stand gives that very history
abbrev pub OpensWhole : Type 0
OpensWhole = (hut : ℕ) (rs : List PlainRecord) → Stands hut rs → history_in hut (bytes_of rs) ≡ rs

-- whatever first part of its bytes a crash leaves, at least what is durable: opening gives the history after some record at or after the last sync
abbrev pub OpensAfterCrash : Type 0
OpensAfterCrash =
    (k : Kept) (n : ℕ) → Stands k.hut (history_of k) → length (bytes_of k.durable) ≤ n
    → (lost : ℕ) × (history_in k.hut (take n (bytes_of (history_of k))) ≡ history_of (crashed lost k))

-- so it is with whatever is found after a stop
abbrev pub OpensAfterStop : Type 0
OpensAfterStop =
    (k : Kept) (found : List ℕ) → Stands k.hut (history_of k) → FoundOf k found → (lost : ℕ) × (history_in k.hut found ≡ history_of (crashed lost k))

-- two histories that can stand and have the same bytes are one
abbrev pub BytesTellHistory : Type 0
BytesTellHistory = (hut : ℕ) (rs qs : List PlainRecord) → Stands hut rs → Stands hut qs → bytes_of rs ≡ bytes_of qs → rs ≡ qs
