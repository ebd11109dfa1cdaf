-- What is found of a journal after a stop.
use Rattle.std.specs.Prelude.{◌≡◌, ℕ, ◌≤◌, List, length, take}
use Rattle.journal.specs.History.{Kept, history_of}
use Rattle.journal.specs.Records.{bytes_of}

-- of some bytes, of which the first so many are synced, are found: these, and some first part of what was written behind them
abbrev pub Found : List ℕ → (synced : ℕ) → List ℕ → Type 0
Found bs synced found = (n : ℕ) × (synced ≤ n) × (found ≡ take n bs)

-- whatever may be found is that
abbrev pub OnlyFinds : (List ℕ → Type 0) → List ℕ → (synced : ℕ) → Type 0
OnlyFinds finds bs synced = (found : List ℕ) → finds found → Found bs synced found

-- and so it is of the bytes of what a replica kept
abbrev pub FoundOf : Kept → List ℕ → Type 0
FoundOf k found = Found (bytes_of (history_of k)) (length (bytes_of k.durable)) found

abbrev pub FindsOf : (List ℕ → Type 0) → Kept → Type 0
FindsOf finds k = (found : List ℕ) → finds found → FoundOf k found

-- whatever is found begins with these bytes
abbrev pub FoundFirst : (List ℕ → Type 0) → List ℕ → Type 0
FoundFirst finds bs = (found : List ℕ) → finds found → take (length bs) found ≡ bs
