-- What a letter can do, whoever wrote it.
use Rattle.std.specs.Prelude.{◌≡◌, ℕ, true, List}
use Rattle.bookings.specs.Plain.{PlainMark}
use Rattle.journal.specs.History.{Kept}
use Rattle.entry_log.specs.Logs.{has}
use Rattle.entry_log.specs.Order.{Once}
use Rattle.network.specs.Promise.{Prefix}
use Rattle.network.specs.Replicas.{committed_in, entries_in}
use Rattle.network.specs.Taking.{take_bytes}

-- LAW: whatever bytes come, also forged ones, to whatever a replica has: what is committed changes only at its end, each mark that is known stays known,
-- no mark stands twice, and nothing that was synced is touched.
abbrev pub NoLetterHarms : Type 0
NoLetterHarms =
    (bs : List ℕ) (k : Kept)
    → Prefix (committed_in k) (committed_in (take_bytes bs k))
    × ((m : PlainMark) → has m (entries_in k) ≡ true → has m (entries_in (take_bytes bs k)) ≡ true)
    × (Once (entries_in k) → Once (entries_in (take_bytes bs k)))
    × ((take_bytes bs k).durable ≡ k.durable)
