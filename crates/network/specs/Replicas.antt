-- What a replica has, by the records of its journal.
use Rattle.std.specs.Prelude.{ℕ, List}
use Rattle.bookings.specs.Plain.{PlainEntry}
use Rattle.journal.specs.History.{PlainRecord, Kept, log_of, state_in}
use Rattle.entry_log.specs.Logs.{all_of}
use Rattle.entry_log.specs.Vectors.{vector_of}

-- of some records
abbrev pub committed_of : List PlainRecord → List PlainEntry
committed_of rs = (log_of rs).committed

abbrev pub tentative_of : List PlainRecord → List PlainEntry
tentative_of rs = (log_of rs).tentative

abbrev pub entries_of : List PlainRecord → List PlainEntry
entries_of rs = all_of (log_of rs)

-- of a replica
abbrev pub committed_in : Kept → List PlainEntry
committed_in k = (state_in k).log.committed

abbrev pub tentative_in : Kept → List PlainEntry
tentative_in k = (state_in k).log.tentative

abbrev pub entries_in : Kept → List PlainEntry
entries_in k = all_of (state_in k).log

abbrev pub vector_in : Kept → List ℕ
vector_in k = vector_of (entries_in k)
