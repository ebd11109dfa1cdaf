-- What a head says of a log.
use Rattle.std.specs.Prelude.{◌≡◌, List, length}
use Rattle.bookings.specs.Plain.{PlainEntry}
use Rattle.entry_log.specs.Logs.{top}
use Rattle.entry_log.specs.Vectors.{vector_of}
use Rattle.replica.specs.declared.head.Head.{Head}

abbrev pub HeadOf : Head → List PlainEntry → Type 0
HeadOf h es = (h.entries ≡ length es) × (h.top ≡ top es) × (h.seen.stamps ≡ vector_of es)
