-- What the code's values mean.
use Rattle.bookings.specs.Plain.{plain}
use Rattle.journal.specs.History as history
use Rattle.journal.specs.declared.record.Record.{Record}
use Rattle.journal.specs.declared.record.Record.TheVariants.{Committed, Tentative}

abbrev pub plain_record : Record → history.PlainRecord
plain_record (Committed e) = history.Committed (plain e)
plain_record (Tentative e) = history.Tentative (plain e)
