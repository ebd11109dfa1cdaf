use Rattle.bookings.specs.Plain.{plain}
use Rattle.letters.specs.Format.{reads}
use Rattle.letters.proofs.Parts.{own_part, own_entry}
use Rattle.letters.proofs.coded.values.EntryDecoded.read.Goals as goal

pub returns-clause-part : goal.returns-clause-part
returns-clause-part c = own_part reads plain _ _ _ c.entry.result own_entry c.entry.ensures
