use Rattle.std.proofs.Common.{rules}
use Rattle.bookings.proofs.Same.{entry_decides}
use Rattle.bookings.proofs.entry.Entry.is_same.Goals as goal

pub returns-clause-sound : goal.returns-clause-sound
returns-clause-sound c = search (rules, entry_decides)

pub returns-clause-complete : goal.returns-clause-complete
returns-clause-complete c = search (rules, entry_decides)
