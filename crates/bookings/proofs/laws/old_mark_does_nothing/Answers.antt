use Rattle.bookings.proofs.Theorems.{old_mark-does-nothing}
use Rattle.bookings.proofs.laws.old_mark_does_nothing.Goals as goal

pub returns : goal.returns
returns c = old_mark-does-nothing
