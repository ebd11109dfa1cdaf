use Rattle.bookings.proofs.Theorems.{unknown_mark-does-nothing}
use Rattle.bookings.proofs.laws.unknown_mark_does_nothing.Goals as goal

pub returns : goal.returns
returns c = unknown_mark-does-nothing
