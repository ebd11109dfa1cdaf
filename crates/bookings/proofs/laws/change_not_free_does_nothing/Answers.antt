use Rattle.bookings.proofs.Theorems.{change_not_free-does-nothing}
use Rattle.bookings.proofs.laws.change_not_free_does_nothing.Goals as goal

pub returns : goal.returns
returns c = change_not_free-does-nothing
