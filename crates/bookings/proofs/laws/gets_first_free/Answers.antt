use Rattle.bookings.proofs.Theorems.{gets_first_free_lem}
use Rattle.bookings.proofs.laws.gets_first_free.Goals as goal

pub returns : goal.returns
returns c = gets_first_free_lem
