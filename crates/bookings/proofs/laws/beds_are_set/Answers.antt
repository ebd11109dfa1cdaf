use Rattle.bookings.proofs.Theorems.{beds_are_set_lem}
use Rattle.bookings.proofs.laws.beds_are_set.Goals as goal

pub returns : goal.returns
returns c = beds_are_set_lem
