use Rattle.bookings.proofs.Theorems.{booked_is_held_lem}
use Rattle.bookings.proofs.laws.booked_is_held.Goals as goal

pub returns : goal.returns
returns c = booked_is_held_lem
