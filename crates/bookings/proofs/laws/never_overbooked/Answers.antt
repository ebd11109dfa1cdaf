use Rattle.bookings.proofs.Theorems.{never_overbooked_lem}
use Rattle.bookings.proofs.laws.never_overbooked.Goals as goal

pub returns : goal.returns
returns c = never_overbooked_lem
