use Rattle.bookings.proofs.Theorems.{undo_gives_back_lem}
use Rattle.bookings.proofs.laws.undo_gives_back.Goals as goal

pub returns : goal.returns
returns c = undo_gives_back_lem
