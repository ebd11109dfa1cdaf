use Rattle.bookings.proofs.Gone.{cancel_frees_lem}
use Rattle.bookings.proofs.laws.cancel_frees.Goals as goal

pub returns : goal.returns
returns c = cancel_frees_lem
