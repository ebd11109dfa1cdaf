use Rattle.bookings.proofs.Gone.{cancel_lasts_lem}
use Rattle.bookings.proofs.laws.cancel_lasts.Goals as goal

pub returns : goal.returns
returns c = cancel_lasts_lem
