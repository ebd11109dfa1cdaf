use Rattle.replica.proofs.Orders.{parcel_is_small_lem}
use Rattle.replica.proofs.laws.parcel_is_small.Goals as goal

pub returns : goal.returns
returns c = parcel_is_small_lem
