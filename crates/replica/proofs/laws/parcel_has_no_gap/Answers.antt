use Rattle.replica.proofs.Orders.{parcel_has_no_gap_lem}
use Rattle.replica.proofs.laws.parcel_has_no_gap.Goals as goal

pub returns : goal.returns
returns c = parcel_has_no_gap_lem
