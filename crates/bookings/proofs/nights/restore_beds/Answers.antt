use Rattle.std.proofs.Common.{rules}
use Rattle.bookings.proofs.Over.{put_others}
use Rattle.bookings.proofs.nights.restore_beds.Goals as goal

pub returns : goal.returns
returns c = search (rules, put_others)
