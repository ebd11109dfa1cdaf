use Rattle.std.proofs.Common.{rules}
use Rattle.bookings.proofs.Over.{part_next, part_over}
use Rattle.bookings.proofs.nights.claim_beds.Goals as goal

pub overflow_add-night : goal.overflow_add-night
overflow_add-night c = search (rules, part_next, c.requires.fits)

pub returns : goal.returns
returns c = search (rules, part_over)
