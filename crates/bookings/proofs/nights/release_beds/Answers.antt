use Rattle.std.proofs.Common.{rules}
use Rattle.bookings.proofs.Over.{part_next, part_over}
use Rattle.bookings.proofs.nights.release_beds.Goals as goal

pub overflow_sub-night : goal.overflow_sub-night
overflow_sub-night c = search (rules, part_next, c.requires.held)

pub returns : goal.returns
returns c = search (rules, part_over)
