use Rattle.std.proofs.Common.{rules}
use Rattle.bookings.specs.Books.{row}
use Rattle.bookings.proofs.book.steps.row_of.Goals as goal

pub returns : goal.returns
unfolding row
returns c = search rules
