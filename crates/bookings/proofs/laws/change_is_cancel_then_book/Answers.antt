use Rattle.bookings.proofs.Anew.{change_is_cancel_then_book_lem}
use Rattle.bookings.proofs.laws.change_is_cancel_then_book.Goals as goal

pub returns : goal.returns
returns c = change_is_cancel_then_book_lem
