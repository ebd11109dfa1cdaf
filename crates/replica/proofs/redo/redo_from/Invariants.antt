use Rattle.std.proofs.Common.{◌≡◌, ◌+◌, map, take}
use Rattle.bookings.specs.Books.{book_of}
use Rattle.bookings.specs.Plain.{plain}
use Rattle.bookings.specs.Views.{book_in}
use Rattle.replica.proofs.redo.redo_from.Given as goal

abbrev pub invariant-loop-entry : goal.invariant-loop-entry
invariant-loop-entry l = book_in l.book ≡ book_of (take (l.place + l.entry-index) (map plain l.log))
