use Rattle.std.proofs.Common.{◌≡◌, ◌≤◌, min, List, length, take}
use Rattle.bookings.specs.Books.{book_of}
use Rattle.bookings.specs.Plain.{PlainEntry}
use Rattle.bookings.specs.Ranges.{Each, InRange}
use Rattle.bookings.specs.Views.{book_in}
use Rattle.replica.proofs.redo.undo_to.Given as goal

-- from whatever entries the book came, it is the one of as many of the first of them as it has left
abbrev pub invariant-loop-book : goal.invariant-loop-book
invariant-loop-book l =
    ((es : List PlainEntry) → Each InRange es → book_in l.initial.book ≡ book_of es → book_in l.book ≡ book_of (take (length (book_in l.book).marks) es))
    × (min l.place (length (book_in l.initial.book).marks) ≤ length (book_in l.book).marks)
    × (length (book_in l.book).marks ≤ length (book_in l.initial.book).marks)

abbrev pub decreases-loop-book : goal.decreases-loop-book
decreases-loop-book l = length (book_in l.book).marks
