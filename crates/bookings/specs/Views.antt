-- What the code's values mean.
use Rattle.std.specs.Prelude.{map, vec_items}
use Rattle.bookings.specs.declared.book.Book.{Book}
use Rattle.bookings.specs.declared.outcome.Standing as code
use Rattle.bookings.specs.Books.{PlainBook, Standing}
use Rattle.bookings.specs.Outcomes.{plain_grant, plain_outcome}
use Rattle.bookings.specs.Plain.{plain_mark}

abbrev pub plain_standing : code.Standing → Standing
plain_standing s = record { place = s.place; grant = plain_grant s.grant }

abbrev pub book_in : Book → PlainBook
book_in b =
    record { beds = vec_items b.beds; booked = vec_items b.booked; marks = map plain_mark (vec_items b.marks); outcomes = map plain_outcome (vec_items b.outcomes) }
