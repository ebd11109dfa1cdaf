-- The books that entries in range make.
use Rattle.std.specs.Prelude.{◌≡◌, List}
use Rattle.bookings.specs.Books.{PlainBook, book_of}
use Rattle.bookings.specs.Plain.{PlainEntry}
use Rattle.bookings.specs.Ranges.{Each, InRange}

abbrev pub Reached : PlainBook → Type 0
Reached b = ∥ ((es : List PlainEntry) × Each InRange es × (b ≡ book_of es)) ∥₁
