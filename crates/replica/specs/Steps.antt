-- A book that is the one that a log makes.
use Rattle.std.specs.Prelude.{◌≡◌, ℕ, List, take}
use Rattle.bookings.specs.Books.{PlainBook, book_of}
use Rattle.bookings.specs.Plain.{PlainEntry}
use Rattle.bookings.specs.Ranges.{Each, InRange}

-- in at most one way, since a ghost field has one proof at most
abbrev pub InStep : PlainBook → List PlainEntry → Type 0
InStep b es = ∥ (b ≡ book_of es) ∥₁

-- a book that some entries make, which are those of a list up to a place
abbrev pub SharesFront : ℕ → PlainBook → List PlainEntry → Type 0
SharesFront place b es = (was : List PlainEntry) × Each InRange was × (b ≡ book_of was) × (take place was ≡ take place es)
