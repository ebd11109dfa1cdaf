-- The number of each refusal; where several apply, the lowest wins.
use Rattle.std.specs.Prelude.{ℕ}
use Rattle.bookings.specs.declared.refusal.Refusal.{Refusal}
use Rattle.bookings.specs.declared.refusal.Refusal.TheVariants.{Damaged, OutOfRange, Known, NotNext, Gap, NotPrimary, SlipAhead, Full, Unknown}

abbrev pub number_of : Refusal → ℕ
number_of Damaged = 1
number_of OutOfRange = 2
number_of Known = 3
number_of NotNext = 4
number_of Gap = 5
number_of NotPrimary = 6
number_of SlipAhead = 7
number_of Full = 8
number_of Unknown = 9
