-- The book without the entry that was done last.
use Rattle.std.specs.Prelude.{ℕ, ◌-◌, List, length, take, Some, None, Option, slice_index_or, slice_set}
use Rattle.bookings.specs.Books.{PlainBook}
use Rattle.bookings.specs.Nights.{claim, release, restore}
use Rattle.bookings.specs.Outcomes.{PlainGrant, PlainOutcome, holds, nothing, cancelled, changed, freed, resized, once_held_by}

-- what is left of a book when its last entry is taken out
pub record Rest : Type 0 where
  pub beds : List ℕ
  pub booked : List ℕ
  pub outcomes : List PlainOutcome

-- a booking that was cancelled or changed holds its choice again
abbrev pub reinstated_at : ℕ → Option PlainGrant → Rest → Rest
reinstated_at p None r = r
reinstated_at p (Some g) r = record { beds = r.beds; booked = claim r.booked g.choice; outcomes = slice_set r.outcomes p (holds g) }

abbrev pub reinstated : Option ℕ → Rest → Rest
reinstated None r = r
reinstated (Some p) r = reinstated_at p (once_held_by (slice_index_or r.outcomes p nothing)) r

-- what came of an entry is undone
abbrev pub taken_back : PlainOutcome → Rest → Rest
taken_back (holds g) r = reinstated g.replaces (record { beds = r.beds; booked = release r.booked g.choice; outcomes = r.outcomes })
taken_back nothing r = r
taken_back (cancelled g) r = r
taken_back (changed g m) r = r
taken_back (freed p) r = reinstated p r
taken_back (resized s were) r = record { beds = restore r.beds s were; booked = r.booked; outcomes = r.outcomes }

abbrev pub undone : PlainBook → PlainBook
undone b =
    let r = taken_back (slice_index_or b.outcomes (length b.outcomes - 1) nothing) (record { beds = b.beds; booked = b.booked; outcomes = take (length b.outcomes - 1) b.outcomes })
    in record { beds = r.beds; booked = r.booked; marks = take (length b.marks - 1) b.marks; outcomes = r.outcomes }
