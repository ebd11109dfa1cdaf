-- What came of an entry, as plain numbers and lists.
use Rattle.std.specs.Prelude.{ℕ, List, take, Some, None, Option}
use Rattle.bookings.specs.declared.outcome.Grant.{Grant}
use Rattle.bookings.specs.declared.outcome.Outcome.{Outcome}
use Rattle.bookings.specs.declared.outcome.Outcome.TheVariants.{Holds, Nothing, Cancelled, Changed, Freed, Resized}
use Rattle.bookings.specs.Plain.{PlainMark, PlainStay, PlainChoice, plain_mark, plain_stay, plain_choice}

-- which choice a booking has got, counted from 0; of a change, also the place of the booking that it changed
pub record PlainGrant : Type 0 where
  pub number : ℕ
  pub choice : PlainChoice
  pub replaces : Option ℕ

pub data PlainOutcome : Type 0 where
  holds : PlainGrant → PlainOutcome
  nothing : PlainOutcome
  cancelled : PlainGrant → PlainOutcome
  changed : PlainGrant → PlainMark → PlainOutcome
  freed : Option ℕ → PlainOutcome
  resized : PlainStay → List ℕ → PlainOutcome

abbrev pub plain_grant : Grant → PlainGrant
plain_grant g = record { number = g.number; choice = plain_choice g.choice; replaces = g.replaces }

abbrev pub plain_outcome : Outcome → PlainOutcome
plain_outcome (Holds g) = holds (plain_grant g)
plain_outcome Nothing = nothing
plain_outcome (Cancelled g) = cancelled (plain_grant g)
plain_outcome (Changed g m) = changed (plain_grant g) (plain_mark m)
plain_outcome (Freed p) = freed p
plain_outcome (Resized s were) = resized (plain_stay s) (take s.nights were)

-- what a booking holds, and what it held before it was cancelled or changed
abbrev pub held_by : PlainOutcome → Option PlainGrant
held_by (holds g) = Some g
held_by nothing = None
held_by (cancelled g) = None
held_by (changed g m) = None
held_by (freed p) = None
held_by (resized s were) = None

abbrev pub once_held_by : PlainOutcome → Option PlainGrant
once_held_by (holds g) = None
once_held_by nothing = None
once_held_by (cancelled g) = Some g
once_held_by (changed g m) = Some g
once_held_by (freed p) = None
once_held_by (resized s were) = None
