use Rattle.std.proofs.Common.{◌≡◌, ℕ, ◌+◌, ◌-◌, ◌<◌, ◌≤◌, length, get_or, drop}
use Rattle.bookings.specs.Books.{first_free}
use Rattle.bookings.specs.Nights.{first}
use Rattle.bookings.specs.Plain.{plain_choices, plain_stay}
use Rattle.bookings.proofs.free.first_free.Given as goal

-- the choice is free on each night so far
abbrev pub invariant-loop-beds : goal.invariant-loop-beds
invariant-loop-beds l =
    (k : ℕ) → k < length l.yielded → l.choice.beds ≤ get_or l.beds (first (plain_stay l.choice.stay) + k) 0 - get_or l.booked (first (plain_stay l.choice.stay) + k) 0

-- what is left of the choices decides the answer
abbrev pub invariant-choices : goal.invariant-choices
invariant-choices l =
    first_free l.beds l.booked l.replaces l.i (drop l.i (plain_choices l.choices))
    ≡ first_free l.beds l.booked l.replaces 0 (plain_choices l.choices)
