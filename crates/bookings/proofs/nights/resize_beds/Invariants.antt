use Rattle.std.proofs.Common.{◌≡◌, max, get_or}
use Rattle.bookings.specs.Nights.{over}
use Rattle.bookings.proofs.nights.resize_beds.Given as goal

abbrev pub invariant-loop-n : goal.invariant-loop-n
invariant-loop-n l = l.nights ≡ over (λ k _. max l.wanted (get_or l.booked k 0)) l.initial.nights 0 l.n
