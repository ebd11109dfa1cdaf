use Rattle.std.proofs.Common.{◌≡◌, ◌+◌}
use Rattle.bookings.specs.Nights.{over}
use Rattle.bookings.proofs.nights.claim_beds.Given as goal

abbrev pub invariant-loop-night : goal.invariant-loop-night
invariant-loop-night l = l.nights ≡ over (λ _ x. x + l.beds) l.initial.nights 0 l.night-index
