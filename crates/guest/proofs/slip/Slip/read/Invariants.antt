use Rattle.std.proofs.Common.{◌≡◌, ℕ, ◌*◌, ◌<◌, length, drop, get_or}
use Rattle.bookings.specs.declared.limits.TheConstants.{HUTS}
use Rattle.letters.specs.Format.{number_of_four}
use Rattle.guest.proofs.slip.Slip.read.Given as goal

abbrev pub invariant-loop-hut : goal.invariant-loop-hut
invariant-loop-hut l = (length l.stamps ≡ HUTS) × ((h : ℕ) → h < l.hut → get_or l.stamps h 0 ≡ number_of_four (drop (4 * h) l.bytes))
