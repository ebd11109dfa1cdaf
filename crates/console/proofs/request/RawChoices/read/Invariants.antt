use Rattle.std.proofs.Common.{◌≡◌, map, length, take}
use Rattle.bookings.specs.declared.limits.TheConstants.{MAX_CHOICES}
use Rattle.console.specs.Requests.{asked_choice}
use Rattle.console.proofs.FoursOn.{four_choice}
use Rattle.console.proofs.request.RawChoices.read.Given as goal

abbrev pub invariant-loop-place : goal.invariant-loop-place
invariant-loop-place l = (map asked_choice (take l.place l.all) ≡ map four_choice (take l.place l.fours)) × (length l.all ≡ MAX_CHOICES)
