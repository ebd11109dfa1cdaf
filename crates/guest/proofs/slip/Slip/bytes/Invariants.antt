use Rattle.std.proofs.Common.{◌≡◌, take}
use Rattle.guest.specs.Slips.{slip_bytes}
use Rattle.guest.proofs.slip.Slip.bytes.Given as goal

abbrev pub invariant-loop-stamp : goal.invariant-loop-stamp
invariant-loop-stamp l = l.bytes.items ≡ slip_bytes (take l.stamp-index l.stamp-items)
