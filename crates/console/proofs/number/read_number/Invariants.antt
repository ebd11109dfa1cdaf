use Rattle.std.proofs.Common.{◌≡◌, ◌^◌, ◌<◌, drop}
use Rattle.console.specs.Digits.{digits_after}
use Rattle.console.proofs.number.read_number.Given as goal

abbrev pub invariant-loop-b : goal.invariant-loop-b
invariant-loop-b l = (digits_after l.n (drop l.b-index l.word) ≡ digits_after 0 l.word) × (l.n < 10 ^ l.b-index)
