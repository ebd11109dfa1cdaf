use Rattle.std.proofs.Common.{◌≡◌, ◌-◌, ◌≤◌, length, take}
use Rattle.console.specs.Numbers.{numbers_of, onto}
use Rattle.console.specs.Words.{words}
use Rattle.console.proofs.numbers.Numbers.read.Given as goal
use Rattle.console.specs.declared.numbers.TheConstants.{MAX_NUMBERS}

abbrev pub invariant-loop-word : goal.invariant-loop-word
invariant-loop-word l =
    (onto (take l.count l.all) (numbers_of (MAX_NUMBERS - l.count) (words l.left)) ≡ numbers_of MAX_NUMBERS (words l.initial.left))
    × (l.count ≤ MAX_NUMBERS) × (length l.all ≡ MAX_NUMBERS)

abbrev pub decreases-loop-word : goal.decreases-loop-word
decreases-loop-word l = length l.left
