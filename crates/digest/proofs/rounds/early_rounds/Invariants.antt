use Rattle.std.proofs.Common.{◌≡◌, ℕ, ◌-◌, ◌%◌, ◌≤◌, List}
use Rattle.digest.specs.Progress.{Along}
use Rattle.digest.proofs.rounds.early_rounds.Given as goal

abbrev pub invariant-loop-t : goal.invariant-loop-t
invariant-loop-t l =
    (l.t ≤ 48) × (l.t % 4 ≡ 0)
    × ((block : List ℕ) → Along block l.initial.s 0 l.initial.s l.initial.w → Along block l.initial.s l.t l.s l.w)

abbrev pub decreases-loop-t : goal.decreases-loop-t
decreases-loop-t l = 48 - l.t
