use Rattle.std.proofs.Common.{◌≡◌, ℕ, ◌-◌, ◌%◌, ◌≤◌, List}
use Rattle.digest.specs.Sha256.{rounds}
use Rattle.digest.proofs.rounds.late_rounds.Given as goal

abbrev pub invariant-loop-t : goal.invariant-loop-t
invariant-loop-t l = (l.t ≤ 64) × (l.t % 4 ≡ 0) × ((s : List ℕ) → l.initial.s ≡ rounds 48 s l.w → l.s ≡ rounds l.t s l.w)

abbrev pub decreases-loop-t : goal.decreases-loop-t
decreases-loop-t l = 64 - l.t
