-- How far the work on a message has come.
use Rattle.std.specs.Prelude.{◌≡◌, ℕ, ◌+◌, ◌%◌, List, ◌++◌, length, take}
use Rattle.digest.specs.Sha256.{rounds, schedule_of, absorbed}

-- on a block: t rounds, which began at s, have led to the state, and w has the words of the schedule below t + 16
pub record Along (block s : List ℕ) (t : ℕ) (state w : List ℕ) : Type 0 where
  pub mixed : state ≡ rounds t s (schedule_of block)
  pub stored : take (t + 16) w ≡ take (t + 16) (schedule_of block)

-- on some bytes: those before rest are whole blocks, which have led from s to the state
pub record Cut (s bytes state rest : List ℕ) : Type 0 where
  pub whole : List ℕ
  pub split : bytes ≡ whole ++ rest
  pub blocks : length whole % 64 ≡ 0
  pub made : state ≡ absorbed s whole
