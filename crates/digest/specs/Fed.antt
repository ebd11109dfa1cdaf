-- What a hasher has taken in.
use Rattle.std.specs.Prelude.{◌≡◌, ℕ, ◌%◌, ◌^◌, List, length, take}
use Rattle.digest.specs.Sha256.{initial}
use Rattle.digest.specs.Progress.{Cut}
use Rattle.digest.specs.declared.hasher.Hasher.{Hasher}

-- the parts so far come to the message m
pub record Fed (h : Hasher) (m : List ℕ) : Type 0 where
  pub cut : Cut initial m h.state (take h.filled h.block)
  pub counted : h.count ≡ length m % 2 ^ 64
