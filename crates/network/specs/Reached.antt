-- What holds of a rehearsal, whatever was played.
use Rattle.std.specs.Prelude.{ℕ, List}
use Rattle.journal.specs.History.{Kept}
use Rattle.network.specs.Net.{Event}
use Rattle.network.specs.Promised.{Promised}
use Rattle.network.specs.Stages.{Follows, huts_of}
use Rattle.network.specs.Stands.{Stands}
use Rattle.network.specs.declared.stage.Stage.{Stage}

-- each replica is in step with something that its hut has kept
abbrev pub Followed : Stage → Type 0
Followed s = ∥ ((kept : ℕ → Kept) × Follows (huts_of s) kept) ∥₁

-- some events have led there
abbrev pub Reached : Stage → Type 0
Reached s = ∥ ((es : List Event) × Stands s es) ∥₁

-- THEOREM: some events have led there, and all laws of the network hold after them
abbrev pub Promises : Stage → Type 0
Promises s = ∥ ((es : List Event) × Stands s es × Promised es) ∥₁
