-- Why a desk did not do what it was asked.
use Rattle.std.specs.Prelude.{ℕ}
use Rattle.bookings.specs.Refusals.{number_of}
use Rattle.network.specs.declared.unplayed.Unplayed.{Unplayed}
use Rattle.network.specs.declared.unplayed.Unplayed.TheVariants.{Memory, Refused, Failed}

-- by a number, or since the journal failed; never for want of memory
abbrev pub Undone : Unplayed → (ℕ → Type 0) → Type 0 → Type 0
Undone Memory by shut = ⊥
Undone (Refused why) by shut = by (number_of why)
Undone (Failed fault) by shut = shut

-- a letter is never refused
abbrev pub Unwritten : Unplayed → Type 0
Unwritten Memory = Unit {0}
Unwritten (Refused why) = ⊥
Unwritten (Failed fault) = Unit {0}
