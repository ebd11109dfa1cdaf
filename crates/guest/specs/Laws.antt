-- What holds of all slips.
use Rattle.std.specs.Prelude.{◌≡◌, ℕ, ◌^◌, ◌<◌, List, length, All}
use Rattle.bookings.specs.declared.limits.TheConstants.{HUTS}
use Rattle.guest.specs.Slips.{slip_bytes}
use Rattle.guest.specs.declared.slip.TheConstants.{SLIP_BYTES}

-- different slips have different bytes: so reading what was written gives the very slip
abbrev pub OneForm : Type 0
OneForm =
    (s t : List ℕ) → length s ≡ length t → All (λ n. n < 2 ^ 32) s → All (λ n. n < 2 ^ 32) t → slip_bytes s ≡ slip_bytes t → s ≡ t

-- how many bytes a slip has
abbrev pub Length : Type 0
Length = (s : List ℕ) → length s ≡ HUTS → length (slip_bytes s) ≡ SLIP_BYTES
