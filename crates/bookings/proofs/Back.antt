-- What is taken back, from the parts in which the code does it.
use Rattle.std.proofs.Common.{◌≡◌, ℕ, ◌-◌, List, length, get_or, set, Some, refl, ⊎_elim, arith}
use Rattle.bookings.specs.Held.{Few}
use Rattle.bookings.specs.Nights.{first, claim, release}
use Rattle.bookings.specs.Outcomes.{PlainGrant, PlainOutcome, holds, nothing, once_held_by}
use Rattle.bookings.specs.Plain.{PlainChoice}
use Rattle.bookings.specs.Ranges.{StayOk}
use Rattle.bookings.specs.Undone.{Rest, reinstated}
use Rattle.bookings.proofs.Over.{over_cases, stay_fits}
use Rattle.bookings.specs.declared.limits.TheConstants.{PLACES}

pub reinstate_some :
    (p : ℕ) (r : Rest) (g : PlainGrant) (booked : List ℕ) (outcomes : List PlainOutcome) → Some g ≡ once_held_by (get_or r.outcomes p nothing)
    → booked ≡ claim r.booked g.choice → outcomes ≡ set r.outcomes p (holds g)
    → record { beds = r.beds; booked = booked; outcomes = outcomes } ≡ reinstated (Some p) r
reinstate_some p r g booked outcomes some booked-is outcomes-is = rw (← some, booked-is, outcomes-is) refl

-- where beds are given back, no night has more booked than before
pub few_release : (booked : List ℕ) (c : PlainChoice) → length booked ≡ PLACES → StayOk c.stay → Few booked → Few (release booked c)
few_release booked c long ok few k =
    let before = few k in
    ⊎_elim (λ h. omega (arith, h.1)) (λ h. omega (arith, h.1))
    (over_cases (λ _ n. n - c.beds) booked (first c.stay) c.stay.nights k (omega (arith, stay_fits c.stay ok)))
