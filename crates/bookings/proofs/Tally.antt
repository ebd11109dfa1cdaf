-- What bookings hold at a place, as bookings come, go and change.
use Rattle.std.proofs.Common.{◌≡◌, ℕ, zero, suc, ◌+◌, ◌-◌, ◌<◌, ◌≤◌, Bool, true, false, ltb, leb, List, [], ◌∷◌, ◌++◌, length, get_or, set, refl, ⊎_elim, arith}
use Rattle.std.proofs.lemmas.List.{get_or_past}
use Rattle.std.proofs.lemmas.Bool.{cases_lt, le-leb, lt-ltb, leb-true, ltb-true, and_parts, and_from}
use Rattle.bookings.specs.Held.{share, held_at, held_on}
use Rattle.bookings.specs.Nights.{first, inside, claim, release, is_free}
use Rattle.bookings.specs.Outcomes.{PlainGrant, PlainOutcome, holds, nothing}
use Rattle.bookings.specs.Plain.{PlainChoice}
use Rattle.bookings.specs.Ranges.{StayOk}
use Rattle.bookings.proofs.Fit.{free-at}
use Rattle.bookings.proofs.Over.{over_cases, stay_fits}
use Rattle.bookings.specs.declared.limits.TheConstants.{PLACES}

pub held_push : (k : ℕ) (os : List PlainOutcome) (o : PlainOutcome) → held_on k (os ++ o ∷ []) ≡ held_on k os + held_at k o
held_push k [] o = omega arith
held_push k (p ∷ os) o = let rest = held_push k os o in omega arith

pub held_set :
    (k p : ℕ) (os : List PlainOutcome) (o : PlainOutcome) → p < length os → held_on k (set os p o) + held_at k (get_or os p nothing) ≡ held_on k os + held_at k o
held_set k p [] o h = absurd (omega arith)
held_set k zero (q ∷ os) o h = omega arith
held_set k (suc p) (q ∷ os) o h = let rest = held_set k p os o (omega arith) in omega arith

-- a place where a booking holds a choice is one of the list
pub holds_within : (os : List PlainOutcome) (p : ℕ) (g : PlainGrant) → get_or os p nothing ≡ holds g → p < length os
holds_within os p g is =
    ⊎_elim (λ h. h) (λ past. absurd (let none = get_or_past os p nothing past in let z : ◌≡◌ {A = ℕ} 0 1 = cc in omega arith)) (cases_lt p (length os))

-- a booking's share is among what is held
pub held_member : (k p : ℕ) (os : List PlainOutcome) → held_at k (get_or os p nothing) ≤ held_on k os
held_member k p [] = omega arith
held_member k zero (o ∷ os) = omega arith
held_member k (suc p) (o ∷ os) = let rest = held_member k p os in omega arith

pub share-inside : (k : ℕ) (c : PlainChoice) → inside (first c.stay) c.stay.nights k ≡ true → share k c ≡ c.beds
share-inside k c is = rw is refl

pub share_outside : (k : ℕ) (c : PlainChoice) → inside (first c.stay) c.stay.nights k ≡ false → share k c ≡ 0
share_outside k c is = rw is refl

module _ (booked : List ℕ) (c : PlainChoice) (long : length booked ≡ PLACES) (ok : StayOk c.stay) (k : ℕ) where
  pub claim-share : get_or (claim booked c) k 0 ≡ get_or booked k 0 + share k c
  claim-share =
      ⊎_elim (λ h. omega (arith, h.1, share-inside k c h.0)) (λ h. omega (arith, h.1, share_outside k c h.0))
      (over_cases (λ _ n. n + c.beds) booked (first c.stay) c.stay.nights k (omega (arith, stay_fits c.stay ok)))

  pub release-share : get_or (release booked c) k 0 ≡ get_or booked k 0 - share k c
  release-share =
      ⊎_elim (λ h. omega (arith, h.1, share-inside k c h.0)) (λ h. omega (arith, h.1, share_outside k c h.0))
      (over_cases (λ _ n. n - c.beds) booked (first c.stay) c.stay.nights k (omega (arith, stay_fits c.stay ok)))

-- what is free leaves no night with more booked than beds
pub free-share :
    (beds booked : List ℕ) (c : PlainChoice) (k : ℕ) → is_free beds booked c ≡ true → get_or booked k 0 ≤ get_or beds k 0
    → get_or booked k 0 + share k c ≤ get_or beds k 0
free-share beds booked c k free within = by_place (inside (first c.stay) c.stay.nights k) refl
  where
    by_place : (b : Bool) → inside (first c.stay) c.stay.nights k ≡ b → get_or booked k 0 + share k c ≤ get_or beds k 0
    by_place true is =
        let both = and_parts (leb (first c.stay) k) (ltb k (first c.stay + c.stay.nights)) is in
        let from = leb-true (first c.stay) k both.0 in
        let upto = ltb-true k (first c.stay + c.stay.nights) both.1 in
        let at : first c.stay + (k - first c.stay) ≡ k = omega arith in
        let room = free-at beds booked (first c.stay) c.stay.nights c.beds (k - first c.stay) free (omega arith) in
        let here : c.beds ≤ get_or beds k 0 - get_or booked k 0 = rw at at room in
        omega (arith, share-inside k c is)
    by_place false is = omega (arith, share_outside k c is)

-- a share of a choice's own night is its beds
pub share_within :
    (booked : List ℕ) (c : PlainChoice) (k : ℕ) → k < c.stay.nights → share (first c.stay + k) c ≤ get_or booked (first c.stay + k) 0
    → c.beds ≤ get_or booked (first c.stay + k) 0
share_within booked c k h low =
    let here : inside (first c.stay) c.stay.nights (first c.stay + k) ≡ true =
    and_from _ _ (le-leb (first c.stay) (first c.stay + k) (omega arith)) (lt-ltb (first c.stay + k) (first c.stay + c.stay.nights) (omega arith)) in
    omega (arith, share-inside (first c.stay + k) c here)
