-- What an entry does, from the parts in which the code does it.
use Rattle.std.proofs.Common.{◌≡◌, ℕ, List, set, Some, None, Option, refl, ap, ◌∙◌}
use Rattle.bookings.specs.Books.{PlainBook, Standing, cancelling, changing, changing_to, first_free}
use Rattle.bookings.specs.Nights.{claim, release}
use Rattle.bookings.specs.Outcomes.{PlainGrant, PlainOutcome, holds, nothing, cancelled, changed, freed}
use Rattle.bookings.specs.Plain.{PlainMark, PlainChoice}

pub cancel_found :
    (b : PlainBook) (s : Standing) (o : Option Standing) (booked : List ℕ) (outcomes : List PlainOutcome) → Some s ≡ o
    → booked ≡ release b.booked s.grant.choice → outcomes ≡ set b.outcomes s.place (cancelled s.grant)
    → record { beds = b.beds; booked = booked; outcomes = outcomes; own = freed (Some s.place) } ≡ cancelling b o
cancel_found b s o booked outcomes found booked-is outcomes-is = rw (← found, booked-is, outcomes-is) refl

module _ (m : PlainMark) (cs : List PlainChoice) (b : PlainBook) (s : Standing) (o : Option Standing) (released : List ℕ) (found : Some s ≡ o) (released-is : released ≡ release b.booked s.grant.choice) where
  by_grant : (g : Option PlainGrant) → g ≡ first_free b.beds released (Some s.place) 0 cs → changing_to m b s g ≡ changing m cs b o
  by_grant g is = ap (changing_to m b s) (is ∙ ap (λ n. first_free b.beds n (Some s.place) 0 cs) released-is) ∙ ap (changing m cs b) found

  pub change_kept :
      (booked : List ℕ) → None ≡ first_free b.beds released (Some s.place) 0 cs → booked ≡ b.booked
      → record { beds = b.beds; booked = booked; outcomes = b.outcomes; own = nothing } ≡ changing m cs b o
  change_kept booked none booked-is = rw booked-is (by_grant None none)

  pub change-granted :
      (g : PlainGrant) (booked : List ℕ) (outcomes : List PlainOutcome) → Some g ≡ first_free b.beds released (Some s.place) 0 cs
      → booked ≡ claim released g.choice → outcomes ≡ set b.outcomes s.place (changed s.grant m)
      → record { beds = b.beds; booked = booked; outcomes = outcomes; own = holds g } ≡ changing m cs b o
  change-granted g booked outcomes some booked-is outcomes-is =
      let claimed-is = booked-is ∙ ap (λ n. claim n g.choice) released-is in
      rw (claimed-is, outcomes-is) (by_grant (Some g) some)
