-- Two books are equal in at most one way, as all that is made of numbers.
use base.Stored.{Coded, Coded-set, coded_unit, coded_ℕ, coded×, coded⊎, coded_list, coded_via}
use Rattle.std.proofs.Common.{◌≡◌, ℕ, ◌⊎◌, List, Some, None, Option, sym, refl, ap, ◌∙◌, inl, inr}
use Rattle.bookings.specs.Books.{PlainBook}
use Rattle.bookings.specs.Outcomes.{PlainGrant, PlainOutcome, holds, nothing, cancelled, changed, freed, resized}
use Rattle.bookings.specs.Plain.{PlainMark, PlainStay, PlainChoice}

-- what can be got back from a code has one
by_back : {A B : Type 0} → Coded A → (f : B → A) (back : A → B) → ((x : B) → back (f x) ≡ x) → Coded B
by_back c f back again = coded_via c f (λ x y e. sym (again x) ∙ ap back e ∙ again y)

coded_mark : Coded PlainMark
coded_mark = by_back (coded× coded_ℕ coded_ℕ) (λ m. (m.stamp, m.hut)) (λ p. record { stamp = p.0; hut = p.1 }) (λ m. refl)

coded_stay : Coded PlainStay
coded_stay =
    by_back (coded× coded_ℕ (coded× coded_ℕ coded_ℕ)) (λ s. (s.hut, (s.night, s.nights))) (λ p. record { hut = p.0; night = p.1.0; nights = p.1.1 }) (λ s. refl)

coded_choice : Coded PlainChoice
coded_choice = by_back (coded× coded_stay coded_ℕ) (λ c. (c.stay, c.beds)) (λ p. record { stay = p.0; beds = p.1 }) (λ c. refl)

place_code : Option ℕ → ℕ ⊎ Unit {0}
place_code (Some n) = inl n
place_code None = inr tt

place_back : ℕ ⊎ Unit {0} → Option ℕ
place_back (inl n) = Some n
place_back (inr u) = None

place_again : (o : Option ℕ) → place_back (place_code o) ≡ o
unfolding place_code place_back
place_again (Some n) = refl
place_again None = refl

coded_place : Coded (Option ℕ)
coded_place = by_back (coded⊎ coded_ℕ coded_unit) place_code place_back place_again

coded_grant : Coded PlainGrant
coded_grant =
    by_back (coded× coded_ℕ (coded× coded_choice coded_place)) (λ g. (g.number, (g.choice, g.replaces))) (λ p. record { number = p.0; choice = p.1.0; replaces = p.1.1 }) (λ g. refl)

-- a sum with a part for each outcome
abbrev Parts : Type 0
Parts = PlainGrant ⊎ (Unit {0} ⊎ (PlainGrant ⊎ ((PlainGrant × PlainMark) ⊎ (Option ℕ ⊎ (PlainStay × List ℕ)))))

outcome_code : PlainOutcome → Parts
outcome_code (holds g) = inl g
outcome_code nothing = inr (inl tt)
outcome_code (cancelled g) = inr (inr (inl g))
outcome_code (changed g m) = inr (inr (inr (inl (g, m))))
outcome_code (freed p) = inr (inr (inr (inr (inl p))))
outcome_code (resized s were) = inr (inr (inr (inr (inr (s, were)))))

outcome_back : Parts → PlainOutcome
outcome_back (inl g) = holds g
outcome_back (inr (inl u)) = nothing
outcome_back (inr (inr (inl g))) = cancelled g
outcome_back (inr (inr (inr (inl p)))) = changed p.0 p.1
outcome_back (inr (inr (inr (inr (inl p))))) = freed p
outcome_back (inr (inr (inr (inr (inr p))))) = resized p.0 p.1

outcome_again : (o : PlainOutcome) → outcome_back (outcome_code o) ≡ o
unfolding outcome_code outcome_back
outcome_again (holds g) = refl
outcome_again nothing = refl
outcome_again (cancelled g) = refl
outcome_again (changed g m) = refl
outcome_again (freed p) = refl
outcome_again (resized s were) = refl

coded_outcome : Coded PlainOutcome
coded_outcome =
    by_back (coded⊎ coded_grant (coded⊎ coded_unit (coded⊎ coded_grant (coded⊎ (coded× coded_grant coded_mark) (coded⊎ coded_place (coded× coded_stay (coded_list coded_ℕ)))))))
    outcome_code outcome_back outcome_again

coded_book : Coded PlainBook
coded_book =
    by_back (coded× (coded_list coded_ℕ) (coded× (coded_list coded_ℕ) (coded× (coded_list coded_mark) (coded_list coded_outcome))))
    (λ b. (b.beds, (b.booked, (b.marks, b.outcomes)))) (λ p. record { beds = p.0; booked = p.1.0; marks = p.1.1.0; outcomes = p.1.1.1 }) (λ b. refl)

pub book_prop : (a b : PlainBook) → IsProp (a ≡ b)
book_prop = Coded-set coded_book
