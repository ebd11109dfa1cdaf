-- The words of the laws, and the tests that the definitions make.
use Rattle.std.proofs.Common.{◌≡◌, ℕ, ◌+◌, ◌-◌, ◌<◌, ◌≤◌, true, false, ◌&&◌, ltb, leb, List, [], ◌∷◌, get_or, sym, refl, ap, ◌∙◌, ⊎_elim, arith}
use Rattle.std.proofs.lemmas.Bool.{cases_lt, cases_order, le-leb, lt-leb, lt-ltb, le-ltb, eq-eqb, ne_eqb}
use Rattle.bookings.specs.Books.{PlainBook}
use Rattle.bookings.specs.Held.{held_at, held_on}
use Rattle.bookings.specs.Laws.{covers, beds_held_by, beds_held, Free}
use Rattle.bookings.specs.Nights.{place_of, first, inside, is_free}
use Rattle.bookings.specs.Outcomes.{PlainOutcome, holds, nothing, cancelled, changed, freed, resized, held_by}
use Rattle.bookings.specs.Plain.{PlainStay, PlainChoice}
use Rattle.bookings.specs.Ranges.{StayOk, Each}
use Rattle.bookings.proofs.Fit.{free-at, free_from}
use Rattle.bookings.proofs.Sound.{HeldOk}
use Rattle.bookings.specs.declared.limits.TheConstants.{NIGHTS}

same_leb : (a b c d : ℕ) → (a ≤ b → c ≤ d) → (b < a → d < c) → leb a b ≡ leb c d
same_leb a b c d up down = ⊎_elim (λ h. lt-leb a b h ∙ sym (lt-leb c d (down h))) (λ h. le-leb a b h ∙ sym (le-leb c d (up h))) (cases_lt b a)

same_ltb : (a b c d : ℕ) → (a < b → c < d) → (b ≤ a → d ≤ c) → ltb a b ≡ ltb c d
same_ltb a b c d up down = ⊎_elim (λ h. lt-ltb a b h ∙ sym (lt-ltb c d (up h))) (λ h. le-ltb a b h ∙ sym (le-ltb c d (down h))) (cases_lt a b)

-- a stay's places are those of its nights
pub covers-inside : (s : PlainStay) (hut night : ℕ) → StayOk s → night < NIGHTS → inside (first s) s.nights (place_of hut night) ≡ covers s hut night
covers-inside s hut night ok in-year =
    ⊎_elim
    (λ same.
    rw (eq-eqb hut s.hut same, same_leb (first s) (place_of hut night) s.night night (λ h. omega arith) (λ h. omega arith))
    (ap (λ b. leb s.night night && b) (same_ltb (place_of hut night) (first s + s.nights) night (s.night + s.nights) (λ h. omega arith) (λ h. omega arith))))
    (λ apart.
    ⊎_elim
    (λ below. let other : hut ≡ s.hut → ⊥ = λ e. omega arith in rw (lt-leb (first s) (place_of hut night) (omega arith), ne_eqb hut s.hut other) refl)
    (λ above.
    let other : hut ≡ s.hut → ⊥ = λ e. omega arith in
    rw (le-leb (first s) (place_of hut night) (omega arith), le-ltb (place_of hut night) (first s + s.nights) (omega arith), ne_eqb hut s.hut other) refl)
    apart)
    (cases_order hut s.hut)

held_there : (o : PlainOutcome) (hut night : ℕ) → HeldOk o → night < NIGHTS → held_at (place_of hut night) o ≡ beds_held_by (held_by o) hut night
held_there (holds g) hut night ok in-year = rw (covers-inside g.choice.stay hut night ok in-year) refl
held_there nothing hut night ok in-year = refl
held_there (cancelled g) hut night ok in-year = refl
held_there (changed g m) hut night ok in-year = refl
held_there (freed p) hut night ok in-year = refl
held_there (resized s were) hut night ok in-year = refl

pub all_held : (os : List PlainOutcome) (hut night : ℕ) → Each HeldOk os → night < NIGHTS → held_on (place_of hut night) os ≡ beds_held os hut night
all_held [] hut night ok in-year = refl
all_held (o ∷ os) hut night ok in-year =
    let here = held_there o hut night ok.0 in-year in
    let rest = all_held os hut night ok.1 in-year in
    omega arith

-- the test for a free choice says that it is free
pub free_yes : (b : PlainBook) (c : PlainChoice) → ((k : ℕ) → get_or b.booked k 0 ≤ get_or b.beds k 0) → is_free b.beds b.booked c ≡ true → Free b c
free_yes b c within test night from upto =
    let at : first c.stay + (night - c.stay.night) ≡ place_of c.stay.hut night = omega arith in
    let room = rw at at (free-at b.beds b.booked (first c.stay) c.stay.nights c.beds (night - c.stay.night) test (omega arith)) in
    omega (arith, within (place_of c.stay.hut night))

pub free_no : (b : PlainBook) (c : PlainChoice) → is_free b.beds b.booked c ≡ false → Free b c → ⊥
free_no b c test free =
    let each : (k : ℕ) → k < c.stay.nights → c.beds ≤ get_or b.beds (first c.stay + k) 0 - get_or b.booked (first c.stay + k) 0 =
    λ k h.
    let at : place_of c.stay.hut (c.stay.night + k) ≡ first c.stay + k = omega arith in
    let room = rw at at (free (c.stay.night + k) (omega arith) (omega arith)) in
    omega arith in
    let yes-free = free_from b.beds b.booked (first c.stay) c.stay.nights c.beds each in
    let z : ◌≡◌ {A = ℕ} 0 1 = cc in omega arith
