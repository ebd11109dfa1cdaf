-- A whole book, from its parts as the code changes them.
use Rattle.std.proofs.Common.{◌≡◌, ℕ, zero, suc, ◌-◌, ◌<◌, List, [], ◌∷◌, ◌++◌, map, length, get_or, take, Some, sym, refl, ap, ◌∙◌, arith}
use lib.ListN.{length-map}
use Rattle.std.proofs.lemmas.List.{get_or-map, take-map, length_push}
use Rattle.bookings.specs.Books.{PlainBook, Effect, entered, effect_of, does}
use Rattle.bookings.specs.Held.{Covered}
use Rattle.bookings.specs.Outcomes.{PlainOutcome, nothing}
use Rattle.bookings.specs.Plain.{PlainMark, PlainKind, PlainEntry}
use Rattle.bookings.specs.Undone.{Rest, taken_back, undone}

-- the parts are lent, changed, handed back, and the entry's own mark and outcome put behind
pub entered_is :
    (b lent : PlainBook) (m : PlainMark) (k : PlainKind) (e : Effect) (beds booked : List ℕ) (marks : List PlainMark) (outcomes : List PlainOutcome) → lent ≡ b
    → e ≡ effect_of m k lent → beds ≡ e.beds → booked ≡ e.booked → marks ≡ b.marks ++ m ∷ [] → outcomes ≡ e.outcomes ++ e.own ∷ []
    → record { beds = beds; booked = booked; marks = marks; outcomes = outcomes } ≡ does (record { mark = m; kind = k }) b
entered_is b lent m k e beds booked marks outcomes same did beds-is booked-is marks-is outcomes-is =
    rw (beds-is, booked-is, marks-is, outcomes-is) (ap (entered b m) (did ∙ ap (effect_of m k) same))

pub same_book :
    {beds beds' booked booked' : List ℕ} {marks marks' : List PlainMark} {outcomes outcomes' : List PlainOutcome} → beds ≡ beds' → booked ≡ booked' → marks ≡ marks'
    → outcomes ≡ outcomes'
    → ◌≡◌ {A = PlainBook} (record { beds = beds; booked = booked; marks = marks; outcomes = outcomes }) (record { beds = beds'; booked = booked'; marks = marks'; outcomes = outcomes' })
same_book p q r s = rw (p, q, r, s) refl

-- the last mark and outcome are taken out, the parts are lent, and what the entry did is taken back
pub undone_is :
    (b : PlainBook) (lent r : Rest) (o : PlainOutcome) (beds booked : List ℕ) (marks : List PlainMark) (outcomes : List PlainOutcome)
    → lent ≡ record { beds = b.beds; booked = b.booked; outcomes = take (length b.outcomes - 1) b.outcomes }
    → o ≡ get_or b.outcomes (length b.outcomes - 1) nothing → r ≡ taken_back o lent → beds ≡ r.beds → booked ≡ r.booked
    → marks ≡ take (length b.marks - 1) b.marks → outcomes ≡ r.outcomes
    → record { beds = beds; booked = booked; marks = marks; outcomes = outcomes } ≡ undone b
undone_is b lent r o beds booked marks outcomes Lent-is o_is r-is beds-is booked-is marks-is outcomes-is =
    let back : r ≡ taken_back (get_or b.outcomes (length b.outcomes - 1) nothing) (record { beds = b.beds; booked = b.booked; outcomes = take (length b.outcomes - 1) b.outcomes }) =
    r-is ∙ ap (λ p. taken_back p lent) o_is ∙ ap (taken_back (get_or b.outcomes (length b.outcomes - 1) nothing)) Lent-is in
    rw (beds-is, booked-is, marks-is, outcomes-is)
    (ap (λ (x : Rest). record { beds = x.beds; booked = x.booked; marks = take (length b.marks - 1) b.marks; outcomes = x.outcomes }) back)

pub same_rest :
    {beds beds' booked booked' : List ℕ} {outcomes outcomes' : List PlainOutcome} → beds ≡ beds' → booked ≡ booked' → outcomes ≡ outcomes'
    → ◌≡◌ {A = Rest} (record { beds = beds; booked = booked; outcomes = outcomes }) (record { beds = beds'; booked = booked'; outcomes = outcomes' })
same_rest p q r = rw (p, q, r) refl

-- one of the bookings that are covered
pub covered_one : (booked : List ℕ) (os : List PlainOutcome) (q : ℕ) (o : PlainOutcome) → Covered booked os → o ≡ get_or os q nothing → Covered booked (o ∷ [])
covered_one booked os q o covered is zero g holding k h = covered q g (sym is ∙ holding) k h
covered_one booked os q o covered is (suc p) g holding k h = absurd (let z : ◌≡◌ {A = ℕ} 0 1 = cc in omega arith)

-- what `pop` takes out and leaves, through a view of the elements
pub popped_last :
    {X Y : Type 0} (f : X → Y) (xs : List X) (n : ℕ) (x : X) (d : Y) → n ≡ length xs → 0 < n → Some x ≡ Some (get_or xs (n - 1) x) → f x ≡ get_or (map f xs) (length (map f xs) - 1) d
popped_last f xs n x d long some is =
    let same : x ≡ get_or xs (n - 1) x = cc in
    let at : n - 1 ≡ length (map f xs) - 1 = omega (arith, length-map xs f) in
    ap f same ∙ sym (get_or-map f xs (n - 1) x d (omega arith)) ∙ ap (λ i. get_or (map f xs) i d) at

pub popped_front :
    {X Y : Type 0} (f : X → Y) (xs ys : List X) (n : ℕ) → n ≡ length xs → ys ≡ take (n - 1) xs → map f ys ≡ take (length (map f xs) - 1) (map f xs)
popped_front f xs ys n long is =
    let at : n - 1 ≡ length (map f xs) - 1 = omega (arith, length-map xs f) in
    ap (map f) is ∙ sym (take-map f (n - 1) xs) ∙ ap (λ i. take i (map f xs)) at

-- a book that an entry was done to has an entry
pub done_some : (e : PlainEntry) (b c : PlainBook) → c ≡ does e b → length c.marks ≡ 0 → ⊥
done_some e b c is none = omega (arith, ap (λ (x : PlainBook). length x.marks) is, length_push b.marks e.mark)
