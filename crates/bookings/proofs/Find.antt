-- Where a mark stands, and what the booking there holds.
use Rattle.std.proofs.Common.{◌≡◌, ℕ, suc, ◌+◌, ◌-◌, ◌<◌, ◌≤◌, Bool, true, false, cond, eqb, List, [], ◌∷◌, map, length, get_or, Some, None, Option, sym, refl, ap, ◌∙◌, add-one, arith}
use Rattle.std.specs.List.{position, position_from}
use Rattle.std.proofs.lemmas.Iterator.Adapters.{position_from-zero}
use Rattle.std.proofs.lemmas.Bool.{and_parts, eqb-true}
use Rattle.bookings.specs.declared.entry.Mark.{Mark}
use Rattle.bookings.specs.Books.{Standing, same_mark, place_from, standing_at, standing_with}
use Rattle.bookings.specs.Outcomes.{PlainGrant, PlainOutcome, holds, nothing, cancelled, changed, freed, resized, held_by}
use Rattle.bookings.specs.Plain.{PlainMark, plain_mark}

-- the place of a mark is that of the first that passes the test
place_position_from : (m : PlainMark) (i : ℕ) (ms : List Mark) → position_from (λ n. same_mark m (plain_mark n)) i ms ≡ place_from i m (map plain_mark ms)
place_position_from m i [] = refl
place_position_from m i (n ∷ ns) = ap (cond (same_mark m (plain_mark n)) (Some i)) (rw add-one (place_position_from m (suc i) ns))

pub place_position : (m : PlainMark) (ms : List Mark) → position (λ n. same_mark m (plain_mark n)) ms ≡ place_from 0 m (map plain_mark ms)
place_position m ms = position_from-zero (λ n. same_mark m (plain_mark n)) ms ∙ place_position_from m 0 ms

-- a place that is found is one of the list's
place_step :
    (m n : PlainMark) (i p : ℕ) (ns : List PlainMark) (b : Bool) → (place_from (suc i) m ns ≡ Some p → (i < p) × (p < suc i + length ns))
    → cond b (Some i) (place_from (suc i) m ns) ≡ Some p → (i ≤ p) × (p < i + suc (length ns))
place_step m n i p ns true further e = let same : i ≡ p = cc in (omega arith, omega arith)
place_step m n i p ns false further e = let rest = further e in (omega arith, omega arith)

pub place_within : (m : PlainMark) (i p : ℕ) (ms : List PlainMark) → place_from i m ms ≡ Some p → (i ≤ p) × (p < i + length ms)
place_within m i p [] e = let z : ◌≡◌ {A = ℕ} 0 1 = cc in absurd (omega arith)
place_within m i p (n ∷ ns) e =
    place_step m n i p ns (same_mark m n) (λ e. let rest = place_within m (suc i) p ns e in (omega arith, omega arith)) e

-- what holds a choice is a booking that holds it
pub held_is : (o : PlainOutcome) (g : PlainGrant) → Some g ≡ held_by o → o ≡ holds g
held_is (holds h) g e = cc
held_is nothing g e = absurd (let z : ◌≡◌ {A = ℕ} 0 1 = cc in omega arith)
held_is (cancelled h) g e = absurd (let z : ◌≡◌ {A = ℕ} 0 1 = cc in omega arith)
held_is (changed h m) g e = absurd (let z : ◌≡◌ {A = ℕ} 0 1 = cc in omega arith)
held_is (freed p) g e = absurd (let z : ◌≡◌ {A = ℕ} 0 1 = cc in omega arith)
held_is (resized s were) g e = absurd (let z : ◌≡◌ {A = ℕ} 0 1 = cc in omega arith)

-- a booking that is found standing holds what is found
found_with : (q : ℕ) (o : Option PlainGrant) (s : Standing) → standing_with q o ≡ Some s → (q ≡ s.place) × (o ≡ Some s.grant)
found_with q None s e = absurd (let z : ◌≡◌ {A = ℕ} 0 1 = cc in omega arith)
found_with q (Some g) s e = let same : record { place = q; grant = g } ≡ s = cc in (ap (λ (x : Standing). x.place) same, ap (λ (x : Standing). Some x.grant) same)

pub standing-holds :
    (os : List PlainOutcome) (p : Option ℕ) (s : Standing) → standing_at os p ≡ Some s → get_or os s.place nothing ≡ holds s.grant
standing-holds os None s e = absurd (let z : ◌≡◌ {A = ℕ} 0 1 = cc in omega arith)
standing-holds os (Some q) s e =
    let both = found_with q (held_by (get_or os q nothing)) s e in
    ap (λ i. get_or os i nothing) (sym both.0) ∙ held_is (get_or os q nothing) s.grant (sym both.1)

-- where a mark is found it stands
pub same_is : (m n : PlainMark) → same_mark m n ≡ true → m ≡ n
same_is m n same =
    let both = and_parts (eqb m.stamp n.stamp) (eqb m.hut n.hut) same in
    let stamps = eqb-true m.stamp n.stamp both.0 in
    let huts = eqb-true m.hut n.hut both.1 in
    ap (λ s. record { stamp = s; hut = m.hut }) stamps ∙ ap (λ h. record { stamp = n.stamp; hut = h }) huts

is_step :
    (m n : PlainMark) (i p : ℕ) (ns : List PlainMark) (b : Bool) → same_mark m n ≡ b → (place_from (suc i) m ns ≡ Some p → m ≡ get_or ns (p - suc i) m)
    → cond b (Some i) (place_from (suc i) m ns) ≡ Some p → m ≡ get_or (n ∷ ns) (p - i) m
is_step m n i p ns true same further e = let z : p - i ≡ 0 = let at : i ≡ p = cc in omega arith in same_is m n same ∙ sym (ap (λ k. get_or (n ∷ ns) k m) z)
is_step m n i p ns false same further e =
    let within = place_within m (suc i) p ns e in
    let next : p - i ≡ suc (p - suc i) = omega arith in further e ∙ sym (ap (λ k. get_or (n ∷ ns) k m) next)

place-mark : (m : PlainMark) (i p : ℕ) (ms : List PlainMark) → place_from i m ms ≡ Some p → m ≡ get_or ms (p - i) m
place-mark m i p [] e = absurd (let z : ◌≡◌ {A = ℕ} 0 1 = cc in omega arith)
place-mark m i p (n ∷ ns) e = is_step m n i p ns (same_mark m n) refl (place-mark m (suc i) p ns) e

pub place_is : (m : PlainMark) (i p : ℕ) (ms : List PlainMark) → place_from i m ms ≡ Some p → (p < i + length ms) × (m ≡ get_or ms (p - i) m)
place_is m i p ms e = ((place_within m i p ms e).1, place-mark m i p ms e)

pub place_low : (m : PlainMark) (i p : ℕ) (ms : List PlainMark) → place_from i m ms ≡ Some p → i ≤ p
place_low m i p ms e = (place_within m i p ms e).0
