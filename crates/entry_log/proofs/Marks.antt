-- The order of marks, and what a list in that order has.
use Rattle.std.proofs.Common.{◌≡◌, ℕ, zero, suc, ◌<◌, ◌≤◌, true, false, List, [], ◌∷◌, ◌++◌, ◌+◌, Bool, cond, length, get_or, refl, ap, arith}
use Rattle.std.proofs.lemmas.Bool.{and_parts, and_from, cond_both}
use Rattle.std.proofs.lemmas.Bool.Decides.{nat_tests}
use Rattle.bookings.specs.Books.{same_mark}
use Rattle.bookings.specs.Plain.{PlainMark, PlainEntry}
use Rattle.entry_log.specs.Order.{before, all_behind, ascends}
use Rattle.entry_log.specs.Logs.{spot}

pub before_through : (a b c : PlainMark) → before a b ≡ true → before b c ≡ true → before a c ≡ true
before_through a b c h k = grind (arith, nat_tests)

pub before_else : (a b : PlainMark) → before a b ≡ false → same_mark a b ≡ false → before b a ≡ true
before_else a b h k = grind (arith, nat_tests)

pub behind_through : (a b : PlainMark) (es : List PlainEntry) → before a b ≡ true → all_behind b es ≡ true → all_behind a es ≡ true
behind_through a b [] h k = refl
behind_through a b (e ∷ es) h k =
    let both = and_parts (before b e.mark) (all_behind b es) k in
    and_from _ _ (before_through a b e.mark h both.0) (behind_through a b es h both.1)

pub behind_at : (m : PlainMark) (es : List PlainEntry) (k : ℕ) (d : PlainEntry) → all_behind m es ≡ true → k < length es → before m (get_or es k d).mark ≡ true
behind_at m [] k d all h = absurd (omega arith)
behind_at m (e ∷ es) zero d all h = (and_parts (before m e.mark) (all_behind m es) all).0
behind_at m (e ∷ es) (suc k) d all h = behind_at m es k d (and_parts (before m e.mark) (all_behind m es) all).1 (omega arith)

-- the spot of a mark in a list: the place of the first entry that it comes before
pub spot_within : (m : PlainMark) (es : List PlainEntry) → spot m es ≤ length es
spot_within m [] = omega arith
spot_within m (e ∷ es) =
    cond_both (before m e.mark) 0 (suc (spot m es)) (λ n. n ≤ suc (length es)) (λ _. omega arith) (λ _. omega (arith, spot_within m es))

pub spot_low : (m : PlainMark) (es : List PlainEntry) (k : ℕ) (d : PlainEntry) → k < length es → before m (get_or es k d).mark ≡ true → spot m es ≤ k
spot_low m [] k d h is = absurd (omega arith)
spot_low m (e ∷ es) zero d h is = rw is (omega arith)
spot_low m (e ∷ es) (suc k) d h is =
    cond_both (before m e.mark) 0 (suc (spot m es)) (λ n. n ≤ suc k) (λ _. omega arith) (λ _. omega (arith, spot_low m es k d (omega arith) is))

pub spot_high :
    (m : PlainMark) (es : List PlainEntry) (k : ℕ) (d : PlainEntry) → ascends es ≡ true → k < length es → before m (get_or es k d).mark ≡ false → k < spot m es
spot_high m [] k d sorted h is = absurd (omega arith)
spot_high m (e ∷ es) zero d sorted h is = rw is (omega arith)
spot_high m (e ∷ es) (suc k) d sorted h is =
    let parts = and_parts (all_behind e.mark es) (ascends es) sorted in
    cond_both (before m e.mark) 0 (suc (spot m es)) (λ n. suc k < n)
    (λ first.
    let there = before_through m e.mark (get_or es k d).mark first (behind_at e.mark es k d parts.0 (omega arith)) in
    absurd (let z : ◌≡◌ {A = ℕ} 0 1 = cc in omega arith))
    (λ _. omega (arith, spot_high m es k d parts.1 (omega arith) is))

-- the parts of a list in order are in order
behind_front : (m : PlainMark) (xs ys : List PlainEntry) → all_behind m (xs ++ ys) ≡ true → all_behind m xs ≡ true
behind_front m [] ys all = refl
behind_front m (x ∷ xs) ys all =
    let both = and_parts (before m x.mark) (all_behind m (xs ++ ys)) all in and_from _ _ both.0 (behind_front m xs ys both.1)

pub ascends_parts : (xs ys : List PlainEntry) → ascends (xs ++ ys) ≡ true → (ascends xs ≡ true) × (ascends ys ≡ true)
ascends_parts [] ys sorted = (refl, sorted)
ascends_parts (x ∷ xs) ys sorted =
    let both = and_parts (all_behind x.mark (xs ++ ys)) (ascends (xs ++ ys)) sorted in
    let rest = ascends_parts xs ys both.1 in
    (and_from _ _ (behind_front x.mark xs ys both.0) rest.0, rest.1)

-- where a mark comes before one of the first part, its spot is there
pub spot_front : (m : PlainMark) (xs ys : List PlainEntry) → spot m xs < length xs → spot m (xs ++ ys) ≡ spot m xs
spot_front m [] ys = λ h. absurd (omega arith)
spot_front m (x ∷ xs) ys = step (before m x.mark) (spot_front m xs ys)
  where
    step :
        (b : Bool) → (spot m xs < length xs → spot m (xs ++ ys) ≡ spot m xs) → cond b 0 (suc (spot m xs)) < suc (length xs)
        → cond b 0 (suc (spot m (xs ++ ys))) ≡ cond b 0 (suc (spot m xs))
    step true further h = refl
    step false further h = ap suc (further (omega (arith, h)))

-- else it is behind that part, as far as it is in the other
pub spot_back : (m : PlainMark) (xs ys : List PlainEntry) → spot m xs ≡ length xs → spot m (xs ++ ys) ≡ length xs + spot m ys
spot_back m [] ys = λ h. omega arith
spot_back m (x ∷ xs) ys = step (before m x.mark) (spot_back m xs ys)
  where
    step :
        (b : Bool) → (spot m xs ≡ length xs → spot m (xs ++ ys) ≡ length xs + spot m ys) → cond b 0 (suc (spot m xs)) ≡ suc (length xs)
        → cond b 0 (suc (spot m (xs ++ ys))) ≡ suc (length xs) + spot m ys
    step true further h = absurd (omega (arith, h))
    step false further h = let e = further (omega (arith, h)) in omega (arith, e)
