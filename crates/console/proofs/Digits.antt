-- How the number that digits write goes on by one digit, at the terms of the loop.
use Rattle.std.proofs.Common.{◌≡◌, ℕ, ◌+◌, ◌-◌, ◌*◌, ◌^◌, ◌<◌, ◌≤◌, ◌⊎◌, List, length, get_or, drop, Some, None, refl, inl, inr, pow-suc, add-one, arith, le-ltb, lt-ltb, ne_eqb}
use Rattle.std.proofs.lemmas.List.{drop_more, drop_all}
use Rattle.console.specs.Digits.{digits_after, number_of}

pub digits_bad :
    (xs : List ℕ) (n i : ℕ) → i < length xs → (get_or xs i 0 < 48) ⊎ (57 < get_or xs i 0) → digits_after n (drop i xs) ≡ None
digits_bad xs n i h (inl low) = rw (drop_more xs i 0 h, lt-ltb (get_or xs i 0) 48 low) refl
digits_bad xs n i h (inr high) = rw (drop_more xs i 0 h, le-ltb (get_or xs i 0) 48 (omega arith), lt-ltb 57 (get_or xs i 0) high) refl

pub digits_on :
    (xs : List ℕ) (n d i : ℕ) → i < length xs → 48 ≤ get_or xs i 0 → get_or xs i 0 ≤ 57 → d ≡ get_or xs i 0 - 48
    → digits_after n (drop i xs) ≡ digits_after (n * 10 + d) (drop (i + 1) xs)
digits_on xs n d i h l m d-is = rw (d-is, drop_more xs i 0 h, le-ltb (get_or xs i 0) 48 l, le-ltb 57 (get_or xs i 0) m) refl

pub digits_end : (xs : List ℕ) (n i : ℕ) → length xs ≤ i → digits_after n (drop i xs) ≡ Some n
digits_end xs n i h = rw (drop_all i xs h) refl

pub number_from_digits : (w : List ℕ) → (length w ≡ 0 → ⊥) → length w ≤ 10 → number_of w ≡ digits_after 0 w
number_from_digits w some few = rw (ne_eqb (length w) 0 some, le-ltb 10 (length w) few) refl

pub ten_times_more : (n d i : ℕ) → n < 10 ^ i → d ≤ 9 → n * 10 + d < 10 ^ (i + 1)
ten_times_more n d i h l = rw (add-one i, pow-suc 10 i) (omega arith)
