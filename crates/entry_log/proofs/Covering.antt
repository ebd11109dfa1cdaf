-- What is asked, and made, of two vectors hut by hut.
use Rattle.std.proofs.Common.{◌≡◌, ℕ, zero, suc, ◌<◌, max, Bool, true, false, cond, ◌&&◌, leb, sym, List, [], ◌∷◌, length, get_or, ext_get_or, refl, ap, ◌∙◌, arith}
use Rattle.bookings.proofs.Over.{length_over, over-inside}
use Rattle.std.specs.List.{list_all, zip}
use Rattle.bookings.specs.Nights.{over}
use Rattle.bookings.specs.declared.limits.TheConstants.{HUTS}
use Rattle.entry_log.specs.Vectors.{covers_from, covers, joined_with}

-- a hut in front makes no difference behind it
covers_shift : (x y : ℕ) (a b : List ℕ) (h n : ℕ) → covers_from (x ∷ a) (y ∷ b) (suc h) n ≡ covers_from a b h n
covers_shift x y a b h zero = refl
covers_shift x y a b h (suc n) = ap (λ r. cond (leb (get_or b h 0) (get_or a h 0)) r false) (covers_shift x y a b (suc h) n)

all_from : (a b : List ℕ) (n : ℕ) → length a ≡ n → length b ≡ n → list_all (λ p. leb p.1 p.0) (zip a b) ≡ covers_from a b 0 n
all_from [] [] zero many_a many-b = refl
all_from [] [] (suc n) many_a many-b = absurd (omega arith)
all_from [] (y ∷ b) n many_a many-b = absurd (omega arith)
all_from (x ∷ a) [] n many_a many-b = absurd (omega arith)
all_from (x ∷ a) (y ∷ b) zero many_a many-b = absurd (omega arith)
all_from (x ∷ a) (y ∷ b) (suc n) many_a many-b = both (leb y x) (all_from a b n (omega arith) (omega arith) ∙ sym (covers_shift x y a b 0 n))
  where
    both : (t : Bool) {p q : Bool} → p ≡ q → (t && p) ≡ cond t q false
    both true e = e
    both false e = refl

pub all_covered : (a b : List ℕ) → length a ≡ HUTS → length b ≡ HUTS → list_all (λ p. leb p.1 p.0) (zip a b) ≡ covers a b
unfolding covers
all_covered a b many_a many-b = all_from a b HUTS many_a many-b

-- the higher of two stamps, hut by hut
pub joined_is :
    (out a b : List ℕ) → length out ≡ HUTS → length a ≡ HUTS
    → ((h : ℕ) → h < HUTS → get_or out h 0 ≡ max (get_or a h 0) (get_or b h 0)) → out ≡ joined_with a b
unfolding joined_with
joined_is out a b long-out long-a each =
    let f = λ (h s : ℕ). max s (get_or b h 0) in
    ext_get_or 0 out (over f a 0 HUTS) (long-out ∙ sym (length_over f a 0 HUTS ∙ long-a))
    (λ h in-out.
    let in-huts : h < HUTS = omega arith in
    each h in-huts ∙ sym (over-inside f a 0 HUTS h (omega arith) (omega arith) in-huts))
