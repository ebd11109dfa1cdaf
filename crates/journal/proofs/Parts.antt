-- First parts of lists: where more is put behind them, and where what is behind them is cut off.
use Rattle.std.proofs.Common.{◌≡◌, ℕ, ◌≤◌, min, List, ◌++◌, length, take, sym, ap, ◌∙◌, inl, inr, arith}
use Rattle.std.proofs.lemmas.List.{take-append-le, take_all, take-take}
use Rattle.std.proofs.lemmas.Bool.{cases_lt}

-- what is behind the end does not count
pub take_capped : (n m : ℕ) (xs : List ℕ) → length xs ≤ m → take (min n m) xs ≡ take n xs
take_capped n m xs h =
    elim (cases_lt n m) [
      | inl lt ↦ let e : min n m ≡ n = omega arith in ap (λ k. take k xs) e
      | inr ge ↦ take_all (min n m) xs (omega arith) ∙ sym (take_all n xs (omega arith))
    ]

pub first_stays : (bs xs ys zs : List ℕ) → length bs ≤ length xs → zs ≡ xs ++ ys → take (length bs) xs ≡ bs → take (length bs) zs ≡ bs
first_stays bs xs ys zs h zs-is e = rw zs-is (take-append-le (length bs) xs ys h ∙ e)

pub first_of_cut : (bs xs zs : List ℕ) (n : ℕ) → length bs ≤ n → zs ≡ take n xs → take (length bs) xs ≡ bs → take (length bs) zs ≡ bs
first_of_cut bs xs zs n h zs-is e = rw zs-is (take-take (length bs) n xs h ∙ e)
