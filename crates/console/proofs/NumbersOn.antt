-- How the numbers of a line go on by one word, at the terms of the loop.
use Rattle.std.proofs.Common.{◌≡◌, ℕ, zero, suc, ◌+◌, List, [], ◌∷◌, ◌++◌, Some, None, Option, sym, refl, ap, append_assoc, add-one}
use Rattle.std.proofs.lemmas.List.{append-nil}
use Rattle.console.specs.Digits.{number_of}
use Rattle.console.specs.Numbers.{onto, numbers_of}

onto_twice : (xs ys : List ℕ) (o : Option (List ℕ)) → onto xs (onto ys o) ≡ onto (xs ++ ys) o
onto_twice xs ys None = refl
onto_twice xs ys (Some zs) = ap Some (sym (append_assoc xs ys zs))

pub numbers_end : (k : ℕ) (xs : List ℕ) (ws : List (List ℕ)) → ws ≡ [] → onto xs (numbers_of k ws) ≡ Some xs
unfolding numbers_of
numbers_end zero xs ws e = rw e (ap Some (append-nil xs))
numbers_end (suc k) xs ws e = rw e (ap Some (append-nil xs))

pub numbers_too_many :
    (k : ℕ) (xs w : List ℕ) (ws rest : List (List ℕ)) → k ≡ 0 → ws ≡ w ∷ rest → onto xs (numbers_of k ws) ≡ None
unfolding numbers_of
numbers_too_many k xs w ws rest none e = rw (none, e) refl

pub numbers_bad :
    (k m : ℕ) (xs w : List ℕ) (ws rest : List (List ℕ)) → k ≡ m + 1 → ws ≡ w ∷ rest → None ≡ number_of w → onto xs (numbers_of k ws) ≡ None
unfolding numbers_of
numbers_bad k m xs w ws rest k-is e told = rw (k-is, add-one m, e, sym told) refl

pub numbers_on :
    (k m n : ℕ) (xs ys w : List ℕ) (ws rest : List (List ℕ)) → k ≡ m + 1 → ws ≡ w ∷ rest → Some n ≡ number_of w → ys ≡ xs ++ (n ∷ [])
    → onto xs (numbers_of k ws) ≡ onto ys (numbers_of m rest)
unfolding numbers_of
numbers_on k m n xs ys w ws rest k-is e told ys-is =
    rw (k-is, add-one m, e, sym told, ys-is) (onto_twice xs (n ∷ []) (numbers_of m rest))
