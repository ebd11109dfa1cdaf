-- The numbers that words write.
use Rattle.std.specs.Prelude.{ℕ, zero, suc, List, [], ◌∷◌, ◌++◌, Some, None, Option}
use Rattle.console.specs.Digits.{number_of}

abbrev pub onto : List ℕ → Option (List ℕ) → Option (List ℕ)
onto xs None = None
onto xs (Some ys) = Some (xs ++ ys)

abbrev pub before : Option ℕ → Option (List ℕ) → Option (List ℕ)
before None ns = None
before (Some n) ns = onto (n ∷ []) ns

-- at most k numbers; none where a word is no number, or where there are more
unfoldable pub numbers_of : ℕ → List (List ℕ) → Option (List ℕ)
numbers_of k [] = Some []
numbers_of zero (w ∷ ws) = None
numbers_of (suc k) (w ∷ ws) = before (number_of w) (numbers_of k ws)
