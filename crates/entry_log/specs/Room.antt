-- A list whose elements are moved up by one, over the last, with another put first; and the same between two places.
use Rattle.std.specs.Prelude.{ℕ, suc, ◌-◌, List, ◌∷◌, ◌++◌, length, take, drop}

abbrev pub shifted : {X : Type 0} → List X → X → List X
shifted xs x = x ∷ take (length xs - 1) xs

-- what stood at the place `last` is gone
abbrev pub moved_to : {X : Type 0} → List X → ℕ → ℕ → X → List X
moved_to xs place last x = take place xs ++ x ∷ (take (last - place) (drop place xs) ++ drop (suc last) xs)
