-- How hexadecimal digits and their bytes go on, at the terms of the loops.
use Rattle.std.proofs.Common.{◌≡◌, ℕ, ◌/◌, Bool, true, false, cond, List, [], ◌∷◌, ◌&&◌, length, refl, arith}
use Rattle.std.specs.List.{list_all}
use Rattle.console.specs.Hexes.{is_digit, all_digits, bytes_of}

-- all of them are digits
digit_and : (s t u : Bool) → t ≡ u → (s && t) ≡ cond s u false
digit_and true t u e = e
digit_and false t u e = refl

pub every_digit : (w : List ℕ) → list_all is_digit w ≡ all_digits w
every_digit [] = refl
every_digit (b ∷ w) = digit_and (is_digit b) (list_all is_digit w) (all_digits w) (every_digit w)

pub length_bytes : (w : List ℕ) → length (bytes_of w) ≡ length w / 2
length_bytes [] = refl
length_bytes (a ∷ []) = refl
length_bytes (a ∷ b ∷ w) = omega (arith, length_bytes w)
