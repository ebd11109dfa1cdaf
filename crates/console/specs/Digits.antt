-- The number that a word writes.
use Rattle.std.specs.Prelude.{ℕ, ◌+◌, ◌-◌, ◌*◌, cond, List, [], ◌∷◌, length, Some, None, Option, ◌==◌, nat_lt}
use Rattle.bookings.specs.declared.limits.TheConstants.{HUTS}

-- the number that digits write, where n stands before them; none where a byte is no digit
abbrev pub digits_after : ℕ → List ℕ → Option ℕ
digits_after n [] = Some n
digits_after n (b ∷ bs) = cond (nat_lt b 48) None (cond (nat_lt 57 b) None (digits_after (n * 10 + (b - 48)) bs))

-- the number that a word writes by 1 to 10 digits
abbrev pub number_of : List ℕ → Option ℕ
number_of w = cond (length w == 0) None (cond (nat_lt 10 (length w)) None (digits_after 0 w))

abbrev pub below_huts : Option ℕ → Option ℕ
below_huts None = None
below_huts (Some n) = cond (nat_lt n HUTS) (Some n) None

-- the number of a hut that a word writes
abbrev pub hut_of : List ℕ → Option ℕ
hut_of w = below_huts (number_of w)
