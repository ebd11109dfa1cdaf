-- A letter that is long enough, begins with the right byte and is signed.
use Rattle.std.proofs.Common.{◌≡◌, ℕ, ◌+◌, ◌-◌, ◌≤◌, true, List, length, get_or, take, drop, refl, le-ltb, eq-eqb}
use Rattle.digest.specs.declared.TheConstants.{DIGEST_BYTES}
use Rattle.letters.specs.Letters.{signed, read_letter, read_body}
use Rattle.letters.specs.declared.limits.TheConstants.{EMPTY_LETTER_BYTES}

pub read_signed :
    (bs : List ℕ) (n : ℕ) → EMPTY_LETTER_BYTES ≤ length bs → get_or bs 0 0 ≡ 66 → signed bs ≡ true → n ≡ length bs - (1 + DIGEST_BYTES)
    → read_letter bs ≡ read_body (take n (drop 1 bs))
read_signed bs n long form sum n-is = rw (le-ltb (length bs) EMPTY_LETTER_BYTES long, eq-eqb (get_or bs 0 0) 66 form, sum, n-is) refl
