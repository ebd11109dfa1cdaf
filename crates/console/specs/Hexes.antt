-- Hexadecimal digits, two to a byte, the high one first: read in both cases, written in lower case.
use Rattle.std.specs.Prelude.{ℕ, ◌+◌, ◌-◌, ◌*◌, ◌/◌, ◌%◌, ◌<◌, Bool, true, false, cond, List, [], ◌∷◌, length, ◌==◌, nat_lt}

-- '0' to '9', 'A' to 'F', 'a' to 'f'
abbrev pub is_digit : ℕ → Bool
is_digit b = cond (nat_lt b 48) false (cond (nat_lt b 58) true (cond (nat_lt b 65) false (cond (nat_lt b 71) true (cond (nat_lt b 97) false (nat_lt b 103)))))

-- the value of a digit
abbrev pub value_of : ℕ → ℕ
value_of b = cond (nat_lt b 58) (b - 48) (cond (nat_lt b 71) (b - 55) (b - 87))

abbrev pub all_digits : List ℕ → Bool
all_digits [] = true
all_digits (b ∷ bs) = cond (is_digit b) (all_digits bs) false

abbrev pub is_hex : List ℕ → Bool
is_hex w = cond (length w % 2 == 0) (all_digits w) false

abbrev pub byte_of : ℕ → ℕ → ℕ
byte_of high low = value_of high * 16 + value_of low

abbrev pub IsByte : ℕ → Type 0
IsByte b = b < 256

-- the bytes that digits write
abbrev pub bytes_of : List ℕ → List ℕ
bytes_of [] = []
bytes_of (a ∷ []) = []
bytes_of (a ∷ b ∷ w) = byte_of a b ∷ bytes_of w

-- the digit of a value
abbrev pub digit_for : ℕ → ℕ
digit_for n = cond (nat_lt n 10) (48 + n) (87 + n)

-- the digits that bytes are written as
unfoldable pub hex_text : List ℕ → List ℕ
hex_text [] = []
hex_text (b ∷ bs) = digit_for (b / 16) ∷ digit_for (b % 16) ∷ hex_text bs
