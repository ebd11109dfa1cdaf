-- Bytes in hexadecimal digits are a word that is read back as those bytes.
use Rattle.std.proofs.Common.{◌≡◌, ℕ, ◌+◌, ◌*◌, ◌/◌, ◌%◌, ◌<◌, ◌≤◌, Bool, true, false, cond, ltb, List, [], ◌∷◌, length, refl, ap, ◌∙◌, arith, ltb-false, ltb-true, le-ltb, lt-ltb, eq-eqb}
use Rattle.bookings.specs.Ranges.{Each}
use Rattle.console.specs.Hexes.{is_digit, value_of, all_digits, is_hex, byte_of, IsByte, bytes_of, digit_for, hex_text}
use Rattle.console.specs.Words.{space}
use Rattle.console.proofs.DecimalWords.{Word}

-- what is asked of the digit of a value
abbrev Stands : ℕ → ℕ → Type 0
Stands n d = (is_digit d ≡ true) × (value_of d ≡ n) × (d ≡ space → ⊥)

below_ten : (n : ℕ) → n < 10 → Stands n (48 + n)
below_ten n h =
    let low = le-ltb (48 + n) 48 (omega arith) in
    let high = lt-ltb (48 + n) 58 (omega arith) in
    (rw (low, high) refl, rw high (omega arith), λ e. omega arith)

from_ten : (n : ℕ) → 10 ≤ n → n < 16 → Stands n (87 + n)
from_ten n h l =
    let first = le-ltb (87 + n) 48 (omega arith) in
    let second = le-ltb (87 + n) 58 (omega arith) in
    let third = le-ltb (87 + n) 65 (omega arith) in
    let fourth = le-ltb (87 + n) 71 (omega arith) in
    let fifth = le-ltb (87 + n) 97 (omega arith) in
    let last = lt-ltb (87 + n) 103 (omega arith) in
    (rw (first, second, third, fourth, fifth, last) refl, rw (second, fourth) (omega arith), λ e. omega arith)

digit_by : (n : ℕ) (t : Bool) → ltb n 10 ≡ t → n < 16 → Stands n (cond t (48 + n) (87 + n))
digit_by n true e h = below_ten n (ltb-true n 10 e)
digit_by n false e h = from_ten n (ltb-false n 10 e) h

digit_stands : (n : ℕ) → n < 16 → Stands n (digit_for n)
digit_stands n h = digit_by n (ltb n 10) refl h

length-hex_text : (bytes : List ℕ) → length (hex_text bytes) ≡ 2 * length bytes
unfolding hex_text
length-hex_text [] = refl
length-hex_text (b ∷ bytes) = omega (arith, length-hex_text bytes)

-- a digit before digits
digits_behind : (d : ℕ) (w : List ℕ) → is_digit d ≡ true → all_digits w ≡ true → all_digits (d ∷ w) ≡ true
digits_behind d w one all = ap (λ t. cond t (all_digits w) false) one ∙ all

hex_text_digits : (bytes : List ℕ) → Each IsByte bytes → all_digits (hex_text bytes) ≡ true
unfolding hex_text
hex_text_digits [] all = refl
hex_text_digits (b ∷ bytes) all =
    let high = digit_stands (b / 16) (omega arith) in
    let low = digit_stands (b % 16) (omega arith) in
    digits_behind (digit_for (b / 16)) (digit_for (b % 16) ∷ hex_text bytes) high.0
    (digits_behind (digit_for (b % 16)) (hex_text bytes) low.0 (hex_text_digits bytes all.1))

pub hex_text-is_hex : (bytes : List ℕ) → Each IsByte bytes → is_hex (hex_text bytes) ≡ true
hex_text-is_hex bytes all = rw (eq-eqb (length (hex_text bytes) % 2) 0 (omega (arith, length-hex_text bytes))) (hex_text_digits bytes all)

pub bytes_of-hex_text : (bytes : List ℕ) → Each IsByte bytes → bytes_of (hex_text bytes) ≡ bytes
unfolding hex_text
bytes_of-hex_text [] all = refl
bytes_of-hex_text (b ∷ bytes) all =
    let high = (digit_stands (b / 16) (omega arith)).1 in
    let low = (digit_stands (b % 16) (omega arith)).1 in
    let whole : (b / 16) * 16 + b % 16 ≡ b = omega arith in
    ap (λ t. byte_of (digit_for (b / 16)) (digit_for (b % 16)) ∷ t) (bytes_of-hex_text bytes all.1)
    ∙ ap (λ t. (t * 16 + value_of (digit_for (b % 16))) ∷ bytes) high ∙ ap (λ t. ((b / 16) * 16 + t) ∷ bytes) low ∙ ap (λ t. t ∷ bytes) whole

no_space : (bytes : List ℕ) → Each IsByte bytes → Each (λ b. b ≡ space → ⊥) (hex_text bytes)
unfolding hex_text
no_space [] all = tt
no_space (b ∷ bytes) all = ((digit_stands (b / 16) (omega arith)).2, ((digit_stands (b % 16) (omega arith)).2, no_space bytes all.1))

pub hex_word : (bytes : List ℕ) → Each IsByte bytes → 0 < length bytes → Word (hex_text bytes)
hex_word bytes all some = (omega (arith, length-hex_text bytes), no_space bytes all)
