-- Bytes and the numbers that they are.
use Rattle.std.proofs.Common.{◌≡◌, ℕ, zero, suc, ◌+◌, ◌*◌, ◌/◌, ◌%◌, ◌<◌, ◌≤◌, List, [], ◌∷◌, length, get_or, drop, refl, ap, arith, w8, Fits}
use Rattle.letters.specs.Format.{two, four}
use Rattle.letters.specs.Laws.{Bytes}

pub byte_at : (bs : List ℕ) (k : ℕ) → Bytes bs → get_or bs k 0 < 256
byte_at [] k ok = omega arith
byte_at (b ∷ bs) zero ok = ok.0
byte_at (b ∷ bs) (suc k) ok = byte_at bs k ok.1

pub bytes_drop : (n : ℕ) (bs : List ℕ) → Bytes bs → Bytes (drop n bs)
bytes_drop zero bs ok = ok
bytes_drop (suc n) [] ok = tt
bytes_drop (suc n) (b ∷ bs) ok = bytes_drop n bs ok.1

-- a list is its first byte and the rest, and so for two, four and five
pub split_one : (bs : List ℕ) → 1 ≤ length bs → bs ≡ get_or bs 0 0 ∷ drop 1 bs
split_one [] h = absurd (omega arith)
split_one (a ∷ r) h = refl

pub split-two : (bs : List ℕ) → 2 ≤ length bs → bs ≡ get_or bs 0 0 ∷ get_or bs 1 0 ∷ drop 2 bs
split-two [] h = absurd (omega arith)
split-two (a ∷ r) h = ap {B = List ℕ} (λ t. a ∷ t) (split_one r (omega arith))

pub split-four : (bs : List ℕ) → 4 ≤ length bs → bs ≡ get_or bs 0 0 ∷ get_or bs 1 0 ∷ get_or bs 2 0 ∷ get_or bs 3 0 ∷ drop 4 bs
split-four [] h = absurd (omega arith)
split-four (a ∷ []) h = absurd (omega arith)
split-four (a ∷ b ∷ r) h = ap {B = List ℕ} (λ t. a ∷ b ∷ t) (split-two r (omega arith))

pub split_five : (bs : List ℕ) → 5 ≤ length bs → bs ≡ get_or bs 0 0 ∷ get_or bs 1 0 ∷ get_or bs 2 0 ∷ get_or bs 3 0 ∷ get_or bs 4 0 ∷ drop 5 bs
split_five [] h = absurd (omega arith)
split_five (a ∷ r) h = ap {B = List ℕ} (λ t. a ∷ t) (split-four r (omega arith))

-- the bytes of the number that bytes are
pub two_back : (a b : ℕ) → a < 256 → b < 256 → two (a * 256 + b) ≡ a ∷ b ∷ []
two_back a b p q =
    let high : (a * 256 + b) / 256 % 256 ≡ a = omega arith in
    let low : (a * 256 + b) % 256 ≡ b = omega arith in
    rw (high, low) refl

pub four_back :
    (a b c d : ℕ) → a < 256 → b < 256 → c < 256 → d < 256 → four (a * 16777216 + b * 65536 + c * 256 + d) ≡ a ∷ b ∷ c ∷ d ∷ []
four_back a b c d p q r s =
    let n = a * 16777216 + b * 65536 + c * 256 + d in
    let first : n / 16777216 % 256 ≡ a = omega arith in
    let second : n / 65536 % 256 ≡ b = omega arith in
    let third : n / 256 % 256 ≡ c = omega arith in
    let last : n % 256 ≡ d = omega arith in
    rw (first, second, third, last) refl

-- what a slice of bytes holds
pub bytes_typed : (bs : List ℕ) → ((i : ℕ) → Fits w8 (get_or bs i 0)) → Bytes bs
bytes_typed [] fits = tt
bytes_typed (b ∷ bs) fits = ((fits 0).fits, bytes_typed bs (λ i. fits (suc i)))
