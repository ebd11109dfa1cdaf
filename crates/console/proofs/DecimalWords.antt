-- A number in decimal digits is a word that is read back as that number.
use Rattle.std.proofs.Common.{◌≡◌, ℕ, ◌+◌, ◌-◌, ◌*◌, ◌/◌, ◌%◌, ◌<◌, ◌≤◌, List, [], ◌∷◌, ◌++◌, length, Some, decimal, refl, ap, ◌∙◌, arith, le-ltb}
use Rattle.std.proofs.lemmas.Fmt.{decimal_by_steps, decimal_nonempty, length-decimal-le}
use Rattle.bookings.specs.Ranges.{Each}
use Rattle.console.specs.Digits.{digits_after, number_of}
use Rattle.console.specs.Lines.{TenDigits}
use Rattle.console.specs.Words.{space}
use Rattle.console.proofs.Digits.{number_from_digits}

abbrev Digit : ℕ → Type 0
Digit b = (48 ≤ b) × (b ≤ 57)

-- some bytes, and no space among them
abbrev pub Word : List ℕ → Type 0
Word w = (0 < length w) × Each (λ b. b ≡ space → ⊥) w

digit_no_space : (ds : List ℕ) → Each Digit ds → Each (λ b. b ≡ space → ⊥) ds
digit_no_space [] all = tt
digit_no_space (b ∷ ds) all = (λ e. omega arith, digit_no_space ds all.1)

each_digit_push : (d : ℕ) (ds : List ℕ) → d ≤ 9 → Each Digit ds → Each Digit (ds ++ (48 + d) ∷ [])
each_digit_push d [] h all = ((omega arith, omega arith), tt)
each_digit_push d (b ∷ ds) h all = (all.0, each_digit_push d ds h all.1)

-- one more digit makes it ten times as much, and the digit
digits_push :
    (m q d : ℕ) (ds : List ℕ) → d ≤ 9 → Each Digit ds → digits_after m ds ≡ Some q → digits_after m (ds ++ (48 + d) ∷ []) ≡ Some (q * 10 + d)
digits_push m q d [] h all told =
    let same : m ≡ q = cc in
    let value : m * 10 + ((48 + d) - 48) ≡ q * 10 + d = omega arith in
    rw (le-ltb (48 + d) 48 (omega arith), le-ltb 57 (48 + d) (omega arith)) (ap Some value)
digits_push m q d (b ∷ ds) h all told =
    let low = le-ltb b 48 all.0.0 in
    let high = le-ltb 57 b all.0.1 in
    rw (low, high) (digits_push (m * 10 + (b - 48)) q d ds h all.1 (rw (low, high) at told))

abbrev Writes : ℕ → List ℕ → Type 0
Writes n ds = (digits_after 0 ds ≡ Some n) × Each Digit ds

one_digit : (n : ℕ) → n < 10 → Writes n ((48 + n) ∷ [])
one_digit n h = (digits_push 0 0 n [] (omega arith) tt refl ∙ ap Some (omega arith), ((omega arith, omega arith), tt))

more_digits : (n : ℕ) (ds : List ℕ) → 10 ≤ n → Writes (n / 10) ds → Writes n (ds ++ (48 + n % 10) ∷ [])
more_digits n ds h w =
    let whole : (n / 10) * 10 + n % 10 ≡ n = omega arith in (
      digits_push 0 (n / 10) (n % 10) ds (omega arith) w.1 w.0 ∙ ap Some whole,
      each_digit_push (n % 10) ds (omega arith) w.1,
    )

decimal_writes : (n : ℕ) → TenDigits n → Writes n (decimal n)
decimal_writes n h = decimal_by_steps Writes one_digit more_digits n (omega arith)

pub decimal_word : (n : ℕ) → TenDigits n → Word (decimal n)
decimal_word n h = (decimal_nonempty n (omega arith), digit_no_space (decimal n) (decimal_writes n h).1)

pub decimal-number : (n : ℕ) → TenDigits n → number_of (decimal n) ≡ Some n
decimal-number n h =
    number_from_digits (decimal n) (λ z. omega (arith, decimal_nonempty n (omega arith))) (length-decimal-le 10 n (omega arith) (omega arith) (omega arith))
    ∙ (decimal_writes n h).0
